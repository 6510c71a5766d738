-- `walk::Tour::page` and `subtree`, a loop and their measures: the state after the pages passed, then those left, is the state after all; the level falls.
use Rattle.walk.specs.List.{Kept, going, each, moved_by, toured}
use Rattle.kdb.specs.Calls.{L}
use Rattle.kdb.specs.Pool.{pages_in}
use Rattle.kdb.specs.Walk.{tour}
use Rattle.std.proofs.Common.{◌≡◌, ◌+◌, ◌-◌, ◌*◌, drop}
use Rattle.walk.proofs.Tour.+levels.Given as goal

abbrev pub decreases-page : goal.decreases-page
decreases-page l = 2 * l.level

abbrev pub decreases-subtree : goal.decreases-subtree
decreases-subtree l = 2 * l.levels + 1

abbrev pub invariant-page-loop-i : goal.invariant-page-loop-i
invariant-page-loop-i l =
    let w = l.self.pool.now in
    let v = l.self.window.now in
    Kept (pages_in L w) l.t
    × (moved_by (pages_in L w) (going l.t.reads l.t.total l.answer) (each (tour L w v (l.level - 1 - 1)) (drop l.i-index l.i-items)) ≡ toured w v l.fn.s l.initial.answer (l.level - 1) l.j)
