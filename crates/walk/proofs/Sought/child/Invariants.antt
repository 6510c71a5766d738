-- `walk::Sought::child`, its loop: what is left of the entries gives the child of the whole.
use Rattle.walk.specs.Pages.{entries_from}
use Rattle.walk.specs.Seek.{child_of}
use Rattle.words.specs.Words.{word_at}
use Rattle.kdb.specs.Pool.{domains}
use Rattle.std.proofs.Common.{◌≡◌}
use Rattle.walk.proofs.Sought.child.Given as goal

abbrev pub invariant-loop-e : goal.invariant-loop-e
invariant-loop-e l = child_of l.self.point.now (entries_from (domains l.self.pool.now) l.self.pool.now l.j (word_at l.self.pool.now l.j 1) l.e) ≡ child_of l.self.point.now (entries_from (domains l.self.pool.now) l.self.pool.now l.j (word_at l.self.pool.now l.j 1) 0)
