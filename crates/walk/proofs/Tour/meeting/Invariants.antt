-- `walk::Tour::meeting`, its loop: the children that are there, with those of the entries that are left, are those of the whole.
use Rattle.walk.specs.List.{children_met}
use Rattle.walk.specs.Pages.{entries_from}
use Rattle.words.specs.Words.{word_at}
use Rattle.kdb.specs.Pool.{domains}
use Rattle.std.proofs.Common.{◌≡◌, ◌≤◌, ◌++◌, take}
use Rattle.walk.proofs.Tour.meeting.Given as goal

abbrev pub invariant-loop-e : goal.invariant-loop-e
invariant-loop-e l = (l.m ≤ l.e)
    × (take l.m l.child ++ children_met l.self.window.now (entries_from (domains l.self.pool.now) l.self.pool.now l.j (word_at l.self.pool.now l.j 1) l.e) ≡ children_met l.self.window.now (entries_from (domains l.self.pool.now) l.self.pool.now l.j (word_at l.self.pool.now l.j 1) 0))
