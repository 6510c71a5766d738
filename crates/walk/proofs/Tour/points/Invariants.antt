-- `walk::Tour::points`, its loop: total and slots, with what is left of the records, are those of the whole.
use Rattle.walk.specs.List.{noted, held, found_in}
use Rattle.words.specs.Words.{word_at}
use Rattle.kdb.specs.Pool.{domains}
use Rattle.std.proofs.Common.{◌≡◌, ◌+◌, ◌≤◌}
use Rattle.walk.proofs.Tour.points.Given as goal

abbrev pub invariant-loop-slot : goal.invariant-loop-slot
invariant-loop-slot l = (l.t ≤ l.total + l.slot)
    × (noted l.t l.answer (held l.self.pool.now (domains l.self.pool.now) l.self.window.now l.j (word_at l.self.pool.now l.j 1) l.slot) ≡ found_in l.self.pool.now (domains l.self.pool.now) l.self.window.now l.j l.total l.initial.answer)
