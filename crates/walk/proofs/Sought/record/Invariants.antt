-- `walk::Sought::record`, its loop: what is left of the records gives the end of the whole.
use Rattle.words.specs.Words.{word_at, records_from}
use Rattle.kdb.specs.Pool.{domains}
use Rattle.kdb.specs.Walk.{spots, spot_of}
use Rattle.std.proofs.Common.{◌≡◌}
use Rattle.walk.proofs.Sought.record.Given as goal

abbrev pub invariant-loop-slot : goal.invariant-loop-slot
invariant-loop-slot l = spot_of l.j l.self.point.now (spots l.j l.slot (records_from (domains l.self.pool.now) l.self.pool.now l.j (word_at l.self.pool.now l.j 1) l.slot)) ≡ spot_of l.j l.self.point.now (spots l.j 0 (records_from (domains l.self.pool.now) l.self.pool.now l.j (word_at l.self.pool.now l.j 1) 0))
