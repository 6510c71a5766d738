-- `walk::Sought::descend`, its loop: the walk from the page reached, after the pages read, is the walk from the root.
use Rattle.walk.specs.Seek.{sought_as}
use Rattle.kdb.specs.Calls.{L}
use Rattle.kdb.specs.Walk.{seek}
use Rattle.std.proofs.Common.{◌≡◌, ◌-◌, ◌<◌, ◌≤◌, ◌^◌}
use Rattle.walk.proofs.Sought.descend.Given as goal

abbrev pub invariant-loop : goal.invariant-loop
invariant-loop l = (l.j < 2 ^ 32) × (l.reads < l.counter) × (l.reads ≤ l.levels) × (sought_as l.reads (seek L l.self.pool.now l.self.point.now (l.levels - l.counter) l.j) ≡ sought_as 0 (seek L l.self.pool.now l.self.point.now (l.levels - 1) l.root))
