-- `deal::deal_points`, its loop: the records dealt out, then those left, give what all of them give.
use Prim.Native.Nat.{◌-◌, ◌+◌, ◌*◌}
use mathlib.Core.Path.{◌≡◌}
use Rattle.steps.specs.Split.{points_in}
use Rattle.deal.proofs.deal_points.Given as goal

abbrev pub invariant-loop-i : goal.invariant-loop-i
invariant-loop-i l = points_in 32 l.k l.cut.domain l.cut.key (l.m - l.i) l.src (4 + l.i * (l.k + 1)) l.j l.r l.pool ≡ points_in 32 l.k l.cut.domain l.cut.key l.m l.src 4 l.j l.r l.initial.pool
