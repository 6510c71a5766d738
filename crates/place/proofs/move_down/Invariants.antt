-- `place::move_down`, its loop: the words moved, then those left, give what all of them give.
use Prim.Native.Nat.{◌-◌, ◌+◌}
use mathlib.Core.Path.{◌≡◌}
use Rattle.steps.specs.Remove.{down_in}
use Rattle.place.proofs.move_down.Given as goal

abbrev pub invariant-loop-i : goal.invariant-loop-i
invariant-loop-i l = down_in l.wd (l.n - l.i) l.pool (l.a + l.i) ≡ down_in l.wd l.n l.initial.pool l.a
