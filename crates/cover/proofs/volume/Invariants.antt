-- `cover::volume`, its loop: the product of the sides so far.
use Rattle.std.proofs.Common.{length}
use Rattle.cover.proofs.Sides.{Product}
use Rattle.cover.proofs.volume.Given as goal

abbrev pub invariant-loop-low : goal.invariant-loop-low
invariant-loop-low l =
    (goal.iterator-loop-low).can_next l.low-iterator ×
    (goal.iterator-loop-low).is_finite l.low-iterator ×
    Product l.region l.keys (length l.yielded)
