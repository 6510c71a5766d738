-- `pages::distinct`, its loop: the points that were met differ and have their marks.
use Rattle.std.proofs.Common.{length}
use Rattle.pages.proofs.Bits.{At}
use Rattle.pages.proofs.distinct.Given as goal

abbrev pub invariant-loop-point : goal.invariant-loop-point
invariant-loop-point l = At l.k l.points l.rest l.marks

abbrev pub decreases-loop-point : goal.decreases-loop-point
decreases-loop-point l = length l.rest
