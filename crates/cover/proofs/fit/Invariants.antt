-- `cover::fit`, its loop: the entries that are left have the answer of all.
use Rattle.std.proofs.Common.{◌≡◌, length}
use Rattle.cover.specs.Boxes.{fitted, regions_of}
use Rattle.cover.proofs.fit.Given as goal

abbrev pub invariant-loop-entry : goal.invariant-loop-entry
invariant-loop-entry l = fitted l.region (regions_of (length l.region) l.rest) ≡ fitted l.region (regions_of (length l.region) l.entries)

abbrev pub decreases-loop-entry : goal.decreases-loop-entry
decreases-loop-entry l = length l.rest
