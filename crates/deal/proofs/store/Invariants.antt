-- `deal::store`, its loop: what is left to store gives what the whole gives.
use Rattle.std.proofs.lemmas.List.Edits.{sets}
use Rattle.std.proofs.Common.{◌≡◌, ◌+◌, drop}
use Rattle.deal.proofs.store.Given as goal

abbrev pub invariant-loop-i : goal.invariant-loop-i
invariant-loop-i l = sets l.x (l.start + l.i) (drop l.i l.src) ≡ sets l.initial.x l.at l.src
