-- `words::copy`, its loop: what is left to store gives what the whole gives.
use Rattle.std.proofs.lemmas.List.Edits.{sets}
use Rattle.std.proofs.Common.{◌≡◌, length, drop}
use Rattle.words.proofs.copy.Given as goal

abbrev pub invariant-loop-i : goal.invariant-loop-i
invariant-loop-i l = (length l.to ≡ length l.initial.to) × (sets l.to l.i (drop l.i l.from) ≡ sets l.initial.to 0 l.from)
