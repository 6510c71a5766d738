-- `words::zeros`, its loop: what is left to test, with the flag, gives what the whole gives.
use Rattle.words.specs.Words.{zero_at, all_zero}
use Rattle.words.specs.Loops.{all_by}
use Rattle.std.proofs.Common.{◌≡◌, ◌-◌}
use Rattle.words.proofs.zeros.Given as goal

abbrev pub invariant-loop-i : goal.invariant-loop-i
invariant-loop-i l = all_by (l.to - l.i) (zero_at l.words) 1 l.i l.ok ≡ all_zero l.words l.from (l.to - l.from)
