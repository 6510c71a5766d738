-- `words::zeros` meets its contract: what is left to test, with the flag, gives what the whole gives.
use Rattle.words.proofs.Loops.{all_next, zero_end}
use Rattle.std.proofs.Common.{sym, ◌∙◌, arith}
use Rattle.words.proofs.zeros.Goals as goal

pub loop-i-preserved : goal.loop-i-preserved
loop-i-preserved c = all_next _ _ _ _ _ _ _ c.loop-i.invariant (omega (arith, c.min-i-end.ensures, c.loop-i-test.true))

pub returns : goal.returns
returns c = sym (zero_end c.args.words.now c.args.to c.loop-i.i c.loop-i.ok (omega (arith, c.min-i-end.ensures, c.loop-i-test.false))) ∙ c.loop-i.invariant
