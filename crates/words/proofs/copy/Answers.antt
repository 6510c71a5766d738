-- `words::copy` meets its contract: what is left to store gives what the whole gives.
use Rattle.words.proofs.Loops.{copy_end}
use Rattle.std.proofs.Common.{arith}
use Rattle.words.proofs.copy.Goals as goal

pub returns : goal.returns
returns c = let l = c.loop-i in
    copy_end l.to l.i _ c.args.from.now l.invariant.1 (omega (arith, c.loop-i-test.false, c.min-i-end.ensures, l.invariant.0))
