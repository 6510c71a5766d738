-- `words::good_header` meets its contract: the tests of the header's words are the definition's.
use Rattle.words.proofs.Laws.{both, below, zero_rest}
use Rattle.kdb.specs.Pool.{good_header}
use native.Mathlib.Omega.{arith}
use Rattle.words.proofs.good_header.Goals as goal

pub returns : goal.returns
unfolding good_header
returns c = let p = c.requires in rw (← p.1, ← zero_rest _ p.0, ← both, ← below _ c.args.n (omega (arith, p.0.least, p.1))) (cc)
