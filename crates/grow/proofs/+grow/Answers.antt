-- `grow::grow` meets its contract: page j, `level` levels above the point pages, takes the point with its location.
use native.Mathlib.Omega.{arith}
use Rattle.grow.proofs.Laws as laws
use Rattle.grow.proofs.+grow.Goals as goal

pub returns-in_err-a-clause-words : goal.returns-in_err-a-clause-words
returns-in_err-a-clause-words t c =
    let s = c.in-Some.ensures in
    laws.grow_lost _ _ _ _ _ _ _ _ _ c.in-Some.below (omega arith) _ c.from_residual.ensures.0 (rw c.in_err-a.ensures.ok_part at c.seek.ensures.0)

pub returns-in-None-clause-words : goal.returns-in-None-clause-words
returns-in-None-clause-words t c =
    let s = c.in-Some.ensures in
    let a = (rw c.in_ok-a.ensures.ok_part at c.seek.ensures) in
    laws.grow_kept _ _ _ _ _ _ _ _ _ c.in-Some.below (omega arith) c.in_ok-a.a a.0 (omega arith) _ (rw (c.get-q.ensures.0, c.in-None.is) at c.in_ok-grow.ensures.words)
