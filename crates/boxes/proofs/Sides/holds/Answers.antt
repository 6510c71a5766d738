-- `boxes::Sides::holds` meets its contract: the chain over the domains is `within`.
use Rattle.std.proofs.Common.{◌∙◌, ap, rules}
use Rattle.std.proofs.lemmas.Iterator.{YieldsList-from_slice, YieldsList-from_zip}
use Rattle.words.proofs.Chains.{fold_all}
use Rattle.kdb.specs.Box.{within}
use Rattle.boxes.proofs.Tests.{holds_at, holds, seen}
use Rattle.boxes.proofs.Sides.holds.Goals as goal

pub returns : goal.returns
returns c =
    let s = c.self in
    let l = s.inside.low.now in
    let u = s.inside.high.now in
    let p = c.args.point.now in
    fold_all holds_at _ _ c.fold.ensures.ran (YieldsList-from_zip (YieldsList-from_zip (YieldsList-from_slice l cc) (YieldsList-from_slice u cc)) (YieldsList-from_slice p cc)) (λ a x b q k. search rules)
    ∙ holds l u p s.invariant.0 (seen _ l u _ s.view_is s.invariant.0 c.requires)
    ∙ ap (λ b. within b p) s.view_is
