-- `boxes::Sides::takes` meets its contract: the chain over the domains is `in_window`.
use Rattle.std.proofs.Common.{◌∙◌, ap, rules}
use Rattle.std.proofs.lemmas.Iterator.{YieldsList-from_slice, YieldsList-from_zip}
use Rattle.words.proofs.Chains.{fold_all}
use Rattle.kdb.specs.Box.{in_window}
use Rattle.boxes.proofs.Tests.{takes_at, takes, seen}
use Rattle.boxes.proofs.Sides.takes.Goals as goal

pub returns : goal.returns
returns c =
    let s = c.self in
    let l = s.inside.low.now in
    let u = s.inside.high.now in
    let p = c.args.keys.now in
    fold_all takes_at _ _ c.fold.ensures.ran (YieldsList-from_zip (YieldsList-from_zip (YieldsList-from_slice l cc) (YieldsList-from_slice u cc)) (YieldsList-from_slice p cc)) (λ a x b q k. search rules)
    ∙ takes l u p s.invariant.0 (seen _ l u _ s.view_is s.invariant.0 c.requires)
    ∙ ap (λ b. in_window b p) s.view_is
