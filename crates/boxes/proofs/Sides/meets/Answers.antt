-- `boxes::Sides::meets` meets its contract: the chain over the domains is `meets`.
use Rattle.std.proofs.Common.{◌∙◌, ap₂, rules}
use Rattle.std.proofs.lemmas.Iterator.{YieldsList-from_slice, YieldsList-from_zip}
use Rattle.words.proofs.Chains.{fold_all}
use Rattle.kdb.specs.Box.{meets}
use Rattle.boxes.proofs.Tests.{meets_at, meets_lem, as_long}
use Rattle.boxes.proofs.Sides.meets.Goals as goal

pub returns : goal.returns
returns c =
    let s = c.self in
    let v = c.window in
    let l = s.inside.low.now in
    let u = s.inside.high.now in
    let m = v.inside.low.now in
    let n = v.inside.high.now in
    fold_all meets_at _ _ c.fold.ensures.ran (YieldsList-from_zip (YieldsList-from_zip (YieldsList-from_slice l cc) (YieldsList-from_slice u cc)) (YieldsList-from_zip (YieldsList-from_slice m cc) (YieldsList-from_slice n cc))) (λ a x b q k. search rules)
    ∙ meets_lem l u m n s.invariant.0 v.invariant.0 (as_long _ _ l u m n s.view_is v.view_is s.invariant.0 v.invariant.0 c.requires)
    ∙ ap₂ meets s.view_is v.view_is
