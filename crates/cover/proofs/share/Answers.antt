-- `cover::share` meets its contract: the chain over the domains is `overlap`.
use Rattle.std.proofs.Common.{◌≡◌, ◌∙◌, refl, ap₂, length, arith, rules, tests}
use Rattle.std.proofs.lemmas.Iterator.{YieldsList-from_range, serves_from_Range}
use Rattle.std.proofs.lemmas.Iterator.Search.{all_from_yields_List}
use Rattle.cover.specs.Boxes.{overlap, overlap_side}
use Rattle.cover.proofs.Sides.{side_of, beside}
use Rattle.boxes.proofs.Tests.{as_long}
use Rattle.cover.proofs.share.Goals as goal

pub all-requires-clause-callable : goal.all-requires-clause-callable
all-requires-clause-callable c =
    let s = c.one in
    let v = c.other in
    let ends : length s.inside.low.now ≡ length s.inside.high.now = s.invariant.0 in
    let others : length v.inside.low.now ≡ length v.inside.high.now = v.invariant.0 in
    let as_long : length v.inside.low.now ≡ length s.inside.low.now = as_long _ _ _ _ _ _ s.view_is v.view_is s.invariant.0 v.invariant.0 c.requires in
    serves_from_Range (λ x q r. search rules) (λ x g h. search rules)

pub returns : goal.returns
returns c =
    let s = c.one in
    let v = c.other in
    let l = s.inside.low.now in
    let u = s.inside.high.now in
    let m = v.inside.low.now in
    let n = v.inside.high.now in
    all_from_yields_List (λ d. overlap_side (side_of l u d) (side_of m n d)) c.all.new.self _ c.all.result c.all.ensures.ran (YieldsList-from_range 0 (length l) (length l) refl (omega arith)) (λ x b q k. search (rules, tests))
    ∙ beside overlap_side l u m n s.invariant.0 v.invariant.0 (as_long _ _ l u m n s.view_is v.view_is s.invariant.0 v.invariant.0 c.requires) 0 (length l) (omega arith)
    ∙ ap₂ overlap s.view_is v.view_is
