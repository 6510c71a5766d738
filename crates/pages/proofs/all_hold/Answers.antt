-- `pages::all_hold` meets its contract: domain by domain over all points.
use Rattle.std.proofs.Common.{◌≡◌, ◌≤◌, refl, ◌+◌, ◌/◌, ◌∙◌, ap₂, sym, length, get_or, arith, rules, tests}
use Rattle.std.proofs.lemmas.Iterator.{YieldsList-from_range, serves_from_Range}
use Rattle.std.proofs.lemmas.Iterator.Search.{all_from_yields_List}
use Rattle.std.proofs.Math.Nat.{div-add-mod'}
use Rattle.kdb.specs.Lists.{every}
use Rattle.kdb.specs.Box.{within}
use Rattle.kdb.proofs.Pages.{recs_keys}
use Rattle.boxes.proofs.Tests.{seen}
use Rattle.pages.specs.Tests.{column_in, recs_of}
use Rattle.pages.proofs.Slots.{all_columns}
use Rattle.pages.proofs.all_hold.Goals as goal

pub all-requires-clause-callable : goal.all-requires-clause-callable
all-requires-clause-callable c =
    let s = c.region.inside in
    let few : length s.low.now ≤ 4 = c.region.invariant.1 in
    let same : length s.low.now ≡ length s.high.now = c.region.invariant.0 in
    serves_from_Range (λ x q r. search rules) (λ x g h. search rules)

pub returns : goal.returns
returns c =
    let s = c.region.inside in
    let ls = s.low.now in
    let us = s.high.now in
    let k = length ls in
    let rs = recs_of k c.args.points.now in
    all_from_yields_List (λ d. column_in d (record { lo = get_or ls d 0; hi = get_or us d 0 }) rs) c.all.new.self _ c.all.result c.all.ensures.ran (YieldsList-from_range 0 k k refl (omega arith)) (λ p b q r. search (rules, tests))
    ∙ (all_columns k ls us rs (recs_keys k (length c.args.points.now / (k + 1)) c.args.points.now (omega (arith, div-add-mod' (length c.args.points.now) (k + 1)))) refl (sym c.region.invariant.0) 0 k (omega arith)
    ∙ ap₂ (λ b n. every (λ x. within b x.key) (recs_of n c.args.points.now)) c.region.view_is (sym (seen _ ls us _ c.region.view_is c.region.invariant.0 refl)))
