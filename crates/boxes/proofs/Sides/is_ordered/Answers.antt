-- `boxes::Sides::is_ordered` meets its contract: the chain over the domains is `ordered`.
use Rattle.std.proofs.Common.{◌∙◌, ap, rules, tests}
use Rattle.std.proofs.lemmas.Iterator.{YieldsList-from_slice, YieldsList-from_zip}
use Rattle.std.proofs.lemmas.Iterator.Search.{all_from_yields_List}
use Rattle.kdb.specs.Calls.{ordered}
use Rattle.boxes.proofs.Tests.{ordered_at, ordered_lem}
use Rattle.boxes.proofs.Sides.is_ordered.Goals as goal

pub returns : goal.returns
returns c =
    let s = c.self in
    let l = s.inside.low.now in
    let u = s.inside.high.now in
    all_from_yields_List ordered_at c.all.new.self _ c.all.result c.all.ensures.ran (YieldsList-from_zip (YieldsList-from_slice l cc) (YieldsList-from_slice u cc)) (λ x b q k. search (rules, tests))
    ∙ ordered_lem l u s.invariant.0
    ∙ ap ordered s.view_is
