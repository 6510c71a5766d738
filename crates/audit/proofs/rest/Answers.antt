-- `audit::rest` meets its contract: the chain over the pages behind the header.
use Rattle.std.proofs.Common.{◌∙◌, ◌-◌, refl, rules, tests}
use Rattle.std.proofs.lemmas.Iterator.{YieldsList-from_range}
use Rattle.std.proofs.lemmas.Iterator.Search.{all_from_yields_List}
use Rattle.audit.proofs.Turns.{cleared_by, rest_is}
use Rattle.audit.proofs.rest.Goals as goal

pub returns : goal.returns
returns c =
    let w = c.args.pool.now in
    all_from_yields_List (cleared_by c.pool.inside.words.now c.args.met.now) c.all.new.self _ c.all.result c.all.ensures.ran (YieldsList-from_range 1 c.pages.result (c.pages.result - 1) refl refl) (λ x b q r. search (rules, tests))
    ∙ rw (c.pages.ensures.0, c.pool.view_is) (rest_is w c.args.met.now)
