-- `words::all_finite` meets its contract: the chain's test is the definition's.
use Rattle.std.proofs.Common.{◌∙◌, rules, tests, ltb}
use Rattle.std.proofs.lemmas.Iterator.{YieldsList-from_slice}
use Rattle.std.proofs.lemmas.Iterator.Search.{all_from_yields_List}
use Rattle.kdb.specs.Box.{∞}
use Rattle.words.proofs.Chains.{all_every}
use Rattle.words.proofs.all_finite.Goals as goal

pub returns : goal.returns
returns c =
    all_from_yields_List (λ x. ltb x ∞) _ _ _ c.all.ensures.ran (YieldsList-from_slice c.args.words.now cc) (λ x b q k. search (rules, tests))
    ∙ all_every (λ x. ltb x ∞) c.args.words.now
