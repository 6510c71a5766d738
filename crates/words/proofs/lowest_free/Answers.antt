-- `words::lowest_free` meets its contract: the first page that is found is the definition's.
use Rattle.std.proofs.Common.{◌≡◌, arith, rules, tests}
use Rattle.std.proofs.lemmas.Iterator.{first_from_Range, serves_from_Range}
use Rattle.words.specs.Words.{word_at}
use Rattle.words.proofs.Loops.{free_found}
use Rattle.words.proofs.lowest_free.Goals as goal

pub find-requires : goal.find-requires
find-requires c = record { can = tt; finite = tt; callable = serves_from_Range (λ x q k. search (rules, tests)) (λ x low high. omega (arith, high, c.requires)) }

pub returns : goal.returns
returns c =
    let w = c.args.words.now in
    free_found w c.args.n c.find.result (omega (arith, c.requires)) (first_from_Range _ _ _ _ (λ j. word_at w j 0 ≡ 0) (λ j. word_at w j 0 ≡ 0 → ⊥) c.find.ensures.ran
    (λ x q k. grind (arith, tests))
    (λ x q k. (search rules, grind (arith, tests))))
