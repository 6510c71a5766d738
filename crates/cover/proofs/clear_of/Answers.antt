-- `cover::clear_of` meets its contract: the chain over the entries is `clear_of`.
use Rattle.std.proofs.Common.{◌≡◌, ℕ, ◌+◌, ◌*◌, ◌∙◌, refl, ap, sym, length, not, arith, rules, tests}
use Rattle.std.proofs.lemmas.Iterator.Search.{all_from_yields_List}
use Rattle.std.proofs.lemmas.Iterator.Adapters.{serves_from_places}
use Rattle.boxes.proofs.Tests.{seen}
use Rattle.words.specs.Words.{region_at}
use Rattle.cover.specs.Boxes.{overlap, clear_of, regions_of}
use Rattle.cover.proofs.Entries.{YieldsList-from_chunks_exact, piece_of, clear_pieces}
use Rattle.cover.proofs.clear_of.Goals as goal

pub all-requires-clause-callable : goal.all-requires-clause-callable
all-requires-clause-callable c =
    let k = length c.region.inside.low.now in
    let ws = c.args.entries.now in
    let n : length c.args.region.now ≡ k = seen _ _ _ _ c.region.view_is c.region.invariant.0 refl in
    serves_from_places (YieldsList-from_chunks_exact (2 * k + 1) ws (omega arith) (cc) (cc)) (λ x q r. search rules)
    (λ x i l e. let w : length x.now ≡ 2 * k + 1 = piece_of (2 * k + 1) ws i x.now l e in search rules)

pub returns : goal.returns
returns c =
    let k = length c.region.inside.low.now in
    let ws = c.args.entries.now in
    let n : length c.args.region.now ≡ k = seen _ _ _ _ c.region.view_is c.region.invariant.0 refl in
    all_from_yields_List (λ x. not (overlap c.args.region.now (region_at k x 0))) c.all.new.self _ c.all.result c.all.ensures.ran (YieldsList-from_chunks_exact (2 * k + 1) ws (omega arith) (cc) (cc)) (λ x b q r. search (rules, tests))
    ∙ clear_pieces k c.args.region.now ws
    ∙ ap (λ (i : ℕ). clear_of c.args.region.now (regions_of i ws)) (sym n)
