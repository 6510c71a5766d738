-- `cover::filled` meets its contract: the volumes of regions that fit add up to the region's exactly if they tile it.
use Rattle.std.proofs.Common.{◌≡◌, ℕ, ◌+◌, ◌*◌, ◌≤◌, ◌∙◌, refl, ap, ap₂, sym, length, nat_eq, arith, rules}
use Rattle.std.specs.List.{sum_by}
use Rattle.std.proofs.lemmas.Iterator.{YieldsList-from_map}
use Rattle.std.proofs.lemmas.Iterator.Consumers.{YieldsList-at, sum_by_from_yields_List, fits_by_from_yields_list}
use Rattle.std.proofs.lemmas.Iterator.Adapters.{serves_from_places}
use Rattle.boxes.proofs.Tests.{seen}
use Rattle.kdb.proofs.Tests.{of_true}
use Rattle.words.specs.Words.{region_at}
use Rattle.cover.specs.Boxes.{regions_of}
use Rattle.cover.specs.Volume.{volume_of, volumes_of}
use Rattle.cover.proofs.Entries.{pieces_of, YieldsList-from_chunks_exact, piece_of, volume_pieces}
use Rattle.cover.proofs.Tile.{fit_volumes, fit_tiles}
use Rattle.cover.proofs.filled.Goals as goal

pub sum-parts-requires-clause-can : goal.sum-parts-requires-clause-can
sum-parts-requires-clause-can c =
    let k = length c.region.inside.low.now in
    let ws = c.args.entries.now in
    let n : length c.args.region.now ≡ k = seen _ _ _ _ c.region.view_is c.region.invariant.0 refl in (
      search rules,
      serves_from_places (YieldsList-from_chunks_exact (2 * k + 1) ws (omega arith) (cc) (cc)) (λ x q r. search rules)
          (λ x i l e. let w : length x.now ≡ 2 * k + 1 = piece_of (2 * k + 1) ws i x.now l e in search rules),
    )

pub sum-parts-requires-clause-fits : goal.sum-parts-requires-clause-fits
sum-parts-requires-clause-fits c =
    let k = length c.region.inside.low.now in
    let ws = c.args.entries.now in
    let r = c.args.region.now in
    let n : length c.args.region.now ≡ k = seen _ _ _ _ c.region.view_is c.region.invariant.0 refl in
    let m : volumes_of (regions_of k ws) ≤ volume_of r = rw (← n) (fit_volumes r (regions_of (length r) ws) (of_true _ c.requires)) in
    fits_by_from_yields_list (λ x. volume_of (region_at k x 0)) (pieces_of (2 * k + 1) ws) c.map.result _
    (YieldsList-from_map _ (λ x. volume_of (region_at k x 0)) (YieldsList-at c.map.ensures.source (YieldsList-from_chunks_exact (2 * k + 1) ws (omega arith) (cc) (cc))) c.map.ensures.closure (λ x y q d. search rules))
    (omega (arith, m, volume_pieces k ws, c.volume-whole.ensures))

pub returns : goal.returns
returns c =
    let k = length c.region.inside.low.now in
    let ws = c.args.entries.now in
    let r = c.args.region.now in
    let n : length c.args.region.now ≡ k = seen _ _ _ _ c.region.view_is c.region.invariant.0 refl in
    let s : c.sum-parts.result ≡ sum_by (λ x. volume_of (region_at k x 0)) (pieces_of (2 * k + 1) ws) =
    sum_by_from_yields_List (λ x. volume_of (region_at k x 0)) (pieces_of (2 * k + 1) ws) c.map.result c.sum-parts.result c.sum-parts.ensures.ran
    (YieldsList-from_map _ (λ x. volume_of (region_at k x 0)) (YieldsList-at c.map.ensures.source (YieldsList-from_chunks_exact (2 * k + 1) ws (omega arith) (cc) (cc))) c.map.ensures.closure (λ x y q d. search rules)) in
    ap₂ nat_eq (s ∙ (volume_pieces k ws ∙ ap (λ (i : ℕ). volumes_of (regions_of i ws)) (sym n))) c.volume-whole.ensures
    ∙ fit_tiles r (regions_of (length r) ws) c.requires
