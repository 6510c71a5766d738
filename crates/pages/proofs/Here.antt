-- What the two tests of a page say of it.
use mathlib.Core.Bool.{◌&&◌}
use mathlib.Core.List.{List}
use mathlib.Core.Path.{◌≡◌, sym, subst}
use Prim.Native.Nat.{ℕ}
use lib.Dec.{T}
use Rattle.kdb.specs.Lists.{same}
use Rattle.kdb.specs.Box.{Box}
use Rattle.kdb.specs.Pages.{regions_per, points_per, domain, recs_in, boxes_in, is_points, is_regions, print_page, page}
use Rattle.kdb.specs.Shape.{PointPage, RegionPage}
use Rattle.kdb.specs.Pool.{domains, view}
use Rattle.kdb.proofs.Tests.{and_l, and_r, and_i}
use Rattle.kdb.proofs.Lists.{same_eq, same_refl}
use Rattle.kdb.proofs.Pool.{point_says, says_point, region_says, says_region}
use Rattle.pages.specs.Kinds.{laid_out, sound_points, sound_regions}

module _ (L : ℕ) (w : List ℕ) where
  -- what the two tests of a page say
  pub record PointsHere (j : ℕ) (r : Box) : Type 0 where
    pub laid : page L w j ≡ print_page L (view L w j)
    pub is : T (is_points (view L w j))
    pub shape : PointPage (domains w) (points_per L (domains w)) (domain (view L w j)) (recs_in (view L w j)) r

  pub record RegionsHere (j : ℕ) (r : Box) : Type 0 where
    pub laid : page L w j ≡ print_page L (view L w j)
    pub is : T (is_regions (view L w j))
    pub shape : RegionPage (domains w) (regions_per L (domains w)) (domain (view L w j)) (boxes_in (view L w j)) r

  pub points_say : (j : ℕ) (r : Box) → T (sound_points L w j r) → PointsHere j r
  unfolding sound_points
  points_say j r t =
      let v = view L w j in
      let u = and_l (laid_out L w j && is_points v) _ t in
      record {
        laid = same_eq (page L w j) (print_page L v) (and_l (laid_out L w j) _ u);
        is = and_r (laid_out L w j) _ u;
        shape = point_says (domains w) (regions_per L (domains w)) (points_per L (domains w)) (domain v) (recs_in v) r (and_r (laid_out L w j && is_points v) _ t);
      }

  pub say_points : (j : ℕ) (r : Box) → PointsHere j r → T (sound_points L w j r)
  unfolding sound_points
  say_points j r h =
      let v = view L w j in
      and_i (laid_out L w j && is_points v) _
      (and_i (laid_out L w j) _ (subst (λ (x : List ℕ). T (same x (print_page L v))) (sym h.laid) (same_refl (print_page L v))) h.is)
      (says_point (domains w) (regions_per L (domains w)) (points_per L (domains w)) (domain v) (recs_in v) r h.shape)

  pub regions_say : (j : ℕ) (r : Box) → T (sound_regions L w j r) → RegionsHere j r
  unfolding sound_regions
  regions_say j r t =
      let v = view L w j in
      let u = and_l (laid_out L w j && is_regions v) _ t in
      record {
        laid = same_eq (page L w j) (print_page L v) (and_l (laid_out L w j) _ u);
        is = and_r (laid_out L w j) _ u;
        shape = region_says (domains w) (regions_per L (domains w)) (points_per L (domains w)) (domain v) (boxes_in v) r (and_r (laid_out L w j && is_regions v) _ t);
      }

  pub say_regions : (j : ℕ) (r : Box) → RegionsHere j r → T (sound_regions L w j r)
  unfolding sound_regions
  say_regions j r h =
      let v = view L w j in
      and_i (laid_out L w j && is_regions v) _
      (and_i (laid_out L w j) _ (subst (λ (x : List ℕ). T (same x (print_page L v))) (sym h.laid) (same_refl (print_page L v))) h.is)
      (says_region (domains w) (regions_per L (domains w)) (points_per L (domains w)) (domain v) (boxes_in v) r h.shape)
