-- What the tests of one page say: page j has the layout, and is a point page or a region page of region r.
use Rattle.std.specs.Prelude.{Bool, ◌&&◌, List, ℕ}
use Rattle.kdb.specs.Lists.{same}
use Rattle.kdb.specs.Box.{Box}
use Rattle.kdb.specs.Pages.{regions_per, points_per, domain, recs_in, boxes_in, is_points, is_regions, print_page, page}
use Rattle.kdb.specs.Shape.{point_page, region_page}
use Rattle.kdb.specs.Pool.{domains, view}

-- L is the words of a page, w the pool's words
module _ (L : ℕ) (w : List ℕ) where
  abbrev pub laid_out : ℕ → Bool
  laid_out j = same (page L w j) (print_page L (view L w j))

  -- page j has the layout, and is a point page of region r
  unfoldable pub sound_points : ℕ → Box → Bool
  sound_points j r =
      laid_out j && is_points (view L w j)
      && point_page (domains w) (regions_per L (domains w)) (points_per L (domains w)) (domain (view L w j)) (recs_in (view L w j)) r

  -- page j has the layout, and is a region page of region r
  unfoldable pub sound_regions : ℕ → Box → Bool
  sound_regions j r =
      laid_out j && is_regions (view L w j)
      && region_page (domains w) (regions_per L (domains w)) (points_per L (domains w)) (domain (view L w j)) (boxes_in (view L w j)) r
