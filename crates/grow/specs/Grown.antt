-- How a page took an entry, and how a page of either kind takes one more, in the terms of the machine forms.
use Rattle.std.specs.Prelude.{List, map, ℕ, ◌+◌, ◌<◌, drop, Option, Some, None, Result, Ok, Err}
use Rattle.kdb.specs.Calls.{L}
use Rattle.kdb.specs.Cut.{Cut, cut_points, cut_regions}
use Rattle.kdb.specs.Pages.{regions_per, points_per, read_recs, read_ents}
use Rattle.kdb.specs.declared.Form.{Form}
use Rattle.words.specs.Words.{word, width_of, capacity_by}
use Rattle.words.specs.declared.Kind.{Kind}
use Rattle.words.specs.declared.Kind.TheVariants.{Region, Point}
use Rattle.deal.specs.Part.{PageIn}
use Rattle.deal.specs.declared.Wanting.{Wanting}
use Rattle.steps.specs.Grow.{short, fine, broke, Grown, settle_in, break_points, break_regions}
use Rattle.grow.specs.declared.Broken.{Broken}

-- not, for want of a page; with room; or broken
abbrev pub grown_as : Result (Option Broken) Wanting → List ℕ → Grown
grown_as (Err _) w = record { how = short; words = w }
grown_as (Ok None) w = record { how = fine; words = w }
grown_as (Ok (Some b)) w = record { how = broke b.cut.domain b.cut.key b.page; words = w }

-- a page that there is, and a domain
pub record Real (f : Form) (b : Broken) : Type 0 where
  pub page : PageIn f b.page
  pub domain : b.cut.domain < f.domains

-- the kind of a page with that level below it
abbrev pub kind_at : Option ℕ → Kind
kind_at None = Point
kind_at (Some _) = Region

-- the cut that the m entries of src offer from domain e on
abbrev pub cut_at : ℕ → Option ℕ → ℕ → List ℕ → ℕ → Cut
cut_at k None e src m = cut_points k e (read_recs k m (drop 4 src))
cut_at k (Some _) e src m = cut_regions k e (map (λ e. e.box) (read_ents k m (drop 4 src)))

-- the m entries of src are split along a cut
abbrev pub broken_at : ℕ → ℕ → Option ℕ → Cut → List ℕ → ℕ → ℕ → List ℕ → Grown
broken_at n k None c src m j w = break_points L n k (regions_per L k) (points_per L k) c src m j w
broken_at n k (Some level) c src m j w = break_regions L n k (regions_per L k) (points_per L k) level c src m j w

abbrev pub break_at : ℕ → ℕ → Option ℕ → ℕ → List ℕ → ℕ → ℕ → List ℕ → Grown
break_at n k below e src m j w = broken_at n k below (cut_at k below e src m) src m j w

-- page j takes the entry u behind its last one
abbrev pub settle_at : ℕ → ℕ → Option ℕ → List ℕ → ℕ → List ℕ → Grown
settle_at n k below u j w =
    let m = word L w j 1 in
    settle_in L (width_of (kind_at below) k) (capacity_by (kind_at below) k) (λ src. break_at n k below (word L w j 2) src (m + 1) j w) m u j w
