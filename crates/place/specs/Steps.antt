-- The steps of placing before a pool that wants a page is restored, and what they ask of its header.
use Rattle.std.specs.Prelude.{cond, List, ℕ, ◌+◌, ◌-◌, ◌<◌, ◌^◌, eqb}
use Rattle.kdb.specs.Box.{Key}
use Rattle.kdb.specs.Calls.{L}
use Rattle.kdb.specs.Pages.{regions_per, points_per}
use Rattle.kdb.specs.Pool.{root_at, levels_at, count_at}
use Rattle.steps.specs.Machine.{Passed}
use Rattle.steps.specs.Grow.{grow_in}
use Rattle.steps.specs.Place.{topped_in, first_in}
use Rattle.place.specs.declared.Header.{Header}

abbrev pub header_of : List ℕ → Header
header_of w = record { root = root_at w; levels = levels_at w; count = count_at w }

-- a root, levels and a count that leave room for one more
pub record Topping (r l c : ℕ) : Type 0 where
  pub root : r < 2 ^ 32
  pub levels : l + 1 < 2 ^ 32
  pub count : c + 1 < 2 ^ 32

unfoldable pub steps_in : ℕ → ℕ → Key → ℕ → List ℕ → Passed
steps_in n k p l w =
    cond (eqb (levels_at w) 0) (first_in L n k p l w)
    (topped_in L n k (root_at w) (levels_at w) (count_at w) (grow_in L n k (regions_per L k) (points_per L k) p l (levels_at w - 1) (root_at w) w))
