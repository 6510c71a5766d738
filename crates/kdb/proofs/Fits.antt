-- What a call returns fits a word: on words below 2 ^ 32 every value is below 2 ^ 32. A location is a word of the pool, and the pages
-- read and the records found are few.
use mathlib.Core.Bool.{Bool, true, false, cond}
use mathlib.Core.List.{List, [], ◌∷◌}
use mathlib.Core.Path.{◌≡◌, refl, ap}
use Prim.Native.Nat.{ℕ, zero, suc, ◌+◌, ◌-◌, ◌*◌, ◌^◌, ◌<◌, ◌≤◌}
use native.Mathlib.Nat.{div-le_self}
use native.Mathlib.Omega.{arith}
use lib.Dec.{T, eqb, leb→le}
use lib.ListN.{length, drop, get_or, length-append}
use Rattle.kdb.specs.Lists.{Each, only}
use Rattle.kdb.specs.Box.{Box, Key, in_window}
use Rattle.kdb.specs.Tree.{Rec}
use Rattle.kdb.specs.Pages.{blank, points, regions, points_per, is_points, recs_in, read_recs, read_ents, read_page, page}
use Rattle.kdb.specs.Pool.{domains, root_at, levels_at, view, is_page}
use Rattle.kdb.specs.Walk.{Spot, spots, Tour, good_points, list_walk, End, find_walk}
use Rattle.kdb.specs.Calls.{L}
use Rattle.kdb.proofs.Tests.{cases, and_r}
use Rattle.kdb.proofs.Lists.{each_take, each_drop}
use Rattle.kdb.proofs.Counts.{only_most}
use Rattle.kdb.proofs.Walk.{tour_all, list_all, Ends, find_ends}

abbrev pub Word : ℕ → Type 0
Word x = x < 2 ^ 32

-- each of a list's words, and a word of each
pub each_word : (ws : List ℕ) → ((i : ℕ) → Word (get_or ws i 0)) → Each Word ws
each_word [] h = tt
each_word (x ∷ ws) h = (h 0, each_word ws (λ i. h (suc i)))

each_get : (ws : List ℕ) (i : ℕ) → Each Word ws → Word (get_or ws i 0)
each_get [] i h = omega arith
each_get (x ∷ ws) zero h = h.0
each_get (x ∷ ws) (suc i) h = each_get ws i h.1

-- a location is a word
abbrev Sited : Rec → Type 0
Sited r = Word r.loc

abbrev pub SitedSpot : Spot → Type 0
SitedSpot s = Sited s.rec

recs_sited : (k n : ℕ) (ws : List ℕ) → Each Word ws → Each Sited (read_recs k n ws)
recs_sited k zero ws h = tt
recs_sited k (suc n) ws h = (each_get ws k h, recs_sited k n (drop (k + 1) ws) (each_drop Word (k + 1) ws h))

page_sited : (k : ℕ) (ws : List ℕ) → Each Word ws → Each Sited (recs_in (read_page k ws))
page_sited k ws h = go (eqb (get_or ws 0 0) 1) (eqb (get_or ws 0 0) 2)
  where
    go : (a b : Bool) → Each Sited (recs_in (cond a (regions (get_or ws 2 0) (read_ents k (get_or ws 1 0) (drop 4 ws)))
        (cond b (points (get_or ws 2 0) (read_recs k (get_or ws 1 0) (drop 4 ws))) blank)))
    go true b = tt
    go false true = recs_sited k (get_or ws 1 0) (drop 4 ws) (each_drop Word 4 ws h)
    go false false = tt

spots_sited : (j i : ℕ) (rs : List Rec) → Each Sited rs → Each SitedSpot (spots j i rs)
spots_sited j i [] h = tt
spots_sited j i (r ∷ rs) h = (h.0, spots_sited j (suc i) rs h.1)

-- where find ends, the location is a word
abbrev pub SitedEnd : End → Type 0
SitedEnd e = Ends SitedSpot e

-- the records found are at most as many for each page read as its words but four
abbrev pub Few : Tour → Type 0
Few t = length t.found ≤ (L - 4) * length t.read

length_spots : (j i : ℕ) (rs : List Rec) → length (spots j i rs) ≡ length rs
length_spots j i [] = refl
length_spots j i (r ∷ rs) = ap suc (length_spots j (suc i) rs)

module _ (w : List ℕ) where
  view_sited : (j : ℕ) → Each Word w → Each Sited (recs_in (view L w j))
  view_sited j h =
      cases (λ b. Each Sited (recs_in (cond b (read_page (domains w) (page L w j)) blank))) (is_page L w j)
      (λ _. page_sited (domains w) (page L w j) (each_take Word L (drop (L * j) w) (each_drop Word (L * j) w h))) (λ _. tt)

  pub find_sited : (p : Key) → Each Word w → SitedEnd (find_walk L w p).end
  find_sited p h = find_ends L w p SitedSpot SitedSpot (λ x a _. a) (λ j. spots_sited j 0 (recs_in (view L w j)) (view_sited j h))

  page_few : (v : Box) (j : ℕ) → T (good_points L w j) → length (only (λ s. in_window v s.rec.key) (spots j 0 (recs_in (view L w j)))) ≤ L - 4
  page_few v j g =
      let rs = recs_in (view L w j) in
      omega (arith, only_most (λ s. in_window v s.rec.key) (spots j 0 rs), length_spots j 0 rs, leb→le (length rs) (points_per L (domains w)) (and_r (is_points (view L w j)) _ g), div-le_self (L - 4) (domains w + 1))

  pub list_few : (v : Box) → Few (list_walk L w v)
  list_few v =
      let h = tour_all L w v Few
      (record {
        none = omega arith;
        lost = omega arith;
        spoilt = λ j y. omega arith;
        page = λ j y. omega arith;
        last = λ j y g. omega (arith, page_few v j g);
        both = λ a b s t. simp length-append (omega arith);
      })
      (levels_at w - 1) (root_at w) in
      list_all L w v Few (omega arith) (λ _. h) (omega arith)
