-- Bad pages: document 01, "For find and list a page is bad if its number is 0 or at least N, its kind is not point page at the last level
-- or region page above it, its count exceeds P or R, or a region page's count is 0; find also calls a region page bad if no entry holds
-- the point. In list the walk stops with refusal 6 before page read number N." They are read off the words here, apart from the walks of
-- Walk.antt: the demands say by them when find and list are refused, which pages they read, and what list finds.
use Rattle.std.specs.Prelude.{Bool, ◌||◌, not, cond, List, [], ◌∷◌, ℕ, zero, suc, ◌-◌, leb, ltb, eqb, length, take, get_or}
use Rattle.kdb.specs.Lists.{only, any_of, gather}
use Rattle.kdb.specs.Box.{Box, Key, within, in_window, meets}
use Rattle.kdb.specs.Tree.{Rec}
use Rattle.kdb.specs.Pages.{Ent, regions_per, points_per, recs_in, ents_in, page}
use Rattle.kdb.specs.Pool.{domains, root_at, levels_at, pages_in, is_page, view}

-- a page number that a walk comes to, and whether the page is bad there
pub record Stop : Type 0 where
  pub page : ℕ
  pub bad : Bool

-- a page of them is bad
abbrev pub spoilt : List Stop → Bool
spoilt ss = any_of (λ s. s.bad) ss

-- L is the words of a page, w the pool's words
module _ (L : ℕ) (w : List ℕ) where
  -- words 0 and 1 of page j: its kind and its count
  abbrev pub kind_at : ℕ → ℕ
  kind_at j = get_or (page L w j) 0 0

  abbrev pub size_at : ℕ → ℕ
  size_at j = get_or (page L w j) 1 0

  -- page number j, n levels above the point pages, is bad for list
  abbrev pub bad_page : ℕ → ℕ → Bool
  bad_page zero j = eqb j 0 || leb (pages_in L w) j || not (eqb (kind_at j) 2) || ltb (points_per L (domains w)) (size_at j)
  bad_page (suc n) j = eqb j 0 || leb (pages_in L w) j || not (eqb (kind_at j) 1) || ltb (regions_per L (domains w)) (size_at j) || eqb (size_at j) 0

  -- and for find, that seeks point p
  abbrev pub bad_for : Key → ℕ → ℕ → Bool
  bad_for p zero j = bad_page zero j
  bad_for p (suc n) j = bad_page (suc n) j || not (any_of (λ e. within e.box p) (ents_in (view L w j)))

  -- the pages from page j, n levels above the point pages, in order: children before the next entry, nothing below a bad page. `taken` gives
  -- the entries of a page that are gone into
  abbrev pub trail : (ℕ → ℕ → Bool) → (List Ent → List Ent) → ℕ → ℕ → List Stop
  trail bad taken zero j = record { page = j; bad = bad zero j } ∷ []
  trail bad taken (suc n) j =
      record { page = j; bad = bad (suc n) j } ∷ cond (bad (suc n) j) [] (gather (λ e. trail bad taken n e.child) (taken (ents_in (view L w j))))

  -- from the root: find goes into the first entry whose region holds the point, list into every entry whose region meets the window
  abbrev pub find_trail : Key → List Stop
  find_trail p = cond (eqb (levels_at w) 0) [] (trail (bad_for p) (λ es. take 1 (only (λ e. within e.box p) es)) (levels_at w - 1) (root_at w))

  abbrev pub list_trail : Box → List Stop
  list_trail v = cond (eqb (levels_at w) 0) [] (trail bad_page (λ es. only (λ e. meets e.box v) es) (levels_at w - 1) (root_at w))

  -- the pages read: up to the first bad one, which is read if it is a page
  abbrev pub up_to_bad : List Stop → List ℕ
  up_to_bad [] = []
  up_to_bad (s ∷ ss) = cond s.bad (cond (is_page L w s.page) (s.page ∷ []) []) (s.page ∷ up_to_bad ss)

  -- find is refused at a bad page, list there and before page read number N
  abbrev pub find_stops : Key → Bool
  find_stops p = spoilt (find_trail p)

  abbrev pub list_stops : Box → Bool
  list_stops v = spoilt (list_trail v) || leb (pages_in L w) (length (list_trail v))

  -- the records that list finds where it is not refused: page by page, in page order, those that the window holds
  abbrev pub list_records : Box → List Rec
  list_records v = gather (λ s. only (λ r. in_window v r.key) (recs_in (view L w s.page))) (list_trail v)
