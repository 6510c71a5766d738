-- The walks of find and list, over any words: document 01, "The walk is the source's Q1 to Q3: entries in page order, children before the
-- next entry." A walk is the list of the pages read, in order, up to where it stops, with how it ended and what it found.
use Rattle.std.specs.Prelude.{Bool, true, false, ◌&&◌, cond, List, [], ◌∷◌, ◌++◌, ℕ, zero, suc, ◌-◌, leb, ltb, eqb, length, take}
use Rattle.kdb.specs.Lists.{only, same}
use Rattle.kdb.specs.Box.{Box, Key, within, in_window, meets}
use Rattle.kdb.specs.Tree.{Rec}
use Rattle.kdb.specs.Pages.{Ent, regions_per, points_per, recs_in, ents_in, is_points, is_regions}
use Rattle.kdb.specs.Pool.{domains, root_at, levels_at, pages_in, is_page, view}

-- a record with its page and its slot, counted from 0
pub record Spot : Type 0 where
  pub page : ℕ
  pub slot : ℕ
  pub rec : Rec

-- the records of page j, the first in slot i
abbrev pub spots : ℕ → ℕ → List Rec → List Spot
spots j i [] = []
spots j i (r ∷ rs) = record { page = j; slot = i; rec = r } ∷ spots j (suc i) rs

-- the pages read, whether the walk met a bad page or its bound, and the records found, which count only where it did not
pub record Tour : Type 0 where
  pub read : List ℕ
  pub bad : Bool
  pub found : List Spot

-- nothing read; a bad page that has no number of a page; a bad page j; page j read
abbrev pub still : Tour
still = record { read = []; bad = false; found = [] }

abbrev pub astray : Tour
astray = record { read = []; bad = true; found = [] }

abbrev pub bad_at : ℕ → Tour
bad_at j = record { read = j ∷ []; bad = true; found = [] }

abbrev pub read_at : ℕ → List Spot → Tour
read_at j found = record { read = j ∷ []; bad = false; found = found }

-- one walk and, unless it met a bad page, the next
abbrev pub follow : Tour → Tour → Tour
follow a b = cond a.bad a (record { read = a.read ++ b.read; bad = b.bad; found = a.found ++ b.found })

-- the walk over entries: into those whose region meets the window
abbrev pub through : (ℕ → Tour) → Box → List Ent → Tour
through below v [] = still
through below v (e ∷ es) = follow (cond (meets e.box v) (below e.child) still) (through below v es)

-- the walk stops before page read number N, as at a bad page
abbrev pub bounded : ℕ → Tour → Tour
bounded N t = cond (ltb (length t.read) N) t (record { read = take (N - 1) t.read; bad = true; found = [] })

-- L is the words of a page, w the pool's words
module _ (L : ℕ) (w : List ℕ) where
  -- a point page with a count within P, a region page with a count of 1 to R
  abbrev pub good_points : ℕ → Bool
  good_points j = is_points (view L w j) && leb (length (recs_in (view L w j))) (points_per L (domains w))

  abbrev pub good_regions : ℕ → Bool
  good_regions j = is_regions (view L w j) && leb 1 (length (ents_in (view L w j))) && leb (length (ents_in (view L w j))) (regions_per L (domains w))

  -- list's walk of window v from page j, n levels above the point pages, with no bound
  abbrev pub tour : Box → ℕ → ℕ → Tour
  tour v zero j =
      cond (is_page L w j) (cond (good_points j) (read_at j (only (λ s. in_window v s.rec.key) (spots j 0 (recs_in (view L w j))))) (bad_at j)) astray
  tour v (suc n) j =
      let below = through (tour v n) v (ents_in (view L w j)) in
      cond (is_page L w j) (cond (good_regions j) (follow (read_at j []) below) (bad_at j)) astray

  abbrev pub list_walk : Box → Tour
  list_walk v = cond (eqb (levels_at w) 0) still (bounded (pages_in L w) (tour v (levels_at w - 1) (root_at w)))

-- how find's walk ends: no root; a bad page; the point page that lacks the point; the record
pub data End : Type 0 where
  rootless bad : End
  absent : ℕ → End
  here : Spot → End

pub record Search : Type 0 where
  pub read : List ℕ
  pub end : End

-- a search that read these pages and ended so; page j read before it
abbrev pub ends : List ℕ → End → Search
ends read end = record { read = read; end = end }

abbrev pub after : ℕ → Search → Search
after j s = ends (j ∷ s.read) s.end

-- the first spot with these keys
abbrev pub spot_of : ℕ → Key → List Spot → End
spot_of j p [] = absent j
spot_of j p (s ∷ ss) = cond (same p s.rec.key) (here s) (spot_of j p ss)

-- the walk into the first entry, in page order, whose region holds the point; a page with none is bad
abbrev pub into : (ℕ → Search) → Key → List Ent → Search
into below p [] = ends [] bad
into below p (e ∷ es) = cond (within e.box p) (below e.child) (into below p es)

module _ (L : ℕ) (w : List ℕ) where
  -- find's walk to point p from page j, n levels above the point pages
  abbrev pub seek : Key → ℕ → ℕ → Search
  seek p zero j =
      cond (is_page L w j) (cond (good_points L w j) (ends (j ∷ []) (spot_of j p (spots j 0 (recs_in (view L w j))))) (ends (j ∷ []) bad)) (ends [] bad)
  seek p (suc n) j =
      let below = into (seek p n) p (ents_in (view L w j)) in
      cond (is_page L w j) (cond (good_regions L w j) (after j below) (ends (j ∷ []) bad)) (ends [] bad)

  abbrev pub find_walk : Key → Search
  find_walk p = cond (eqb (levels_at w) 0) (ends [] rootless) (seek p (levels_at w - 1) (root_at w))
