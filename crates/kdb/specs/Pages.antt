-- The layout of a pool's pages: document 01, "Pool layout". A page is free, or a point page with its splitting domain and records, or a
-- region page with its splitting domain and entries; `print_page` gives its words and `read_page` reads them back. L is the words of a
-- page and k the number of domains. Nothing outside this file knows where a word of a page but the header stands.
use Rattle.std.specs.Prelude.{Bool, true, false, cond, List, [], ◌∷◌, ◌++◌, map, ℕ, zero, suc, ◌+◌, ◌-◌, ◌*◌, ◌/◌, eqb, length, take, drop, get_or}
use Rattle.kdb.specs.Lists.{pad, gather}
use Rattle.kdb.specs.Box.{Box, sides}
use Rattle.kdb.specs.Tree.{Rec}

-- a region and the child's number
pub record Ent : Type 0 where
  pub box : Box
  pub child : ℕ

pub data Page : Type 0 where
  blank : Page
  points : ℕ → List Rec → Page
  regions : ℕ → List Ent → Page

-- R and P: the words less 4, divided by the words of an entry
abbrev pub regions_per : ℕ → ℕ → ℕ
regions_per L k = (L - 4) / (2 * k + 1)

abbrev pub points_per : ℕ → ℕ → ℕ
points_per L k = (L - 4) / (k + 1)

abbrev pub domain : Page → ℕ
domain blank = 0
domain (points d rs) = d
domain (regions d es) = d

abbrev pub recs_in : Page → List Rec
recs_in blank = []
recs_in (points d rs) = rs
recs_in (regions d es) = []

abbrev pub ents_in : Page → List Ent
ents_in blank = []
ents_in (points d rs) = []
ents_in (regions d es) = es

abbrev pub boxes_in : Page → List Box
boxes_in v = map (λ e. e.box) (ents_in v)

abbrev pub is_points : Page → Bool
is_points blank = false
is_points (points d rs) = true
is_points (regions d es) = false

abbrev pub is_regions : Page → Bool
is_regions blank = false
is_regions (points d rs) = false
is_regions (regions d es) = true

abbrev pub in_use : Page → Bool
in_use blank = false
in_use (points d rs) = true
in_use (regions d es) = true

-- a point entry is K keys, then the location
abbrev pub words_r : Rec → List ℕ
words_r r = r.key ++ (r.loc ∷ [])

-- a region entry is K lower ends, K upper ends, then the child's number
abbrev pub words_e : Ent → List ℕ
words_e e = map (λ s. s.lo) e.box ++ (map (λ s. s.hi) e.box ++ (e.child ∷ []))

-- kind, count, splitting domain, zero, the entries, zeros
abbrev pub layout : ℕ → ℕ → ℕ → ℕ → List ℕ → List ℕ
layout L kind count d ws = kind ∷ count ∷ d ∷ 0 ∷ pad (L - 4) ws

abbrev pub print_page : ℕ → Page → List ℕ
print_page L blank = pad L []
print_page L (regions d es) = layout L 1 (length es) d (gather words_e es)
print_page L (points d rs) = layout L 2 (length rs) d (gather words_r rs)

-- n entries from the first word on
abbrev pub read_recs : ℕ → ℕ → List ℕ → List Rec
read_recs k zero ws = []
read_recs k (suc n) ws = record { key = take k ws; loc = get_or ws k 0 } ∷ read_recs k n (drop (k + 1) ws)

abbrev pub read_ents : ℕ → ℕ → List ℕ → List Ent
read_ents k zero ws = []
read_ents k (suc n) ws = record { box = sides (take k ws) (take k (drop k ws)); child = get_or ws (2 * k) 0 } ∷ read_ents k n (drop (2 * k + 1) ws)

abbrev pub read_page : ℕ → List ℕ → Page
read_page k ws =
    let rs = read_recs k (get_or ws 1 0) (drop 4 ws) in
    let es = read_ents k (get_or ws 1 0) (drop 4 ws) in
    cond (eqb (get_or ws 0 0) 1) (regions (get_or ws 2 0) es) (cond (eqb (get_or ws 0 0) 2) (points (get_or ws 2 0) rs) blank)

-- page c of a pool
abbrev pub page : ℕ → List ℕ → ℕ → List ℕ
page L w c = take L (drop (L * c) w)
