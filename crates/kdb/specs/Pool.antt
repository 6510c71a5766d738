-- A pool's words: its header, its pages, and soundness, document 01's paragraph "A pool is sound when ..", with a field for each sentence,
-- said over the words and the pages.
use Rattle.std.specs.Prelude.{Bool, ◌&&◌, cond, List, [], ◌∷◌, map, ◌≡◌, ◌↔◌, ℕ, zero, suc, ◌-◌, ◌*◌, ◌/◌, ◌%◌, ◌≤◌, ◌<◌, T, leb, ltb, eqb, length, drop, get_or}
use Rattle.std.proofs.Math.Option.{Option, none, some}
use Rattle.kdb.specs.Lists.{bit, every, Each, gather, sum, many, up_from}
use Rattle.kdb.specs.Box.{∞, Box, whole, within, solid}
use Rattle.kdb.specs.Tiling.{Apart, Together}
use Rattle.kdb.specs.Header.{Header, read_header}
use Rattle.kdb.specs.Pages.{Ent, Page, blank, regions_per, points_per, domain, recs_in, ents_in, boxes_in, is_points, is_regions, in_use, print_page, read_page, page}
use Rattle.kdb.specs.Shape.{differ}

-- what the header says
abbrev pub domains : List ℕ → ℕ
domains w = (read_header w).domains

abbrev pub root_at : List ℕ → ℕ
root_at w = (read_header w).root

abbrev pub levels_at : List ℕ → ℕ
levels_at w = (read_header w).levels

abbrev pub count_at : List ℕ → ℕ
count_at w = (read_header w).count

-- K is 1 to 4, word 1 is N, the root is below N, levels are at most N − 1, root and levels are both zero or both not
abbrev pub good_words : ℕ → Header → Bool
good_words N h =
    leb 1 h.domains && leb h.domains 4 && eqb h.pages N && ltb h.root N && leb h.levels (N - 1)
    && eqb (bit (eqb h.root 0)) (bit (eqb h.levels 0))

-- the region of the first entry that names page j
abbrev pub naming : ℕ → List Ent → Option Box
naming j [] = none
naming j (e ∷ es) = cond (eqb j e.child) (some e.box) (naming j es)

-- L is the words of a page
module _ (L : ℕ) where
  abbrev pub pages_in : List ℕ → ℕ
  pages_in w = length w / L

  -- the pool is L × N words, N 2 to 512
  unfoldable pub good_length : List ℕ → Bool
  good_length w = eqb (length w % L) 0 && leb 2 (pages_in w) && leb (pages_in w) 512

  -- its words are good, the rest of its page is zero
  unfoldable pub good_header : List ℕ → Bool
  good_header w = good_words (pages_in w) (read_header w) && every (eqb 0) (drop 5 (page L w 0))

  -- the same, sentence by sentence and by the numbers of the words
  pub record GoodLength (w : List ℕ) : Type 0 where
    pub long : length w ≡ L * pages_in w
    pub least : 2 ≤ pages_in w
    pub most : pages_in w ≤ 512

  pub record GoodHeader (w : List ℕ) : Type 0 where
    pub least : 1 ≤ get_or w 0 0
    pub most : get_or w 0 0 ≤ 4
    pub size : get_or w 1 0 ≡ pages_in w
    pub root : get_or w 2 0 < pages_in w
    pub levels : get_or w 3 0 ≤ pages_in w - 1
    pub both : bit (eqb (get_or w 2 0) 0) ≡ bit (eqb (get_or w 3 0) 0)
    pub zeros : T (every (eqb 0) (drop 5 (page L w 0)))

  -- j is a number from 1 to N − 1
  abbrev pub is_page : List ℕ → ℕ → Bool
  is_page w j = leb 1 j && ltb j (pages_in w)

  -- page j as a page; the header and numbers past the last page count as free
  abbrev pub view : List ℕ → ℕ → Page
  view w j = cond (is_page w j) (read_page (domains w) (page L w j)) blank

  -- the numbers 1 to N − 1
  abbrev pub numbers : List ℕ → List ℕ
  numbers w = up_from (pages_in w - 1) 1

  -- the pages reached from page j over n levels, j among them
  abbrev pub reached_from : List ℕ → ℕ → ℕ → List ℕ
  reached_from w zero j = j ∷ []
  reached_from w (suc n) j = j ∷ gather (λ e. reached_from w n e.child) (ents_in (view w j))

  abbrev pub reached : List ℕ → List ℕ
  reached w = cond (eqb (levels_at w) 0) [] (reached_from w (levels_at w - 1) (root_at w))

  -- every path down from page j passes n region pages and ends in a point page
  abbrev pub Paths : List ℕ → ℕ → ℕ → Type 0
  Paths w zero j = T (is_points (view w j))
  Paths w (suc n) j = T (is_regions (view w j)) × Each (λ e. Paths w n e.child) (ents_in (view w j))

  pub record Sound (w : List ℕ) : Type 0 where
    pub words : T (good_length w)
    -- its header is good
    pub header : T (good_header w)
    -- every page has the layout, with counts within R or P; splitting domains are below K
    pub laid : (j : ℕ) → 1 ≤ j → j < pages_in w → page L w j ≡ print_page L (view w j)
    pub region_room : (j : ℕ) → length (ents_in (view w j)) ≤ regions_per L (domains w)
    pub point_room : (j : ℕ) → length (recs_in (view w j)) ≤ points_per L (domains w)
    pub splitting : (j : ℕ) → domain (view w j) < domains w
    -- the pages in use are exactly those reached from the root, each once
    pub used : (j : ℕ) → T (in_use (view w j)) ↔ (1 ≤ many j (reached w))
    pub once : (j : ℕ) → many j (reached w) ≤ 1
    -- no region page is empty
    pub filled : (j : ℕ) → T (is_regions (view w j)) → 1 ≤ length (ents_in (view w j))
    -- every path has the header's number of levels
    pub paths : (levels_at w ≡ 0 → ⊥) → Paths w (levels_at w - 1) (root_at w)
    -- the regions in a page are disjoint and not empty (so no lower end is ∞)
    pub apart : (j : ℕ) → Apart (boxes_in (view w j))
    pub solids : (j : ℕ) → T (every solid (boxes_in (view w j)))
    -- the root's regions together are the whole space
    pub space : T (is_regions (view w (root_at w))) → Together (whole (domains w)) (boxes_in (view w (root_at w)))
    -- a child region page's regions together are its entry's region
    pub nested : (j : ℕ) → Each (λ e. T (is_regions (view w e.child)) → Together e.box (boxes_in (view w e.child))) (ents_in (view w j))
    -- a child point page's points lie in its entry's region
    pub inside : (j : ℕ) → Each (λ e. T (every (λ r. within e.box r.key) (recs_in (view w e.child)))) (ents_in (view w j))
    -- points in a page differ, no point has a key of ∞, and word 4 counts all points
    pub distinct : (j : ℕ) → T (differ (recs_in (view w j)))
    pub finite : (j : ℕ) → T (every (λ r. every (λ x. ltb x ∞) r.key) (recs_in (view w j)))
    pub counted : count_at w ≡ sum (map (λ j. length (recs_in (view w j))) (numbers w))
    -- with no root, word 4 is 0 and all other pages are free
    pub rootless : root_at w ≡ 0 → (count_at w ≡ 0) × ((j : ℕ) → view w j ≡ blank)

  -- a page's own region: the one in the entry that names it, the root's the whole space; the header and free pages have none
  abbrev pub own_region : List ℕ → ℕ → Option Box
  own_region w j =
      cond (in_use (view w j)) (cond (eqb j (root_at w)) (some (whole (domains w))) (naming j (gather (λ i. ents_in (view w i)) (numbers w)))) none
