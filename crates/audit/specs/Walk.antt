-- What the audit does: a walk from the root with a mark for each page met, each page held against its level and its own region, the points
-- counted down from word 4; then the pages not met are all zero. `Exact.audit_iff` says that it answers exactly as `Sound` does.
use Rattle.std.specs.Prelude.{Bool, true, false, ◌&&◌, not, cond, List, [], ◌∷◌, ℕ, zero, suc, ◌-◌, ltb, eqb, length, get_or, set, replicate, Option, Some, None}
use Rattle.kdb.specs.Lists.{every}
use Rattle.kdb.specs.Box.{Box, whole}
use Rattle.kdb.specs.Pages.{Ent, recs_in, ents_in, page}
use Rattle.kdb.specs.Pool.{domains, root_at, levels_at, count_at, pages_in, view, numbers}
use Rattle.pages.specs.Kinds.{sound_points, sound_regions}

-- how many points are still to be found, none where a page was bad, and the marks
abbrev pub Way : Type 0
Way = Option ℕ × List Bool

-- a mark for each of 512 pages
abbrev pub unmarked : List Bool
unmarked = replicate 512 false

-- j is a number below n that was not met
abbrev pub fresh_of : ℕ → ℕ → List Bool → Bool
fresh_of n j m = not (eqb j 0) && ltb j n && not (get_or m j false)

-- on with the walk, where no page was bad
abbrev pub onward : Option ℕ → List Bool → (ℕ → List Bool → Way) → Way
onward None m f = (None, m)
onward (Some left) m f = f left m

-- entry by entry
unfoldable pub entry_by_entry : (Ent → ℕ → List Bool → Way) → List Ent → ℕ → List Bool → Way
entry_by_entry step [] left m = (Some left, m)
entry_by_entry step (e ∷ es) left m = let t = step e left m in onward t.0 t.1 (entry_by_entry step es)

-- no page was bad, and all points are found
abbrev pub all_found : Option ℕ → Bool
all_found None = false
all_found (Some left) = eqb left 0

-- L is the words of a page, w the pool's words
module _ (L : ℕ) (w : List ℕ) where
  abbrev pub fresh : ℕ → List Bool → Bool
  fresh j m = fresh_of (pages_in L w) j m

  -- the points of page j are found
  unfoldable pub leaf_of : ℕ → Box → ℕ → Option ℕ
  leaf_of j r left =
      let n = length (recs_in (view L w j)) in
      cond (sound_points L w j r) (cond (ltb left n) None (Some (left - n))) None

  -- page j, l levels of region pages above the points, of region r, and all below it
  unfoldable pub page_walk : ℕ → ℕ → Box → ℕ → List Bool → Way
  page_walk zero j r left m = cond (fresh j m) (leaf_of j r left, set m j true) (None, m)
  page_walk (suc l) j r left m =
      let t = entry_by_entry (λ e. page_walk l e.child e.box) (ents_in (view L w j)) left (set m j true) in
      cond (fresh j m) (cond (sound_regions L w j r) t (None, set m j true)) (None, m)

  -- all that the header's root names
  unfoldable pub root_walk : List Bool → Way
  root_walk m =
      let t = page_walk (levels_at w - 1) (root_at w) (whole (domains w)) (count_at w) m in
      cond (eqb (levels_at w) 0) (Some (count_at w), m) t

  -- page j was met, or is all zero
  unfoldable pub cleared_of : List Bool → ℕ → Bool
  cleared_of m j = cond (get_or m j false) true (every (eqb 0) (page L w j))

  unfoldable pub rest_of : List Bool → Bool
  rest_of m = every (cleared_of m) (numbers L w)

  unfoldable pub audited : Bool
  audited = let t = root_walk unmarked in all_found t.0 && rest_of t.1
