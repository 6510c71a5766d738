-- Laws of each way through the walk and of one turn over a page's entries, as code takes them.
use mathlib.Core.Bool.{Bool, true, false, ◌&&◌, ◌||◌, cond}
use mathlib.Core.List.{List, ◌∷◌, ◌++◌}
use mathlib.Core.Path.{◌≡◌, refl, sym, ap, ap₂, ◌∙◌}
use Prim.Native.Nat.{ℕ, zero, suc, ◌+◌, ◌-◌, ◌*◌, ◌<◌, ◌≤◌}
use native.Mathlib.Omega.{arith}
use native.Mathlib.Numerals.{add-one}
use lib.Dec.{eqb}
use lib.ListN.{length, take, drop, get_or, set, length-append}
use lib.Seq.{get_or-take, take-append_seam, drop-append_seam}
use borrow.Author.Tests.{eq-eqb, ne_eqb, lt-ltb, le-ltb}
use Rattle.std.specs.Prelude.{Option, Some, None}
use Rattle.std.specs.Option.{SomeIff, option_eq}
use Rattle.std.specs.List.{list_all, range_with_len}
use Rattle.kdb.specs.Lists.{every, up_from}
use Rattle.kdb.specs.Box.{Box, whole}
use Rattle.kdb.specs.Pages.{Ent, recs_in, ents_in, page}
use Rattle.kdb.specs.Pool.{domains, root_at, levels_at, count_at, pages_in, view}
use Rattle.kdb.specs.Calls.{L}
use Rattle.words.specs.Words.{region_at, whole_words, all_zero}
use Rattle.cover.specs.Boxes.{ents_of}
use Rattle.cover.proofs.Entries.{ents_turn, ents_end, region_is}
use Rattle.pages.specs.Tests.{PageOf}
use Rattle.pages.proofs.OnePage.{zero_page}
use Rattle.pages.specs.Kinds.{sound_points, sound_regions}
use Rattle.audit.specs.Walk.{Way, entry_by_entry, fresh, leaf_of, page_walk, root_walk, all_found, cleared_of, rest_of, unmarked, audited}

-- the entry at the front of words v, whose own words are p
ents_front : (k : ℕ) (v p u : List ℕ) → v ≡ p ++ u → length p ≡ 2 * k + 1 → ents_of k v ≡ record { box = region_at k p 0; child = get_or p (2 * k) 0 } ∷ ents_of k u
ents_front k v p u e l =
    let n : 2 * k + 1 ≤ length v = omega (arith, ap length e, length-append p u) in
    let a : take (2 * k + 1) v ≡ p = rw (e, ← l) (take-append_seam p u) in
    let b : drop (2 * k + 1) v ≡ u = rw (e, ← l) (drop-append_seam p u) in
    ents_turn k v n
    ∙ ap₂ ◌∷◌ (ap₂ (λ (x : Box) (y : ℕ). record { box = x; child = y }) (sym (ap (λ (x : List ℕ). region_at k x 0) (sym a) ∙ region_is k v))
    (sym (ap (λ (x : List ℕ). get_or x (2 * k) 0) (sym a) ∙ get_or-take (2 * k + 1) v (2 * k) 0 (omega arith)))) (ap (ents_of k) b)

module _ (step : Ent → ℕ → List Bool → Way) (k : ℕ) (v : List ℕ) (left : ℕ) (m : List Bool) (t : Way) (q : entry_by_entry step (ents_of k v) left m ≡ t) where
  pub entries_end : length v < 2 * k + 1 → (Some left, m) ≡ t
  unfolding entry_by_entry
  entries_end h = rw (ents_end k v h) at q

  -- what the entry at the front gives
  module _ (p u : List ℕ) (e : v ≡ p ++ u) (l : length p ≡ 2 * k + 1) where
    pub entries_bad : (m' : List Bool) → (None, m') ≡ step (record { box = region_at k p 0; child = get_or p (2 * k) 0 }) left m → (None, m') ≡ t
    unfolding entry_by_entry
    entries_bad m' s = rw (← s) at (rw (ents_front k v p u e l) at q)

    pub entries_next : (left' : ℕ) (m' : List Bool) → (Some left', m') ≡ step (record { box = region_at k p 0; child = get_or p (2 * k) 0 }) left m
        → entry_by_entry step (ents_of k u) left' m' ≡ t
    unfolding entry_by_entry
    entries_next left' m' s = rw (← s) at (rw (ents_front k v p u e l) at q)

module _ (l : ℕ) (w : List ℕ) (j : ℕ) (r : Box) (left : ℕ) (m : List Bool) where
  pub page_bad : fresh L w j m ≡ false → (None, m) ≡ page_walk L w (l - 1) j r left m
  unfolding page_walk
  page_bad a = go (l - 1)
    where
      go : (x : ℕ) → (None, m) ≡ page_walk L w x j r left m
      go zero = rw a
      go (suc x) = rw a

  module _ (a : fresh L w j m ≡ true) where
    pub page_leaf : l ≤ 1 → (leaf_of L w j r left, set m j true) ≡ page_walk L w (l - 1) j r left m
    unfolding page_walk
    page_leaf h = let z : l - 1 ≡ 0 = omega arith in rw (z, a)

    pub page_spoilt : 1 < l → sound_regions L w j r ≡ false → (None, set m j true) ≡ page_walk L w (l - 1) j r left m
    unfolding page_walk
    page_spoilt h t = let z : l - 1 ≡ suc (l - 1 - 1) = omega arith in rw (z, a, t)

    pub page_entries : 1 < l → sound_regions L w j r ≡ true
        → entry_by_entry (λ e. page_walk L w (l - 1 - 1) e.child e.box) (ents_in (view L w j)) left (set m j true) ≡ page_walk L w (l - 1) j r left m
    unfolding page_walk
    page_entries h t =
        let z : l - 1 ≡ suc (l - 1 - 1) = omega arith in
        let e : entry_by_entry (λ x. page_walk L w (l - 1 - 1) x.child x.box) (ents_in (view L w j)) left (set m j true) ≡ page_walk L w (suc (l - 1 - 1)) j r left m = rw (a, t) in
        e ∙ ap (λ (x : ℕ). page_walk L w x j r left m) (sym z)

module _ (w : List ℕ) (j : ℕ) (r : Box) (left : ℕ) where
  pub leaf_bad : sound_points L w j r ≡ false → None ≡ leaf_of L w j r left
  unfolding leaf_of
  leaf_bad g = rw g

  pub leaf_found : (n : ℕ) (o : Option ℕ) → sound_points L w j r ≡ true → n ≡ length (recs_in (view L w j)) → SomeIff o (n ≤ left) (left - n) → o ≡ leaf_of L w j r left
  unfolding leaf_of
  leaf_found n None g e s = let h : left < n = omega arith in rw (g, ← e, lt-ltb left n h)
  leaf_found n (Some x) g e s = rw (g, ← e, le-ltb left n s.0) (ap Some s.1)

module _ (w : List ℕ) (m : List Bool) where
  pub walk_none : levels_at w ≡ 0 → (Some (count_at w), m) ≡ root_walk L w m
  unfolding root_walk
  walk_none h = rw (eq-eqb _ _ h)

  pub walk_page : (levels_at w ≡ 0 → ⊥) → page_walk L w (levels_at w - 1) (root_at w) (whole (domains w)) (count_at w) m ≡ root_walk L w m
  unfolding root_walk
  walk_page h = rw (ne_eqb _ _ h)

-- page j was met, or its words are zero, as code tests it; the pages behind the header, as a chain over their numbers tests them
abbrev pub cleared_by : List ℕ → List Bool → ℕ → Bool
cleared_by w m j = get_or m j false || all_zero w (32 * j) (32 * j + 32 - 32 * j)

cleared_is : (w : List ℕ) (m : List Bool) (j : ℕ) → PageOf w j → cleared_by w m j ≡ cleared_of L w m j
unfolding cleared_of
cleared_is w m j i = rw (zero_page w j i) (go (get_or m j false))
  where
    go : (b : Bool) → b || every (eqb 0) (page L w j) ≡ cond b true (every (eqb 0) (page L w j))
    go true = refl
    go false = refl

pub rest_is : (w : List ℕ) (m : List Bool) → list_all (cleared_by w m) (range_with_len 1 (pages_in L w - 1)) ≡ rest_of L w m
unfolding rest_of
rest_is w m = go (pages_in L w - 1) 1 (omega arith) (omega arith)
  where
    go : (n a : ℕ) → 1 ≤ a → n ≤ pages_in L w - a → list_all (cleared_by w m) (range_with_len a n) ≡ every (cleared_of L w m) (up_from n a)
    go zero a h g = refl
    go (suc n) a h g =
        ap₂ ◌&&◌ (cleared_is w m a (record { some = h; page = omega arith }))
        (go n (a + 1) (omega arith) (omega arith) ∙ ap (λ (x : ℕ). every (cleared_of L w m) (up_from n x)) (add-one a))

-- the ends of the whole space of k domains are cut out of its entry
pub whole_words_lem : (k : ℕ) → 1 ≤ k → k ≤ 4 → region_at k whole_words (4 - k) ≡ whole k
whole_words_lem zero h g = absurd (omega arith)
whole_words_lem (suc zero) h g = refl
whole_words_lem (suc (suc zero)) h g = refl
whole_words_lem (suc (suc (suc zero))) h g = refl
whole_words_lem (suc (suc (suc (suc zero)))) h g = refl
whole_words_lem (suc (suc (suc (suc (suc k))))) h g = absurd (omega arith)

-- what an answer that is none, and one that is some, say of the test behind it
pub test_no : {A : Type 0} (b : Bool) (y : A) → None ≡ cond b (Some y) None → b ≡ false
test_no true y e = absurd (cc)
test_no false y e = refl

pub test_yes : {A : Type 0} (b : Bool) (x y : A) → Some x ≡ cond b (Some y) None → b ≡ true
test_yes true x y e = refl
test_yes false x y e = absurd (cc)

-- what the audit answers
found_is : (o : Option ℕ) → option_eq eqb o (Some 0) ≡ all_found o
found_is None = refl
found_is (Some n) = refl

module _ (w : List ℕ) (t : Way) (e : t ≡ root_walk L w unmarked) where
  pub audited_rest : option_eq eqb t.0 (Some 0) ≡ true → rest_of L w t.1 ≡ audited L w
  unfolding audited
  audited_rest h = let f = sym (found_is t.0) ∙ h in rw (← e, f)

  pub audited_bad : option_eq eqb t.0 (Some 0) ≡ false → false ≡ audited L w
  unfolding audited
  audited_bad h = let f = sym (found_is t.0) ∙ h in rw (← e, f)
