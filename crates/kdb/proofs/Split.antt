-- Splitting a tree in total form: `need` counts the pages claimed and `half` is the tree on a side, so that `split_some` and `split_none`
-- say what `split` gives. Both halves are well formed, and pages and records are kept, whatever is counted.
use mathlib.Core.Bool.{Bool, true, false, cond}
use mathlib.Core.List.{List, [], ◌∷◌, ◌++◌}
use mathlib.Core.Option.{none, some}
use mathlib.Core.Path.{◌≡◌, refl, sym, ap, ◌∙◌, subst}
use Prim.Native.Nat.{ℕ, zero, suc, ◌+◌, ◌<◌, ◌≤◌}
use native.Mathlib.Omega.{arith}
use native.Mathlib.Nat.{zero-add, mod-lt}
use lib.Dec.{T, leb, eqb, leb→le, nleb→lt, eqb→eq}
use lib.ListN.{length, take, drop, get_or, length-drop, take-append-drop}
use lib.Seq.{take-add, drop-drop}
use Rattle.kdb.specs.Lists.{only, tally, every, same}
use Rattle.kdb.specs.Box.{Box, within, solid, left_part, right_part}
use Rattle.kdb.specs.Tree.{Rec, Tree, leaf, node, Forest, fnil, fcons, dom, boxes, levels, levels_f, pages, pages_f, records, records_f}
use Rattle.kdb.specs.Cut.{Lies, left, right, across, lies, is_left}
use Rattle.kdb.specs.Tiling.{Tiles}
use Rattle.kdb.specs.Shape.{differ, PointPage, RegionPage, Shaped, ShapedF}
use Rattle.kdb.specs.Steps.{after_chosen, after_forced, Two, TwoF, deal, split, split_f}
use Rattle.kdb.proofs.Tests.{and_l, and_r, and_i, bool, cases, to_bit}
use Rattle.kdb.proofs.Counts.{tally_append, length_only, tally_most, in_head, every_only, tally_only, tally_halves}
use Rattle.kdb.proofs.Tiling.{low, low_in, solid_of, tiles_counted, lies_case, Inside, on, part, keep, parts, part_within, part_solid, tiles_part}
use Rattle.kdb.proofs.Cut.{parts_length, entry_in}

-- the splitting domains after a split are below k
pub chosen_below : (k d : ℕ) → d < k → after_chosen k d < k
chosen_below k d h = mod-lt (d + 1) (omega arith)

pub forced_below : (k e : ℕ) → e < k → after_forced k e < k
forced_below k e h = h

-- the entry on a side: the whole entry, nothing, or the entry's half
abbrev pub keep_f : Bool → Lies → Box → Box → Tree → Tree → Forest → Forest
keep_f true left b c t h f = fcons b t f
keep_f true right b c t h f = f
keep_f true across b c t h f = fcons c h f
keep_f false left b c t h f = f
keep_f false right b c t h f = fcons b t f
keep_f false across b c t h f = fcons c h f

-- the left page keeps its number, the right page takes the first that is free
abbrev pub number_on : Bool → ℕ → List ℕ → ℕ
number_on true p free = p
number_on false p free = get_or free 0 0

abbrev pub if_across : Lies → ℕ → ℕ
if_across left n = 0
if_across right n = 0
if_across across n = n

module _ (d x : ℕ) where
  -- how many pages the split claims
  abbrev mutual
    pub need : Tree → ℕ
    need (leaf p e rs) = 1
    need (node p e f) = suc (need_f f)

    pub need_f : Forest → ℕ
    need_f fnil = 0
    need_f (fcons b t f) = if_across (lies d x b) (need t) + need_f f

module _ (k d x : ℕ) where
  -- the tree on a side, its own page of domain e; the claimed pages are the first of the free ones, in order
  abbrev mutual
    pub half : Tree → Bool → ℕ → List ℕ → Tree
    half (leaf p d₀ rs) s e free = leaf (number_on s p free) e (only (λ r. on s d x r.key) rs)
    half (node p d₀ f) s e free = node (number_on s p free) e (half_f f s (drop 1 free))

    pub half_f : Forest → Bool → List ℕ → Forest
    half_f fnil s free = fnil
    half_f (fcons b t f) s free =
        keep_f s (lies d x b) b (part s d x b) t (half t s (after_forced k (dom t)) free) (half_f f s (drop (if_across (lies d x b) (need d x t)) free))

  abbrev pub halves : Tree → ℕ → List ℕ → Two
  halves t e free = record { lt = half t true e free; rt = half t false e free; free = drop (need d x t) free }

  abbrev pub halves_f : Forest → List ℕ → TwoF
  halves_f f free = record { lt = half_f f true free; rt = half_f f false free; free = drop (need_f d x f) free }

module _ (k d x : ℕ) where
  mutual
    pub split_some : (t : Tree) (e : ℕ) (free : List ℕ) → need d x t ≤ length free → split k d x t e free ≡ some (halves k d x t e free)
    split_some (leaf p d₀ rs) e [] h = absurd (omega arith)
    split_some (leaf p d₀ rs) e (q ∷ free) h = refl
    split_some (node p d₀ f) e [] h = absurd (omega arith)
    split_some (node p d₀ f) e (q ∷ free) h = rw (split_f_some f free (omega arith))

    pub split_f_some : (f : Forest) (free : List ℕ) → need_f d x f ≤ length free → split_f k d x f free ≡ some (halves_f k d x f free)
    split_f_some fnil free h = refl
    split_f_some (fcons b t f) free h =
        let P : Lies → Type 0 = λ l. if_across l (need d x t) + need_f d x f ≤ length free
        → deal k d x l b t (split k d x t (after_forced k (dom t)) free) (split_f k d x f) free
        ≡ some (record {
          lt = keep_f true l b (left_part d x b) t (half k d x t true (after_forced k (dom t)) free) (half_f k d x f true (drop (if_across l (need d x t)) free));
          rt = keep_f false l b (right_part d x b) t (half k d x t false (after_forced k (dom t)) free) (half_f k d x f false (drop (if_across l (need d x t)) free));
          free = drop (if_across l (need d x t) + need_f d x f) free;
        }) in
        lies_case P d x b
        (λ _ i. rw (split_f_some f free (omega arith), zero-add))
        (λ _ _ i. rw (split_f_some f free (omega arith), zero-add))
        (λ _ _ i. rw (split_some t (after_forced k (dom t)) free (omega arith), split_f_some f (drop (need d x t) free) (omega (arith, length-drop (need d x t) free)), drop-drop))
        h

  mutual
    pub split_none : (t : Tree) (e : ℕ) (free : List ℕ) → length free < need d x t → split k d x t e free ≡ none
    split_none (leaf p d₀ rs) e [] h = refl
    split_none (leaf p d₀ rs) e (q ∷ free) h = absurd (omega arith)
    split_none (node p d₀ f) e [] h = refl
    split_none (node p d₀ f) e (q ∷ free) h = rw (split_f_none f free (omega arith))

    pub split_f_none : (f : Forest) (free : List ℕ) → length free < need_f d x f → split_f k d x f free ≡ none
    split_f_none fnil free h = absurd (omega arith)
    split_f_none (fcons b t f) free h =
        let P : Lies → Type 0 = λ l. length free < if_across l (need d x t) + need_f d x f → deal k d x l b t (split k d x t (after_forced k (dom t)) free) (split_f k d x f) free ≡ none in
        lies_case P d x b (λ _ i. rw (split_f_none f free (omega arith))) (λ _ _ i. rw (split_f_none f free (omega arith)))
        (λ _ _ i. bool (leb (need d x t) (length free))
        (λ c. let j = leb→le (need d x t) (length free) c in rw (split_some t (after_forced k (dom t)) free j, split_f_none f (drop (need d x t) free) (omega (arith, length-drop (need d x t) free))))
        (λ c. rw (split_none t (after_forced k (dom t)) free (nleb→lt (need d x t) (length free) c))))
        h

-- what is counted: records, and pages with the claimed ones
module _ (k d x : ℕ) where
  mutual
    pub half_records : (t : Tree) (e : ℕ) (free : List ℕ) (g : Rec → Bool) → tally g (records (half k d x t true e free)) + tally g (records (half k d x t false e free)) ≡ tally g (records t)
    half_records (leaf p d₀ rs) e free g = tally_halves (is_left d x) g rs
    half_records (node p d₀ f) e free g = half_f_records f (drop 1 free) g

    pub half_f_records : (f : Forest) (free : List ℕ) (g : Rec → Bool) → tally g (records_f (half_f k d x f true free)) + tally g (records_f (half_f k d x f false free)) ≡ tally g (records_f f)
    half_f_records fnil free g = refl
    half_f_records (fcons b t f) free g =
        lies_case (λ l. tally g (records_f (keep_f true l b (left_part d x b) t (half k d x t true (after_forced k (dom t)) free) (half_f k d x f true (drop (if_across l (need d x t)) free))))
        + tally g (records_f (keep_f false l b (right_part d x b) t (half k d x t false (after_forced k (dom t)) free) (half_f k d x f false (drop (if_across l (need d x t)) free)))) ≡ tally g (records t ++ records_f f)) d x b
        (λ _. simp tally_append (omega (arith, half_f_records f free g)))
        (λ _ _. simp tally_append (omega (arith, half_f_records f free g)))
        (λ _ _. simp tally_append (omega (arith, half_records t (after_forced k (dom t)) free g, half_f_records f (drop (need d x t) free) g)))

  mutual
    pub half_pages : (t : Tree) (e : ℕ) (free : List ℕ) (g : ℕ → Bool) → need d x t ≤ length free
        → tally g (pages (half k d x t true e free)) + tally g (pages (half k d x t false e free)) ≡ tally g (pages t) + tally g (take (need d x t) free)
    half_pages (leaf p d₀ rs) e [] g h = omega arith
    half_pages (leaf p d₀ rs) e (q ∷ free) g h = omega arith
    half_pages (node p d₀ f) e [] g h = omega arith
    half_pages (node p d₀ f) e (q ∷ free) g h = omega (arith, half_f_pages f free g (omega arith))

    pub half_f_pages : (f : Forest) (free : List ℕ) (g : ℕ → Bool) → need_f d x f ≤ length free
        → tally g (pages_f (half_f k d x f true free)) + tally g (pages_f (half_f k d x f false free)) ≡ tally g (pages_f f) + tally g (take (need_f d x f) free)
    half_f_pages fnil free g h = omega arith
    half_f_pages (fcons b t f) free g h =
        let P : Lies → Type 0 = λ l. if_across l (need d x t) + need_f d x f ≤ length free
        → tally g (pages_f (keep_f true l b (left_part d x b) t (half k d x t true (after_forced k (dom t)) free) (half_f k d x f true (drop (if_across l (need d x t)) free))))
        + tally g (pages_f (keep_f false l b (right_part d x b) t (half k d x t false (after_forced k (dom t)) free) (half_f k d x f false (drop (if_across l (need d x t)) free))))
        ≡ tally g (pages t ++ pages_f f) + tally g (take (if_across l (need d x t) + need_f d x f) free) in
        lies_case P d x b
        (λ _ i. simp (tally_append, take-add) (omega (arith, half_f_pages f free g (omega arith))))
        (λ _ _ i. simp (tally_append, take-add) (omega (arith, half_f_pages f free g (omega arith))))
        (λ _ _ i. simp (tally_append, take-add)
        (omega (arith, half_pages t (after_forced k (dom t)) free g (omega arith), half_f_pages f (drop (need d x t) free) g (omega (arith, length-drop (need d x t) free)))))
        h

  -- the regions of a half's page
  pub half_boxes : (f : Forest) (s : Bool) (free : List ℕ) → boxes (half_f k d x f s free) ≡ parts s d x (boxes f)
  half_boxes fnil s free = refl
  half_boxes (fcons b t f) s free = go s (lies d x b) (half_boxes f s)
    where
      go : (s : Bool) (l : Lies) → ((fr : List ℕ) → boxes (half_f k d x f s fr) ≡ parts s d x (boxes f))
          → boxes (keep_f s l b (part s d x b) t (half k d x t s (after_forced k (dom t)) free) (half_f k d x f s (drop (if_across l (need d x t)) free))) ≡ keep s l b (part s d x b) (parts s d x (boxes f))
      go true left r = ap (λ bs. b ∷ bs) (r free)
      go true right r = r free
      go true across r = ap (λ bs. left_part d x b ∷ bs) (r (drop (need d x t) free))
      go false left r = r free
      go false right r = ap (λ bs. b ∷ bs) (r free)
      go false across r = ap (λ bs. right_part d x b ∷ bs) (r (drop (need d x t) free))

-- the claimed pages leave the free list and nothing else does
pub split_pages : (k d x : ℕ) (t : Tree) (e : ℕ) (free : List ℕ) (g : ℕ → Bool) → need d x t ≤ length free
    → tally g (pages (half k d x t true e free)) + tally g (pages (half k d x t false e free)) + tally g (drop (need d x t) free) ≡ tally g (pages t) + tally g free
split_pages k d x t e free g h =
    let a = half_pages k d x t e free g h in
    let b : tally g free ≡ tally g (take (need d x t) free) + tally g (drop (need d x t) free) = ap (tally g) (sym (take-append-drop (need d x t) free)) ∙ tally_append g (take (need d x t) free) (drop (need d x t) free) in
    omega arith

-- some of the records still differ
pub differ_only : (f : Rec → Bool) (rs : List Rec) → T (differ rs) → T (differ (only f rs))
differ_only f [] t = tt
differ_only f (r ∷ rs) t =
    let n : Rec → Bool = λ q. same r.key q.key in
    let i = differ_only f rs (and_r (eqb (tally n rs) 0) _ t) in
    let e : tally n (only f rs) ≡ 0 = omega (arith, eqb→eq (tally n rs) 0 (and_l (eqb (tally n rs) 0) _ t), tally_only f n rs) in
    cases (λ c. T (differ (cond c (r ∷ only f rs) (only f rs)))) (f r) (λ _. and_i (eqb (tally n (only f rs)) 0) _ (rw e tt) i) (λ _. i)

module _ (k R P : ℕ) where
  pub shaped_dom : (t : Tree) (n : ℕ) (r : Box) → Shaped k R P t n r → dom t < k
  shaped_dom (leaf p d rs) n r h = h.1.domain
  shaped_dom (node p d f) zero r h = absurd h
  shaped_dom (node p d f) (suc n) r h = h.0.domain

  mutual
    pub shaped_levels : (t : Tree) (n : ℕ) (r : Box) → Shaped k R P t n r → levels t ≡ suc n
    shaped_levels (leaf p d rs) n r h = omega (arith, h.0)
    shaped_levels (node p d f) zero r h = absurd h
    shaped_levels (node p d f) (suc n) r h = ap suc (shaped_levels_f f n h.1 h.0.filled)

    shaped_levels_f : (f : Forest) (n : ℕ) → ShapedF k R P f n → 1 ≤ length (boxes f) → levels_f f ≡ suc n
    shaped_levels_f fnil n h l = absurd (omega arith)
    shaped_levels_f (fcons b t f) n h l = shaped_levels t n b h.0

  module _ (d x : ℕ) where
    -- the records of a point page on a side, and the entries of a region page: they are as they should be but for the room, which is counted
    pub point_half : (s : Bool) (e : ℕ) (rs : List Rec) (r : Box) → e < k → Inside d x r → T (every (λ q. within r q.key) rs) → T (differ rs)
        → length (only (λ q. on s d x q.key) rs) ≤ P → PointPage k P e (only (λ q. on s d x q.key) rs) (part s d x r)
    point_half s e rs r h i t u l =
        record {
          room = l;
          domain = h;
          inside = every_only (λ q. on s d x q.key) (λ q. within r q.key) (λ q. within (part s d x r) q.key)
              (λ q y z. rw (part_within s d x r q.key i) (and_i (on s d x q.key) _ y z)) rs t;
          distinct = differ_only (λ q. on s d x q.key) rs u;
        }

    parts_filled : (s : Bool) (bs : List Box) (r : Box) → Inside d x r → Tiles r bs → 1 ≤ length bs → 1 ≤ length (parts s d x bs)
    parts_filled s [] r i t l = absurd (omega arith)
    parts_filled s (b ∷ bs) r i t l =
        let sb : T (solid b) = and_l (solid b) _ t.solids in
        let sr : T (solid r) = solid_of r (low b) (entry_in r (b ∷ bs) (tiles_counted r (b ∷ bs) t) b (in_head b bs) (low b) (low_in b sb)) in
        let p = low (part s d x r) in
        let c = tiles_counted (part s d x r) (parts s d x (b ∷ bs)) (tiles_part s d x r (b ∷ bs) i t) in
        omega (arith, c.once p, to_bit (within (part s d x r) p) (low_in (part s d x r) (part_solid s d x r i sr)), tally_most (λ q. within q p) (parts s d x (b ∷ bs)))

    pub region_half : (s : Bool) (e : ℕ) (bs : List Box) (r : Box) → e < k → Inside d x r → Tiles r bs → 1 ≤ length bs
        → length (parts s d x bs) ≤ R → RegionPage k R e (parts s d x bs) (part s d x r)
    region_half s e bs r h i t l m = record { filled = parts_filled s bs r i t l; room = m; domain = h; tiled = tiles_part s d x r bs i t }

    mutual
      pub shaped_half : (t : Tree) (n : ℕ) (s : Bool) (e : ℕ) (free : List ℕ) (r : Box) → Shaped k R P t n r → e < k → Inside d x r → Shaped k R P (half k d x t s e free) n (part s d x r)
      shaped_half (leaf p d₀ rs) n s e free r h l i = (
        h.0,
        point_half s e rs r l i h.1.inside h.1.distinct
            (omega (arith, h.1.room, length_only (λ q. on s d x q.key) rs, tally_most (λ q. on s d x q.key) rs)),
      )
      shaped_half (node p d₀ f) zero s e free r h l i = h
      shaped_half (node p d₀ f) (suc n) s e free r h l i = (
        subst (λ bs. RegionPage k R e bs (part s d x r)) (sym (half_boxes k d x f s (drop 1 free)))
            (region_half s e (boxes f) r l i h.0.tiled h.0.filled (omega (arith, h.0.room, parts_length s d x (boxes f)))),
        shaped_f_half f n s (drop 1 free) h.1,
      )

      pub shaped_f_half : (f : Forest) (n : ℕ) (s : Bool) (free : List ℕ) → ShapedF k R P f n → ShapedF k R P (half_f k d x f s free) n
      shaped_f_half fnil n s free h = tt
      shaped_f_half (fcons b t f) n true free h =
          lies_case (λ l. ShapedF k R P (keep_f true l b (left_part d x b) t (half k d x t true (after_forced k (dom t)) free) (half_f k d x f true (drop (if_across l (need d x t)) free))) n) d x b
          (λ _. (h.0, shaped_f_half f n true free h.1)) (λ _ _. shaped_f_half f n true free h.1)
          (λ u l. (shaped_half t n true (after_forced k (dom t)) free b h.0 (forced_below k (dom t) (shaped_dom t n b h.0)) (record { low = l; high = u }), shaped_f_half f n true (drop (need d x t) free) h.1))
      shaped_f_half (fcons b t f) n false free h =
          lies_case (λ l. ShapedF k R P (keep_f false l b (right_part d x b) t (half k d x t false (after_forced k (dom t)) free) (half_f k d x f false (drop (if_across l (need d x t)) free))) n) d x b
          (λ _. shaped_f_half f n false free h.1) (λ _ _. (h.0, shaped_f_half f n false free h.1))
          (λ u l. (shaped_half t n false (after_forced k (dom t)) free b h.0 (forced_below k (dom t) (shaped_dom t n b h.0)) (record { low = l; high = u }), shaped_f_half f n false (drop (need d x t) free) h.1))
