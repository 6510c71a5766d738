-- Laws of each return of the growing functions, over the machine forms; and the cut of a page's records or entries by its keys.
use mathlib.Core.Bool.{true, false}
use mathlib.Core.List.{List, [], ◌∷◌, ◌++◌, map}
use mathlib.Core.Option.{Option as Maybe, none, some}
use mathlib.Core.Path.{◌≡◌, refl, sym, ap, ap₂, ◌∙◌}
use Prim.Native.Nat.{ℕ, zero, suc, ◌+◌, ◌-◌, ◌*◌, ◌%◌, ◌<◌, ◌≤◌}
use native.Mathlib.Omega.{arith}
use native.Mathlib.Nat.{suc-mul, zero-mul, mul-le-mul, mul-le-mul_left, add-zero}
use native.Mathlib.Numerals.{add-one}
use lib.Dec.{ltb, ltb→lt, nltb→le}
use lib.ListN.{length, take, drop, get_or, set, replicate, length-take, length-drop, length-append, get_or-eq_default}
use lib.Seq.{sets, get_or-take, get_or-drop, get_or-set_other, drop-drop, sets-eq, take_at}
use borrow.Author.Tests.{lt-ltb, le-ltb, eq-eqb, ne_eqb}
use Rattle.std.proofs.Common.{Option, Some, None, Result, Ok, Err}
use Rattle.std.specs.Result.{IsErr}
use Rattle.kdb.specs.Box.{Key, sides, within, key_at, lower_at}
use Rattle.kdb.specs.Calls.{L}
use Rattle.kdb.specs.Cut.{cut_of, Cut, nowhere, cut, choose, cut_points, cut_regions}
use Rattle.kdb.specs.Pages.{regions_per, points_per, read_recs, read_ents, page}
use Rattle.kdb.specs.Steps.{after_chosen}
use Rattle.kdb.proofs.Tests.{bool, is_false}
use Rattle.kdb.proofs.Stores.{pad_sets, take_sets_in, take_pad}
use Rattle.kdb.proofs.Box.{within_length}
use Rattle.kdb.proofs.Pages.{points_fit, regions_fit}
use Rattle.words.specs.Loops.{keys_by}
use Rattle.words.specs.Words.{region_at, word, width_of, capacity_by}
use Rattle.cut.specs.Keys.{key_in, keys_in}
use Rattle.deal.specs.Part.{claimed, half_in}
use Rattle.deal.specs.declared.Wanting.{Wanting}
use Rattle.split.specs.Part.{part_at}
use Rattle.steps.specs.Machine.{append_in, overfull}
use Rattle.steps.specs.Grow.{short, fine, broke, Grown, broke_at, seek_in, settle_in, widen_in, up_in, grow_in}
use Rattle.grow.specs.Grown.{grown_as, kind_at, cut_at, broken_at, settle_at}
use Rattle.grow.specs.declared.Broken.{Broken}

-- a region that runs past the end holds no point
sides_short : (ls us : List ℕ) → length (sides ls us) ≤ length us
sides_short [] us = omega arith
sides_short (l ∷ ls) [] = omega arith
sides_short (l ∷ ls) (u ∷ us) = omega (arith, sides_short ls us)

pub holds_none : (k a : ℕ) (w : List ℕ) (p : Key) → 1 ≤ k → length p ≡ k → length w < a + 2 * k → false ≡ within (region_at k w a) p
holds_none k a w p l h g =
    sym (bool (within (region_at k w a) p)
    (λ t. absurd (omega (arith, within_length (region_at k w a) p t, sides_short (take k (drop a w)) (take k (drop (a + k) w)), length-take k (drop (a + k) w), length-drop (a + k) w)))
    (is_false (within (region_at k w a) p)))

module _ (k : ℕ) (p : Key) (m i : ℕ) (w : List ℕ) (b z : ℕ) (e : seek_in k p (m - i) w (b + i * (2 * k + 1)) ≡ z) where
  pub seek_end : m ≤ i → 0 ≡ z
  unfolding seek_in
  seek_end h = let q : m - i ≡ 0 = omega arith in rw q at e

  pub seek_here : i < m → within (region_at k w (b + i * (2 * k + 1))) p ≡ true → b + i * (2 * k + 1) ≡ z
  unfolding seek_in
  seek_here h t = let q : m - i ≡ suc (m - (i + 1)) = omega arith in rw (q, t) at e

  pub seek_next : i < m → within (region_at k w (b + i * (2 * k + 1))) p ≡ false → seek_in k p (m - (i + 1)) w (b + (i + 1) * (2 * k + 1)) ≡ z
  unfolding seek_in
  seek_next h t =
      let q : m - i ≡ suc (m - (i + 1)) = omega arith in
      let n : b + (i + 1) * (2 * k + 1) ≡ b + i * (2 * k + 1) + (2 * k + 1) = rw (add-one i) (omega (arith, suc-mul i (2 * k + 1))) in
      rw n (rw (q, t) at e)

-- the copy with one entry more
pub over_words : (wd : ℕ) (w : List ℕ) (j : ℕ) (u : List ℕ) (n : ℕ) → n ≡ 32 + wd → wd ≤ 9
    → take n (sets (sets (replicate 48 0) 0 (page L w j)) (4 + word L w j 1 * wd) u) ≡ overfull L wd w j u
unfolding overfull
over_words wd w j u n q h =
    let at = 4 + word L w j 1 * wd in
    ap (λ m. take m (sets (sets (replicate 48 0) 0 (page L w j)) at u)) q ∙ take_sets_in (32 + wd) (sets (replicate 48 0) 0 (page L w j)) at u
    ∙ ap (λ l. sets l at u) (ap (take (32 + wd)) (pad_sets 48 [] (page L w j)) ∙ take_pad (32 + wd) 48 (page L w j) (omega arith))

pub far : (m wd : ℕ) → m < 4294967296 → wd ≤ 9 → m * wd ≤ 4294967296 * 9
far m wd h g = mul-le-mul (let q : m ≤ 4294967296 = omega arith in q) g

-- the keys of records and of entries, as the code reads them
choose_same : (n k d : ℕ) (f g : ℕ → List ℕ) → ((e : ℕ) → f e ≡ g e) → choose n k d f ≡ choose n k d g
choose_same zero k d f g h = refl
choose_same (suc n) k d f g h = go (cut_of (f d)) (cut_of (g d)) (ap cut_of (h d)) (choose_same n k ((d + 1) % k) f g h)
  where
    go : (o q : Maybe ℕ) → o ≡ q → choose n k ((d + 1) % k) f ≡ choose n k ((d + 1) % k) g
        → ◌≡◌ {A = Cut} (elim o as (λ _. Cut) [ none ↦ choose n k ((d + 1) % k) f | some x ↦ cut d x ]) (elim q as (λ _. Cut) [ none ↦ choose n k ((d + 1) % k) g | some x ↦ cut d x ])
    go none q e r = rw (← e) r
    go (some x) q e r = rw (← e)

key_get_or : (e : ℕ) (l : List ℕ) → key_at e l ≡ get_or l e 0
key_get_or e [] = refl
key_get_or zero (a ∷ l) = refl
key_get_or (suc e) (a ∷ l) = key_get_or e l

lower_get_or : (e : ℕ) (ls us : List ℕ) → length ls ≤ length us → lower_at e (sides ls us) ≡ get_or ls e 0
lower_get_or e [] us h = refl
lower_get_or e (l ∷ ls) [] h = absurd (omega arith)
lower_get_or zero (l ∷ ls) (u ∷ us) h = refl
lower_get_or (suc e) (l ∷ ls) (u ∷ us) h = lower_get_or e ls us (omega arith)

first_key : (k wd : ℕ) (src : List ℕ) (e i a : ℕ) → a ≡ 4 + i * wd → get_or (take k (drop a src)) e 0 ≡ key_in k wd src e i
unfolding key_in
first_key k wd src e i a q =
    bool (ltb e k)
    (λ t. let h = ltb→lt e k t in rw (lt-ltb e k h) (get_or-take k (drop a src) e 0 h ∙ get_or-drop a src e 0 ∙ ap (λ b. get_or src (b + e) 0) q))
    (λ t. let h = nltb→le e k t in rw (le-ltb e k h) (get_or-eq_default (take k (drop a src)) 0 {n = e} (omega (arith, length-take k (drop a src)))))

next : (i wd a : ℕ) → a ≡ 4 + i * wd → a + wd ≡ 4 + (i + 1) * wd
next i wd a q = rw (add-one i) (omega (arith, suc-mul i wd))

point_keys : (k m : ℕ) (src : List ℕ) (e i a : ℕ) → a ≡ 4 + i * (k + 1)
    → map (λ r. key_at e r.key) (read_recs k m (drop a src)) ≡ keys_by m (key_in k (k + 1) src e) i
point_keys k zero src e i a q = refl
point_keys k (suc m) src e i a q =
    ap₂ ◌∷◌ (key_get_or e (take k (drop a src)) ∙ first_key k (k + 1) src e i a q)
    (ap (λ l. map (λ r. key_at e r.key) (read_recs k m l)) (drop-drop (k + 1) a src) ∙ point_keys k m src e (i + 1) (a + (k + 1)) (next i (k + 1) a q))

region_keys : (k m : ℕ) (src : List ℕ) (e i a : ℕ) → a ≡ 4 + i * (2 * k + 1) → a + m * (2 * k + 1) ≤ length src
    → map (lower_at e) (map (λ e. e.box) (read_ents k m (drop a src))) ≡ keys_by m (key_in k (2 * k + 1) src e) i
region_keys k zero src e i a q h = refl
region_keys k (suc m) src e i a q h =
    let s = suc-mul m (2 * k + 1) in
    ap₂ ◌∷◌
    (lower_get_or e (take k (drop a src)) (take k (drop k (drop a src))) (omega (arith, s, length-take k (drop a src), length-drop a src, length-take k (drop k (drop a src)), length-drop k (drop a src)))
    ∙ first_key k (2 * k + 1) src e i a q)
    (ap (λ l. map (lower_at e) (map (λ e. e.box) (read_ents k m l))) (drop-drop (2 * k + 1) a src)
    ∙ region_keys k m src e (i + 1) (a + (2 * k + 1)) (next i (2 * k + 1) a q) (omega arith))

pub points_choose : (k e m : ℕ) (src : List ℕ) → cut_points k e (read_recs k m (drop 4 src)) ≡ choose k k e (keys_in k (k + 1) m src)
points_choose k e m src = choose_same k k e _ (keys_in k (k + 1) m src) (λ d. point_keys k m src d 0 4 (rw (zero-mul (k + 1))))

pub regions_choose : (k e m : ℕ) (src : List ℕ) → 4 + m * (2 * k + 1) ≤ length src
    → cut_regions k e (map (λ e. e.box) (read_ents k m (drop 4 src))) ≡ choose k k e (keys_in k (2 * k + 1) m src)
regions_choose k e m src h = choose_same k k e _ (keys_in k (2 * k + 1) m src) (λ d. region_keys k m src d 0 4 (rw (zero-mul (2 * k + 1))) h)

pub chosen : (k e m : ℕ) (src : List ℕ) (below : Option ℕ) → 4 + m * width_of (kind_at below) k ≤ length src
    → cut_at k below e src m ≡ choose k k e (keys_in k (width_of (kind_at below) k) m src)
chosen k e m src None h = points_choose k e m src
chosen k e m src (Some level) h = regions_choose k e m src h

-- what a cut leads to
pub short_is : (q : Result (Option Broken) Wanting) (w : List ℕ) → IsErr q → grown_as q w ≡ record { how = short; words = w }
short_is (Ok o) w h = absurd (let y : false ≡ true = h in cc)
short_is (Err x) w h = refl

module _ (n k : ℕ) (below : Option ℕ) (m j : ℕ) (src w : List ℕ) (c : Cut) where
  pub break_nowhere : (q : Result (Option Broken) Wanting) → IsErr q → nowhere ≡ c → grown_as q w ≡ broken_at n k below c src m j w
  break_nowhere q h e = short_is q w h ∙ rw (← e) (go below)
    where
      go : (b : Option ℕ) → record { how = short; words = w } ≡ broken_at n k b nowhere src m j w
      go None = refl
      go (Some level) = refl

  broken_is : (d x : ℕ) → cut d x ≡ c → broke_at d x (part_at n k d x below src m (after_chosen k d) j w) ≡ broken_at n k below c src m j w
  broken_is d x e = rw (← e) (go below)
    where
      go : (b : Option ℕ) → broke_at d x (part_at n k d x b src m (after_chosen k d) j w) ≡ broken_at n k b (cut d x) src m j w
      go None = refl
      go (Some level) = refl

  module _ (d x : ℕ) (e : cut d x ≡ c) (v : List ℕ) where
    pub break_short : (q : Result (Option Broken) Wanting) → IsErr q → record { page = 0; words = v } ≡ part_at n k d x below src m (after_chosen k d) j w
        → grown_as q v ≡ broken_at n k below c src m j w
    break_short q i h = short_is q v i ∙ ap (broke_at d x) h ∙ broken_is d x e

    pub break_whole : (r : ℕ) → 1 ≤ r → claimed (Ok r) v ≡ part_at n k d x below src m (after_chosen k d) j w
        → record { how = broke d x r; words = v } ≡ broken_at n k below c src m j w
    break_whole r l h = rw (ne_eqb r 0 (λ z. omega arith)) at (ap (broke_at d x) h ∙ broken_is d x e)

-- an overfull page has at most 15 entries
few : (m wd : ℕ) → m * wd ≤ 28 → 2 ≤ wd → m ≤ 14
few m wd h g = omega (arith, mul-le-mul_left m g)

pub full_few : (m k : ℕ) (below : Option ℕ) → m ≡ capacity_by (kind_at below) k → 1 ≤ k → m ≤ 14
full_few m k None h g = few m (k + 1) (points_fit L k m (omega arith)) (omega arith)
full_few m k (Some level) h g = few m (2 * k + 1) (regions_fit L k m (omega arith)) (omega arith)

-- and ends within its copy
pub full_ends : (m k : ℕ) (below : Option ℕ) → m ≡ capacity_by (kind_at below) k → 4 + (m + 1) * width_of (kind_at below) k ≤ 32 + width_of (kind_at below) k
full_ends m k None h = rw (add-one m) (omega (arith, suc-mul m (k + 1), points_fit L k m (omega arith)))
full_ends m k (Some level) h = rw (add-one m) (omega (arith, suc-mul m (2 * k + 1), regions_fit L k m (omega arith)))

-- one entry more
module _ (wd most : ℕ) (breaks : List ℕ → Grown) (m : ℕ) (u : List ℕ) (j : ℕ) (w : List ℕ) where
  pub settle_room : m < most → record { how = fine; words = append_in L wd w j u } ≡ settle_in L wd most breaks m u j w
  unfolding settle_in
  settle_room h = rw (lt-ltb m most h)

  pub settle_full : m ≡ most → (src : List ℕ) → src ≡ overfull L wd w j u → breaks src ≡ settle_in L wd most breaks m u j w
  unfolding settle_in
  settle_full h src e = rw (le-ltb m most (omega arith), eq-eqb m most h) (ap breaks e)

  pub settle_over : most < m → record { how = short; words = w } ≡ settle_in L wd most breaks m u j w
  unfolding settle_in
  settle_over h = rw (le-ltb m most (omega arith), ne_eqb m most (λ z. omega arith))

-- the record's words
sets_snoc : (l : List ℕ) (i : ℕ) (u : List ℕ) (a : ℕ) → set (sets l i u) (i + length u) a ≡ sets l i (u ++ (a ∷ []))
sets_snoc l i [] a = rw (add-zero i)
sets_snoc l i (b ∷ u) a = let q : i + suc (length u) ≡ suc i + length u = omega arith in rw q (sets_snoc (set l i b) (suc i) u a)

pub record_is : (p : Key) (l : ℕ) → length p ≤ 4 → take (length p + 1) (set (sets (replicate 5 0) 0 p) (length p) l) ≡ p ++ (l ∷ [])
record_is p l g =
    let u = p ++ (l ∷ []) in
    let n : length u ≡ length p + 1 = length-append p (l ∷ []) in
    let q : length p ≡ 0 + length p = omega arith in
    ap₂ (λ i m. take i (set (sets (replicate 5 0) 0 p) m l)) (sym n) q ∙ ap (take (length u)) (sets_snoc (replicate 5 0) 0 p l)
    ∙ ap (take (length u)) (sets-eq u (replicate 5 0) 0 (omega arith)) ∙ take_at u (drop (0 + length u) (replicate 5 0)) (length u) refl

-- growing
pub grow_point : (n k : ℕ) (p : Key) (l j : ℕ) (w : List ℕ) → settle_at n k None (p ++ (l ∷ [])) j w ≡ grow_in L n k (regions_per L k) (points_per L k) p l 0 j w
unfolding grow_in
grow_point n k p l j w = refl

pub widen_is : (n k level d x r a j : ℕ) (w : List ℕ) → L * j + 4 ≤ a
    → settle_at n k (Some level) (half_in k (take (2 * k + 1) (drop a w)) d x r) j (set w (a + k + d) x) ≡ widen_in L n k (regions_per L k) (points_per L k) level d x r a j w
unfolding widen_in
widen_is n k level d x r a j w h =
    let m : get_or (set w (a + k + d) x) (L * j + 1) 0 ≡ get_or w (L * j + 1) 0 = get_or-set_other w (a + k + d) (L * j + 1) x 0 (λ z. omega arith) in
    let e : get_or (set w (a + k + d) x) (L * j + 2) 0 ≡ get_or w (L * j + 2) 0 = get_or-set_other w (a + k + d) (L * j + 2) x 0 (λ z. omega arith) in
    rw (m, e)

module _ (n k R P level : ℕ) (p : Key) (loc j : ℕ) (w : List ℕ) (l : ℕ) (s : level ≡ suc l) where
  pub grow_lost : (q : Result (Option Broken) Wanting) → IsErr q → 0 ≡ seek_in k p (word L w j 1) w (L * j + 4) → grown_as q w ≡ grow_in L n k R P p loc level j w
  unfolding grow_in
  grow_lost q i h = short_is q w i ∙ rw (s, ← h)

  module _ (a : ℕ) (h : a ≡ seek_in k p (word L w j 1) w (L * j + 4)) (z : 1 ≤ a) (v : List ℕ) where
    up : (g : Grown) → g ≡ grow_in L n k R P p loc l (get_or w (a + 2 * k) 0) w → up_in L n k R P l a j g ≡ grow_in L n k R P p loc level j w
    unfolding grow_in
    up g q = rw (s, ← h, ne_eqb a 0 (λ b. omega arith)) (ap (up_in L n k R P l a j) q)

    pub grow_short : (q : Result (Option Broken) Wanting) → IsErr q → record { how = short; words = v } ≡ grow_in L n k R P p loc l (get_or w (a + 2 * k) 0) w
        → grown_as q v ≡ grow_in L n k R P p loc level j w
    grow_short q i g = short_is q v i ∙ up (record { how = short; words = v }) g

    pub grow_kept : record { how = fine; words = v } ≡ grow_in L n k R P p loc l (get_or w (a + 2 * k) 0) w → record { how = fine; words = v } ≡ grow_in L n k R P p loc level j w
    grow_kept g = up (grown_as (Ok None) v) g

    pub grow_wider : (b : Broken) → grown_as (Ok (Some b)) v ≡ grow_in L n k R P p loc l (get_or w (a + 2 * k) 0) w
        → widen_in L n k R P l b.cut.domain b.cut.key b.page a j v ≡ grow_in L n k R P p loc level j w
    grow_wider b g = up (grown_as (Ok (Some b)) v) g
