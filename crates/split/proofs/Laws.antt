-- Laws of one turn, of the ends and of each return of the splitting functions, over the machine forms.
use mathlib.Core.Bool.{true, false, ◌&&◌, cond}
use mathlib.Core.List.{List}
use mathlib.Core.Path.{◌≡◌, refl, sym, ap, ◌∙◌}
use Prim.Native.Nat.{ℕ, suc, ◌+◌, ◌-◌, ◌*◌, ◌<◌, ◌≤◌}
use native.Mathlib.Omega.{arith}
use lib.Dec.{leb, ltb, leb→le, ltb→lt, nltb→le, nleb→lt}
use native.Mathlib.Nat.{suc-mul}
use native.Mathlib.Numerals.{add-one}
use lib.ListN.{length, take, drop, get_or, replicate, get_or-eq_default}
use lib.Seq.{sets, get_or-take, get_or-drop}
use Rattle.std.proofs.Common.{Option, Some, None, Result, Ok, Err}
use Rattle.std.specs.Option.{SomeIff}
use Rattle.std.specs.Result.{IsErr}
use borrow.Author.Tests.{lt-ltb, le-leb, lt-leb, ne_eqb, ltb-true, ltb-false}
use Rattle.kdb.specs.Steps.{after_forced}
use Rattle.kdb.specs.Calls.{L}
use Rattle.kdb.specs.Pages.{page}
use Rattle.kdb.proofs.Tests.{bool, is_true, is_false, and_t}
use Rattle.kdb.proofs.Stores.{sets_all}
use Rattle.kdb.proofs.Pages.{page_full}
use Rattle.words.specs.Words.{word}
use Rattle.steps.specs.Machine.{Passed, Claimed, fresh_in, append_in}
use Rattle.steps.specs.Claim.{claim_in}
use Rattle.steps.specs.Split.{points_in, entries_in, part_points, part_regions, split_in, reported}
use Rattle.deal.specs.Part.{claimed, open_in, both_in}
use Rattle.deal.specs.declared.Wanting.{Wanting}
use Rattle.deal.proofs.Laws.{none_is, none_open, some_open}
use Rattle.split.specs.Part.{passed, part_at}

-- what follows where the right page was claimed
pub short_is : (q : Result (Unit {0}) Wanting) (w : List ℕ) → IsErr q → passed q w ≡ record { ok = false; words = w }
short_is (Ok y) w h = absurd (let y : false ≡ true = h in cc)
short_is (Err x) w h = refl

module _ (n k d x : ℕ) (below : ℕ → List ℕ → Claimed) (m e j : ℕ) (src w v : List ℕ) where
  pub regions_none : (q : Result ℕ Wanting) → IsErr q → record { page = 0; words = v } ≡ open_in n 1 e j w → claimed q v ≡ part_regions L n k d x below src m e j w
  unfolding open_in part_regions
  regions_none q i h = none_open (λ u. fresh_in L u j 1 e) (λ q u. reported L n k d x q (entries_in L k d x below m src 4 j q u)) (claim_in L n 1 e w) v q i h

  module _ (r : ℕ) (u : List ℕ) (l : 1 ≤ r) (h : record { page = r; words = v } ≡ open_in n 1 e j w) where
    regions_some : reported L n k d x r (entries_in L k d x below m src 4 j r v) ≡ part_regions L n k d x below src m e j w
    unfolding open_in part_regions
    regions_some = some_open (λ u. fresh_in L u j 1 e) (λ q u. reported L n k d x q (entries_in L k d x below m src 4 j q u)) (claim_in L n 1 e w) v r l h

    pub regions_whole : record { ok = true; words = u } ≡ entries_in L k d x below m src 4 j r v → record { page = r; words = u } ≡ part_regions L n k d x below src m e j w
    regions_whole g = ap (reported L n k d x r) g ∙ regions_some

    pub regions_short : (q : Result ℕ Wanting) → IsErr q → record { ok = false; words = u } ≡ entries_in L k d x below m src 4 j r v → claimed q u ≡ part_regions L n k d x below src m e j w
    regions_short q i g = none_is q u i ∙ ap (reported L n k d x r) g ∙ regions_some

-- dealing out entries
module _ (below : ℕ → List ℕ → Claimed) (k d x m i j r : ℕ) (src w : List ℕ) (z : Passed)
    (e : entries_in L k d x below (m - i) src (4 + i * (2 * k + 1)) j r w ≡ z) where
  pub entries_end : m ≤ i → record { ok = true; words = w } ≡ z
  unfolding entries_in
  entries_end h = let q : m - i ≡ 0 = omega arith in rw q at e

  module _ (h : i < m) (g : d < k) (u : List ℕ) (y : u ≡ take (2 * k + 1) (drop (4 + i * (2 * k + 1)) src)) where
    word_is : (p : ℕ) → p < 2 * k + 1 → get_or u p 0 ≡ get_or src (4 + i * (2 * k + 1) + p) 0
    word_is p l = ap (λ l. get_or l p 0) y ∙ get_or-take (2 * k + 1) (drop (4 + i * (2 * k + 1)) src) p 0 l ∙ get_or-drop (4 + i * (2 * k + 1)) src p 0

    lower : get_or u d 0 ≡ get_or src (4 + i * (2 * k + 1) + d) 0
    lower = word_is d (omega arith)

    upper : get_or u (k + d) 0 ≡ get_or src (4 + i * (2 * k + 1) + k + d) 0
    upper = let q : 4 + i * (2 * k + 1) + (k + d) ≡ 4 + i * (2 * k + 1) + k + d = omega arith in word_is (k + d) (omega arith) ∙ ap (λ a. get_or src a 0) q

    child : get_or u (2 * k) 0 ≡ get_or src (4 + i * (2 * k + 1) + 2 * k) 0
    child = word_is (2 * k) (omega arith)

    next : 4 + (i + 1) * (2 * k + 1) ≡ 4 + i * (2 * k + 1) + (2 * k + 1)
    next = rw (add-one i) (omega (arith, suc-mul i (2 * k + 1)))

    turn : entries_in L k d x below (suc (m - (i + 1))) src (4 + i * (2 * k + 1)) j r w ≡ z
    turn = let q : m - i ≡ suc (m - (i + 1)) = omega arith in ap (λ n. entries_in L k d x below n src (4 + i * (2 * k + 1)) j r w) (sym q) ∙ e

    pub entries_deal : (to : ℕ) → ltb x (get_or u (k + d) 0) && ltb (get_or u d 0) x ≡ false → to ≡ cond (leb (get_or u (k + d) 0) x) j r
        → entries_in L k d x below (m - (i + 1)) src (4 + (i + 1) * (2 * k + 1)) j r (append_in L (2 * k + 1) w to u) ≡ z
    unfolding entries_in
    entries_deal to c t =
        bool (leb (get_or u (k + d) 0) x)
        (λ b. let g = is_true (leb (get_or u (k + d) 0) x) b in rw (next, t, g, y) (rw (← upper, g) at turn))
        (λ b. let g = is_false (leb (get_or u (k + d) 0) x) b in
        let up : ltb x (get_or u (k + d) 0) ≡ true = lt-ltb x (get_or u (k + d) 0) (nleb→lt (get_or u (k + d) 0) x b) in
        let lo : leb x (get_or u d 0) ≡ true = le-leb x (get_or u d 0) (ltb-false (get_or u d 0) x (rw up at c)) in
        rw (next, t, g, y) (rw (← upper, g, ← lower, lo) at turn))

    module _ (c : ltb x (get_or u (k + d) 0) && ltb (get_or u d 0) x ≡ true) (v : List ℕ) where
      up : leb (get_or src (4 + i * (2 * k + 1) + k + d) 0) x ≡ false
      up = rw (← upper) (lt-leb (get_or u (k + d) 0) x (ltb-true x (get_or u (k + d) 0) (and_t (ltb x (get_or u (k + d) 0)) (ltb (get_or u d 0) x) c).0))

      lo : leb x (get_or src (4 + i * (2 * k + 1) + d) 0) ≡ false
      lo = rw (← lower) (lt-leb x (get_or u d 0) (ltb-true (get_or u d 0) x (and_t (ltb x (get_or u (k + d) 0)) (ltb (get_or u d 0) x) c).1))

      pub entries_short : (q : Result (Unit {0}) Wanting) → IsErr q → record { page = 0; words = v } ≡ below (get_or u (2 * k) 0) w → passed q v ≡ z
      unfolding entries_in
      entries_short q s g = short_is q v s ∙ (rw (up, lo, ← child, ← g) at turn)

      pub entries_both : (q : ℕ) → claimed (Ok q) v ≡ below (get_or u (2 * k) 0) w → 1 ≤ q
          → entries_in L k d x below (m - (i + 1)) src (4 + (i + 1) * (2 * k + 1)) j r (both_in k d x u j r q v) ≡ z
      unfolding entries_in both_in
      entries_both q g s = rw (next, y) (rw (up, lo, ← child, ← g, ne_eqb q 0 (λ b. omega arith)) at turn)

-- the copy of a page that a forced split deals out is the page, or nothing is dealt out
abbrev pub copied : List ℕ → ℕ → List ℕ
copied w j = sets (replicate 32 0) 0 (take 32 (drop (32 * j) w))

module _ (n : ℕ) (w : List ℕ) (j : ℕ) (h : length w ≡ 32 * n) where
  copied_page : (C : List ℕ → Claimed) → ((s : List ℕ) → word L w j 1 ≡ 0 → C s ≡ C (page L w j)) → C (copied w j) ≡ C (page L w j)
  copied_page C f =
      bool (ltb j n)
      (λ t. ap C (sets_all (replicate 32 0) (page L w j) (page_full L w n j h (ltb→lt j n t))))
      (λ t. let g = nltb→le j n t in f (copied w j) (get_or-eq_default w 0 {n = 32 * j + 1} (omega arith)))

  module _ (k d x : ℕ) where
    no_points : (e : ℕ) (s : List ℕ) → word L w j 1 ≡ 0 → part_points L n k d x s (word L w j 1) e j w ≡ part_points L n k d x (page L w j) (word L w j 1) e j w
    unfolding part_points points_in
    no_points e s y = rw y

    pub split_points : (level : ℕ) → level ≡ 0 → part_points L n k d x (copied w j) (word L w j 1) (after_forced k (word L w j 2)) j w ≡ split_in L n k d x level j w
    unfolding split_in
    split_points level z = let e = after_forced k (word L w j 2) in rw z (copied_page (λ s. part_points L n k d x s (word L w j 1) e j w) (no_points e))

    no_entries : (below : ℕ → List ℕ → Claimed) (e : ℕ) (s : List ℕ) → word L w j 1 ≡ 0
        → part_regions L n k d x below s (word L w j 1) e j w ≡ part_regions L n k d x below (page L w j) (word L w j 1) e j w
    unfolding part_regions entries_in
    no_entries below e s y = rw y

    pub split_regions : (level l : ℕ) → level ≡ suc l → part_regions L n k d x (split_in L n k d x l) (copied w j) (word L w j 1) (after_forced k (word L w j 2)) j w ≡ split_in L n k d x level j w
    unfolding split_in
    split_regions level l z =
        let e = after_forced k (word L w j 2) in
        rw z (copied_page (λ s. part_regions L n k d x (split_in L n k d x l) s (word L w j 1) e j w) (no_entries (split_in L n k d x l) e))

    pub split_at : (o : Option ℕ) (level : ℕ) → SomeIff o (1 ≤ level) (level - 1)
        → part_at n k d x o (copied w j) (word L w j 1) (after_forced k (word L w j 2)) j w ≡ split_in L n k d x level j w
    split_at None level h = split_points level (bool (leb 1 level) (λ t. absurd (h (leb→le 1 level t))) (λ t. omega (arith, nleb→lt 1 level t)))
    split_at (Some l) level h = let g = h.0 in let e = h.1 in split_regions level l (omega arith)
