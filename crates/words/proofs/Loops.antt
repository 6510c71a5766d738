-- Laws of one turn and of the end of the loops over words: what is left to do gives what the whole gives.
use Prim.Native.Nat.{ℕ, zero, suc, ◌+◌, ◌-◌, ◌<◌, ◌≤◌, min}
use mathlib.Core.Bool.{Bool, ◌&&◌}
use mathlib.Core.List.{List, [], ◌∷◌}
use mathlib.Core.Path.{◌≡◌, refl, sym, ap, ap₂, ◌∙◌}
use native.Mathlib.Omega.{arith}
use lib.Dec.{leb, leb→le, nleb→lt}
use lib.ListN.{length, take, drop, get_or, length-drop, get_or-eq_default}
use lib.Seq.{sets, drop-cons}
use borrow.Author.Tests.{ne_eqb}
use Rattle.kdb.specs.Lists.{every}
use Rattle.kdb.proofs.Tests.{bool, and_true, and_assoc}
use Rattle.kdb.proofs.Stores.{sets_out}
use Rattle.words.specs.Loops.{all_by, keys_by}
use Rattle.kdb.specs.Calls.{L}
use Rattle.std.specs.Prelude.{Option, Some, None, MatchOption, IfSome}
use Rattle.words.specs.Words.{word_at, zero_at, free_from, lowest, page_or}

module _ (c e : ℕ) (f : ℕ → ℕ → Bool) (d a : ℕ) (ok w : Bool) where
  pub all_next : all_by (c - e) f d a ok ≡ w → e < c → all_by (c - (e + 1)) f d (a + d) (ok && f (c - (e + 1)) a) ≡ w
  unfolding all_by
  all_next v h = let q : c - e ≡ suc (c - (e + 1)) = omega arith in rw q at v

-- m words from a + i on, where there are so many
pub keys_by_lem : (m a i : ℕ) (w : List ℕ) (f : ℕ → ℕ) → ((d : ℕ) → f d ≡ get_or w (a + d) 0) → a + i + m ≤ length w → keys_by m f i ≡ take m (drop (a + i) w)
keys_by_lem zero a i w f e h = refl
keys_by_lem (suc m) a i w f e h =
    let q : suc (a + i) ≡ a + (i + 1) = omega arith in
    rw (drop-cons w (a + i) 0 (omega arith)) (ap₂ ◌∷◌ (e i) (keys_by_lem m a (i + 1) w f e (omega arith) ∙ ap (λ (n : ℕ). take m (drop n w)) (sym q)))

-- a test of each of m values
pub every_by : (t : ℕ → Bool) (m : ℕ) (f : ℕ → ℕ) (i : ℕ) (ok : Bool) → all_by m (λ n d. t (f d)) 1 i ok ≡ ok && every t (keys_by m f i)
unfolding all_by
every_by t zero f i ok = sym (and_true ok)
every_by t (suc m) f i ok = every_by t m f (i + 1) (ok && t (f i)) ∙ and_assoc ok (t (f i)) (every t (keys_by m f (i + 1)))

-- words past the end are 0
all_past : (w : List ℕ) (m i : ℕ) (ok : Bool) → length w ≤ i → all_by m (zero_at w) 1 i ok ≡ ok
unfolding all_by
all_past w zero i ok h = refl
all_past w (suc m) i ok h = all_past w m (i + 1) (ok && zero_at w m i) (omega arith) ∙ rw (get_or-eq_default w 0 h) (and_true ok)

pub zero_end : (w : List ℕ) (to i : ℕ) (ok : Bool) → min to (length w) ≤ i → all_by (to - i) (zero_at w) 1 i ok ≡ ok
unfolding all_by
zero_end w to i ok h = bool (leb to i)
    (λ t. let q : to - i ≡ 0 = omega (arith, leb→le to i t) in rw q)
    (λ t. all_past w (to - i) i ok (omega (arith, nleb→lt to i t)))

-- of m pages from j on, none is free, or i is the first that is
module _ (w : List ℕ) (n : ℕ) where
  free_none : (m j : ℕ) → ((i : ℕ) → j ≤ i → i < j + m → word_at w i 0 ≡ 0 → ⊥) → get_or (free_from L w m j) 0 n ≡ n
  free_none zero j h = refl
  free_none (suc m) j h = rw (ne_eqb _ _ (h j (omega arith) (omega arith))) (free_none m (suc j) (λ i a b. h i (omega arith) (omega arith)))

  free_first : (m j i : ℕ) → j ≤ i → i < j + m → word_at w i 0 ≡ 0 → ((k : ℕ) → j ≤ k → k < i → word_at w k 0 ≡ 0 → ⊥) → get_or (free_from L w m j) 0 n ≡ i
  free_first zero j i a b z h = absurd (omega arith)
  free_first (suc m) j i a b z h = bool (leb i j)
      (λ t. let e : i ≡ j = omega (arith, leb→le i j t) in rw (← e, z))
      (λ t. let l : j < i = nleb→lt i j t in rw (ne_eqb _ _ (h j (omega arith) l)) (free_first m (suc j) i l (omega arith) z (λ k a b. h k (omega arith) b)))

  -- what a `find` over the pages from 1 on tells
  pub free_found : (r : Option ℕ) → 1 ≤ n
      → MatchOption r ((k : ℕ) → 1 ≤ k → k < n → word_at w k 0 ≡ 0 → ⊥) (λ i. (1 ≤ i) × (i < n) × (word_at w i 0 ≡ 0) × ((k : ℕ) → 1 ≤ k → k < i → word_at w k 0 ≡ 0 → ⊥))
      → (page_or n r ≡ lowest L n w) × IfSome r (λ j. (1 ≤ j) × (j < n))
  free_found None l h = (sym (free_none (n - 1) 1 (λ i a b. h i a (omega arith))), tt)
  free_found (Some i) l h = (sym (free_first (n - 1) 1 i h.0 (omega (arith, h.1)) h.2 h.3), (h.0, h.1))

-- a run of stores ends where nothing is left to store, or nothing of the buffer
module _ (x : List ℕ) (i : ℕ) (y : List ℕ) where
  pub store_end : (u : List ℕ) → sets x i u ≡ y → min (length x) (i + length u) ≤ i → x ≡ y
  store_end [] v h = v
  store_end (a ∷ u) v h = sym (sets_out x (a ∷ u) i (omega arith)) ∙ v

  pub copy_end : (s : List ℕ) → sets x i (drop i s) ≡ y → min (length x) (length s) ≤ i → x ≡ y
  copy_end s v h = store_end (drop i s) v (omega (arith, length-drop i s))
