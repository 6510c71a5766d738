-- The words of an entry: where its ends and its child stand, and what a store of one word makes of it.
use mathlib.Core.Bool.{false}
use mathlib.Core.List.{List, [], ◌∷◌, ◌++◌, append_assoc}
use mathlib.Core.Path.{◌≡◌, refl, sym, ap, ap₂, ◌∙◌}
use Prim.Native.Nat.{ℕ, zero, suc, ◌+◌, ◌*◌, ◌<◌}
use native.Mathlib.Omega.{arith}
use lib.ListN.{length, take, drop, get_or, set, length-map, get_or-append}
use lib.Seq.{get_or-append-add, get_or_at, set_at, get_or-drop, take_at, drop_at, drop-drop}
use Rattle.kdb.specs.Box.{Box, sides, key_at, lower_at, upper_at, left_part, right_part}
use Rattle.kdb.specs.Tree.{Rec}
use Rattle.kdb.specs.Pages.{Ent, words_r, words_e}
use Rattle.kdb.proofs.Stores.{set_append_add}
use Rattle.kdb.proofs.Tiling.{part_length}
use Rattle.kdb.proofs.Pages.{lows, highs, both_length, ent_of, ent_back}
use Rattle.words.specs.Words.{region_at}

abbrev pub ent : Box → ℕ → Ent
ent b c = record { box = b; child = c }

low_word : (b : Box) (z : List ℕ) (d : ℕ) → d < length b → get_or (lows b ++ z) d 0 ≡ lower_at d b
low_word [] z d h = absurd (omega arith)
low_word (s ∷ b) z zero h = refl
low_word (s ∷ b) z (suc d) h = low_word b z d (omega arith)

high_word : (b : Box) (z : List ℕ) (d : ℕ) → d < length b → get_or (highs b ++ z) d 0 ≡ upper_at d b
high_word [] z d h = absurd (omega arith)
high_word (s ∷ b) z zero h = refl
high_word (s ∷ b) z (suc d) h = high_word b z d (omega arith)

set_low : (b : Box) (z : List ℕ) (d x : ℕ) → d < length b → set (lows b ++ z) d x ≡ lows (right_part d x b) ++ z
set_low [] z d x h = absurd (omega arith)
set_low (s ∷ b) z zero x h = refl
set_low (s ∷ b) z (suc d) x h = ap (λ r. s.lo ∷ r) (set_low b z d x (omega arith))

set_high : (b : Box) (z : List ℕ) (d x : ℕ) → d < length b → set (highs b ++ z) d x ≡ highs (left_part d x b) ++ z
set_high [] z d x h = absurd (omega arith)
set_high (s ∷ b) z zero x h = refl
set_high (s ∷ b) z (suc d) x h = ap (λ r. s.hi ∷ r) (set_high b z d x (omega arith))

lows_left : (d x : ℕ) (b : Box) → lows (left_part d x b) ≡ lows b
lows_left d x [] = refl
lows_left zero x (s ∷ b) = refl
lows_left (suc d) x (s ∷ b) = ap (λ r. s.lo ∷ r) (lows_left d x b)

highs_right : (d x : ℕ) (b : Box) → highs (right_part d x b) ≡ highs b
highs_right d x [] = refl
highs_right zero x (s ∷ b) = refl
highs_right (suc d) x (s ∷ b) = ap (λ r. s.hi ∷ r) (highs_right d x b)

-- an entry whose region has k sides
module _ (k : ℕ) (b : Box) (c : ℕ) (n : length b ≡ k) where
  pub entry_child : get_or (words_e (ent b c)) (2 * k) 0 ≡ c
  entry_child = ap (λ l. get_or l (2 * k) 0) (sym (append_assoc (lows b) (highs b) (c ∷ []))) ∙ get_or_at (lows b ++ highs b) c [] 0 (2 * k) (both_length k b n)

  pub entry_child_set : (q : ℕ) → set (words_e (ent b c)) (2 * k) q ≡ words_e (ent b q)
  entry_child_set q =
      ap (λ l. set l (2 * k) q) (sym (append_assoc (lows b) (highs b) (c ∷ []))) ∙ (set_at (lows b ++ highs b) c [] q (2 * k) (both_length k b n) ∙ append_assoc (lows b) (highs b) (q ∷ []))

  module _ (d : ℕ) (low : d < k) where
    pub entry_lower : get_or (words_e (ent b c)) d 0 ≡ lower_at d b
    entry_lower = low_word b (highs b ++ (c ∷ [])) d (omega (arith, n))

    at_high : k + d ≡ length (lows b) + d
    at_high = omega (arith, n, length-map b (λ s. s.lo))

    pub entry_upper : get_or (words_e (ent b c)) (k + d) 0 ≡ upper_at d b
    entry_upper = ap (λ i. get_or (words_e (ent b c)) i 0) at_high ∙ (get_or-append-add (lows b) (highs b ++ (c ∷ [])) d 0 ∙ high_word b (c ∷ []) d (omega (arith, n)))

    pub entry_left : (x : ℕ) → set (words_e (ent b c)) (k + d) x ≡ words_e (ent (left_part d x b) c)
    entry_left x =
        ap (λ i. set (words_e (ent b c)) i x) at_high
        ∙ (set_append_add (lows b) (highs b ++ (c ∷ [])) d x ∙ ap₂ ◌++◌ (sym (lows_left d x b)) (set_high b (c ∷ []) d x (omega (arith, n))))

    entry_low_set : (x : ℕ) → set (words_e (ent b c)) d x ≡ words_e (ent (right_part d x b) c)
    entry_low_set x = set_low b (highs b ++ (c ∷ [])) d x (omega (arith, n)) ∙ ap (λ h. lows (right_part d x b) ++ (h ++ (c ∷ []))) (sym (highs_right d x b))

pub entry_right : (k : ℕ) (b : Box) (c : ℕ) → length b ≡ k → (d : ℕ) → d < k → (x q : ℕ) → set (set (words_e (ent b c)) d x) (2 * k) q ≡ words_e (ent (right_part d x b) q)
entry_right k b c n d low x q = ap (λ l. set l (2 * k) q) (entry_low_set k b c n d low x) ∙ entry_child_set k (right_part d x b) c (part_length false d x b ∙ n) q

key_word : (ks z : List ℕ) (d : ℕ) → d < length ks → get_or (ks ++ z) d 0 ≡ key_at d ks
key_word [] z d h = absurd (omega arith)
key_word (a ∷ ks) z zero h = refl
key_word (a ∷ ks) z (suc d) h = key_word ks z d (omega arith)

pub rec_key_lem : (k : ℕ) (r : Rec) → length r.key ≡ k → (d : ℕ) → d < k → get_or (words_r r) d 0 ≡ key_at d r.key
rec_key_lem k r n d low = key_word r.key (r.loc ∷ []) d (omega (arith, n))

-- the entry u at word a of some words
module _ (src : List ℕ) (a wd : ℕ) (u zs : List ℕ) (h : drop a src ≡ u ++ zs) (n : length u ≡ wd) where
  pub words_at : take wd (drop a src) ≡ u
  words_at = ap (take wd) h ∙ take_at u zs wd n

  pub words_after : drop (a + wd) src ≡ zs
  words_after = sym (drop-drop wd a src) ∙ (ap (drop wd) h ∙ drop_at u zs wd n)

  pub word_in : (i : ℕ) → i < wd → get_or src (a + i) 0 ≡ get_or u i 0
  word_in i l = sym (get_or-drop a src i 0) ∙ (ap (λ v. get_or v i 0) h ∙ get_or-append u zs 0 i (omega (arith, n)))

-- the region at word a
pub box_at : (k : ℕ) (b : Box) (c : ℕ) → length b ≡ k → (src : List ℕ) (a : ℕ) (zs : List ℕ) → drop a src ≡ words_e (ent b c) ++ zs → region_at k src a ≡ b
box_at k b c n src a zs h = ap (λ v. sides (take k (drop a src)) (take k v)) (sym (drop-drop k a src)) ∙ (ap (λ v. (ent_of k v).box) h ∙ ap (λ e. e.box) (ent_back k (ent b c) zs n))
