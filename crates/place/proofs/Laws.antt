-- Laws of each return of placing and removing, over the machine forms.
use mathlib.Core.Bool.{true, false}
use mathlib.Core.List.{List, [], ◌∷◌, ◌++◌}
use mathlib.Core.Path.{◌≡◌, refl, sym, ap, ◌∙◌}
use Prim.Native.Nat.{ℕ, zero, suc, ◌+◌, ◌-◌, ◌*◌, ◌<◌, ◌≤◌}
use native.Mathlib.Omega.{arith}
use native.Mathlib.Nat.{mul-le-mul}
use lib.Dec.{leb, leb→le, nleb→lt}
use lib.ListN.{take, drop, get_or, set, replicate}
use lib.Seq.{sets, set_comm, set-set}
use borrow.Author.Tests.{eq-eqb, ne_eqb}
use Rattle.std.proofs.Common.{Some, None, Result, Ok, Err}
use Rattle.std.specs.Result.{IsErr, is_err}
use Rattle.kdb.specs.Box.{Key}
use Rattle.kdb.proofs.Tests.{bool}
use Rattle.kdb.specs.Calls.{L}
use Rattle.kdb.specs.Pages.{regions_per, points_per}
use Rattle.kdb.specs.Pool.{root_at, levels_at, count_at}
use Rattle.kdb.specs.declared.Form.{Form}
use Rattle.words.specs.Words.{Fit, word, whole_words}
use Rattle.words.proofs.Laws.{pages}
use Rattle.deal.specs.Part.{claimed, half_in}
use Rattle.deal.specs.declared.Wanting.{Wanting}
use Rattle.split.specs.Part.{passed}
use Rattle.split.proofs.Laws.{short_is}
use Rattle.grow.specs.Grown.{grown_as}
use Rattle.grow.specs.declared.Broken.{Broken}
use Rattle.steps.specs.Machine.{head_in, append_in}
use Rattle.steps.specs.Claim.{claim_in}
use Rattle.steps.specs.Grow.{short, Grown, grow_in}
use Rattle.steps.specs.Place.{space, root_in, topped_in, first_in, restored, place_in}
use Rattle.steps.specs.Remove.{down_in, close_in, remove_in}
use Rattle.place.specs.Steps.{steps_in}

-- a word stored where it stands
again : (w : List ℕ) (i : ℕ) → set w i (get_or w i 0) ≡ w
again [] i = refl
again (a ∷ w) zero = refl
again (a ∷ w) (suc i) = ap (λ v. a ∷ v) (again w i)

-- the header's words that change are stored alone: root, levels and count, or the count
pub header_is : (w : List ℕ) (r l c : ℕ) → set (set (set w 2 r) 3 l) 4 c ≡ head_in w r l c
unfolding head_in
header_is w r l c = ap (λ v. set (set (set v 2 r) 3 l) 4 c) (sym (ap (λ v. set v 1 (get_or w 1 0)) (again w 0) ∙ again w 1))

count_is : (w : List ℕ) (c : ℕ) → set w 4 c ≡ head_in w (root_at w) (levels_at w) c
count_is w c = ap (λ v. set v 4 c) (sym (ap (λ v. set v 3 (levels_at w)) (again w 2) ∙ again w 3)) ∙ header_is w (root_at w) (levels_at w) c

-- the entry of the whole space
whole_at : (k : ℕ) → 1 ≤ k → k ≤ 4 → take (2 * k + 1) (drop (4 - k) whole_words) ≡ set (space k) (2 * k) (get_or whole_words (4 + k) 0)
whole_at zero h g = absurd (omega arith)
whole_at (suc zero) h g = refl
whole_at (suc (suc zero)) h g = refl
whole_at (suc (suc (suc zero))) h g = refl
whole_at (suc (suc (suc (suc zero)))) h g = refl
whole_at (suc (suc (suc (suc (suc k))))) h g = absurd (omega arith)

pub whole_half : (k i x q : ℕ) → 1 ≤ k → k ≤ 4 → i < 2 * k → half_in k (take (5 + k - (4 - k)) (drop (4 - k) whole_words)) i x q ≡ set (set (space k) i x) (2 * k) q
whole_half k i x q h g l =
    let v = get_or whole_words (4 + k) 0 in
    let n : 5 + k - (4 - k) ≡ 2 * k + 1 = omega arith in
    rw n (ap (λ u. set (set u i x) (2 * k) q) (whole_at k h g)
    ∙ ap (λ u. set u (2 * k) q) (set_comm (space k) (2 * k) i v x (λ z. omega arith)) ∙ set-set (set (space k) i x) (2 * k) v q)

-- the new root
module _ (n k d x l r levels count : ℕ) (w v : List ℕ) where
  pub root_none : (q : Result (Unit {0}) Wanting) → IsErr q → record { page = 0; words = v } ≡ claim_in L n 1 0 w → passed q v ≡ root_in L n k d x l r levels count w
  unfolding root_in
  root_none q i h = short_is q v i ∙ rw (← h)

  pub root_some : (top : ℕ) → 1 ≤ top → claimed (Ok top) v ≡ claim_in L n 1 0 w
      → passed (Ok tt) (head_in (append_in L (2 * k + 1) (append_in L (2 * k + 1) v top (set (set (space k) (k + d) x) (2 * k) l)) top (set (set (space k) d x) (2 * k) r)) top (levels + 1) (count + 1))
      ≡ root_in L n k d x l r levels count w
  unfolding root_in
  root_some top z h = rw (← h, ne_eqb top 0 (λ b. omega arith))

-- the first point
module _ (n k : ℕ) (p : Key) (l : ℕ) (w v : List ℕ) where
  pub first_none : (q : Result (Unit {0}) Wanting) → IsErr q → record { page = 0; words = v } ≡ claim_in L n 2 0 w → passed q v ≡ first_in L n k p l w
  unfolding first_in
  first_none q i h = short_is q v i ∙ rw (← h)

  pub first_some : (r : ℕ) → 1 ≤ r → claimed (Ok r) v ≡ claim_in L n 2 0 w → passed (Ok tt) (head_in (append_in L (k + 1) v r (p ++ (l ∷ []))) r 1 1) ≡ first_in L n k p l w
  unfolding first_in
  first_some r z h = rw (← h, ne_eqb r 0 (λ b. omega arith))

-- the steps, and the pool restored
module _ (n k : ℕ) (p : Key) (l : ℕ) (w : List ℕ) where
  pub steps_first : (1 ≤ levels_at w → ⊥) → first_in L n k p l w ≡ steps_in n k p l w
  unfolding steps_in
  steps_first z =
      let e : levels_at w ≡ 0 = bool (leb 1 (levels_at w)) (λ t. absurd (z (leb→le 1 (levels_at w) t))) (λ t. omega (arith, nleb→lt 1 (levels_at w) t)) in
      rw (eq-eqb (levels_at w) 0 e)

  module _ (level : ℕ) (z : 1 ≤ levels_at w) (y : level ≡ levels_at w - 1) (v : List ℕ) where
    grown : (g : Grown) → g ≡ grow_in L n k (regions_per L k) (points_per L k) p l level (root_at w) w
        → topped_in L n k (root_at w) (levels_at w) (count_at w) g ≡ steps_in n k p l w
    unfolding steps_in
    grown g h = rw (ne_eqb (levels_at w) 0 (λ b. omega arith)) (ap (topped_in L n k (root_at w) (levels_at w) (count_at w)) (h ∙ ap (λ m. grow_in L n k (regions_per L k) (points_per L k) p l m (root_at w) w) y))

    pub steps_short : (q : Result (Unit {0}) Wanting) → IsErr q → record { how = short; words = v } ≡ grow_in L n k (regions_per L k) (points_per L k) p l level (root_at w) w
        → passed q v ≡ steps_in n k p l w
    unfolding topped_in
    steps_short q i h = short_is q v i ∙ grown _ h

    pub steps_fine : grown_as (Ok None) v ≡ grow_in L n k (regions_per L k) (points_per L k) p l level (root_at w) w
        → passed (Ok tt) (head_in v (root_at w) (levels_at w) (count_at w + 1)) ≡ steps_in n k p l w
    unfolding topped_in
    steps_fine h = grown _ h

    pub steps_broke : (b : Broken) → grown_as (Ok (Some b)) v ≡ grow_in L n k (regions_per L k) (points_per L k) p l level (root_at w) w
        → root_in L n k b.cut.domain b.cut.key (root_at w) b.page (levels_at w) (count_at w) v ≡ steps_in n k p l w
    unfolding topped_in
    steps_broke b h = grown _ h

module _ (p : Key) (l : ℕ) (w : List ℕ) (f : Form) (h : Fit w f) where
  place_steps : restored w (steps_in f.pages f.domains p l w) ≡ place_in L p l w
  unfolding steps_in place_in
  place_steps = rw (← h.says, ← pages w f h.formed)

  pub place_done : (q : Result (Unit {0}) Wanting) (v : List ℕ) → is_err q ≡ false → passed q v ≡ steps_in f.pages f.domains p l w → passed q v ≡ place_in L p l w
  place_done (Ok y) v i h = ap (restored w) h ∙ place_steps
  place_done (Err x) v i h = absurd (let y : true ≡ false = i in cc)

  pub place_back : (q : Result (Unit {0}) Wanting) (v : List ℕ) → IsErr q → passed q v ≡ steps_in f.pages f.domains p l w → passed q w ≡ place_in L p l w
  place_back q v i h = short_is q w i ∙ (rw (short_is q v i) at (ap (restored w) h)) ∙ place_steps

-- words that move down
pub down_end : (wd n : ℕ) (w : List ℕ) (a : ℕ) → n ≡ 0 → down_in wd n w a ≡ w
unfolding down_in
down_end wd n w a h = rw h

pub down_next : (wd n i : ℕ) (w : List ℕ) (a : ℕ) (z : List ℕ) → down_in wd (n - i) w (a + i) ≡ z → i < n
    → down_in wd (n - (i + 1)) (set w (a + i) (get_or w (a + i + wd) 0)) (a + (i + 1)) ≡ z
unfolding down_in
down_next wd n i w a z e h = let q : n - i ≡ suc (n - (i + 1)) = omega arith in let b : a + (i + 1) ≡ a + i + 1 = omega arith in rw b (rw q at e)

pub far : (m wd : ℕ) → m < 4294967296 → wd ≤ 5 → m * wd ≤ 4294967296 * 5
far m wd h g = mul-le-mul (let q : m ≤ 4294967296 = omega arith in q) g

pub remove_is : (j slot : ℕ) (w : List ℕ) (f : Form) → Fit w f
    → (let wd = f.domains + 1 in let a = 32 * j + 4 + slot * wd in let n = 32 * j + 4 + word L w j 1 * wd - (a + wd) in
    set (set (sets (down_in wd n w a) (a + n) (replicate (a + n + wd - (a + n)) 0)) (32 * j + 1) (word L w j 1 - 1)) 4 (count_at w - 1)) ≡ remove_in L j slot w
unfolding remove_in close_in
remove_is j slot w f h =
    let wd = f.domains + 1 in
    let a = 32 * j + 4 + slot * wd in
    let n = 32 * j + 4 + word L w j 1 * wd - (a + wd) in
    let q : a + n + wd - (a + n) ≡ wd = omega arith in
    rw (q, h.says) (count_is _ _)
