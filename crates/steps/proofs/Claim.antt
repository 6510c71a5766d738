-- Claiming in place takes the first of the free pages. `free` is the list of the pages of kind 0, lowest first.
use mathlib.Core.Bool.{Bool}
use mathlib.Core.List.{List, [], ◌∷◌}
use mathlib.Core.Path.{◌≡◌, sym, ap, ◌∙◌, subst}
use Prim.Native.Nat.{ℕ, ◌-◌, ◌<◌, ◌≤◌}
use native.Mathlib.Omega.{arith}
use lib.Dec.{T_not, eqb, eqb→eq}
use lib.ListN.{length, get_or}
use borrow.Author.Tests.{eq-eqb, ne_eqb}
use Rattle.kdb.specs.Lists.{only, many, up_from, pad}
use Rattle.kdb.specs.Pages.{layout, page}
use Rattle.kdb.proofs.Tests.{bool, self, no_bit}
use Rattle.kdb.proofs.Counts.{only_same, only_in, only_once, only_claimed}
use Rattle.kdb.proofs.Stores.{length_pad}
use Rattle.words.specs.Words.{lowest, word}
use Rattle.steps.specs.Machine.{fresh_in}
use Rattle.steps.specs.Claim.{claim_in}
use Rattle.kdb.proofs.Pages.{word_at_lem}
use Rattle.steps.proofs.Machine.{Wrote, fresh}

-- the store leaves every page's kind
module _ (L : ℕ) (big : 4 ≤ L) where
  kind_at : (w : List ℕ) (c kd m e : ℕ) (ws : List ℕ) → page L w c ≡ layout L kd m e ws → word L w c 0 ≡ kd
  kind_at w c kd m e ws h = sym (word_at_lem L w c 0 (omega arith)) ∙ ap (λ p. get_or p 0 0) h

  kind_same : (w w' : List ℕ) (c : ℕ) → page L w' c ≡ page L w c → word L w' c 0 ≡ word L w c 0
  kind_same w w' c h = sym (word_at_lem L w' c 0 (omega arith)) ∙ (ap (λ p. get_or p 0 0) h ∙ word_at_lem L w c 0 (omega arith))

  pub kinds : (w w' : List ℕ) (j kd m m' e e' : ℕ) (ws ws' : List ℕ) → page L w j ≡ layout L kd m e ws → Wrote L w j (layout L kd m' e' ws') w' → (c : ℕ) → word L w' c 0 ≡ word L w c 0
  kinds w w' j kd m m' e e' ws ws' h o c =
      bool (eqb c j)
      (λ t. subst (λ i. word L w' i 0 ≡ word L w i 0) (sym (eqb→eq c j t)) (kind_at w' j kd m' e' ws' o.here ∙ sym (kind_at w j kd m e ws h)))
      (λ t. kind_same w w' c (o.there c (no_bit (eqb c j) (T_not (eqb c j) t))))

module _ (L N : ℕ) where
  abbrev pub blank_at : List ℕ → ℕ → Bool
  blank_at w i = eqb (word L w i 0) 0

  abbrev pub free_in : List ℕ → List ℕ
  free_in w = only (blank_at w) (up_from (N - 1) 1)

  pub record Free (w free : List ℕ) : Type 0 where
    pub is : free_in w ≡ free
    pub zeros : (c : ℕ) → 1 ≤ many c free → page L w c ≡ pad L []

  lowest_is : (w free : List ℕ) → Free w free → lowest L N w ≡ get_or free 0 N
  lowest_is w free f = ap (λ l. get_or l 0 N) f.is

  free_range : (w free : List ℕ) → Free w free → (c : ℕ) → 1 ≤ many c free → (1 ≤ c) × (c < N)
  free_range w free f c h = let r = only_in (blank_at w) (N - 1) 1 c (subst (λ l. 1 ≤ many c l) (sym f.is) h) in (r.0, omega (arith, r.0, r.1))

  free_once : (w free : List ℕ) → Free w free → (c : ℕ) → many c free ≤ 1
  free_once w free f c = subst (λ l. many c l ≤ 1) f.is (only_once (blank_at w) (N - 1) 1 c)

  -- stores that leave every kind and the free pages
  pub free_same : (w w' free : List ℕ) → ((c : ℕ) → word L w' c 0 ≡ word L w c 0) → ((c : ℕ) → 1 ≤ many c free → page L w' c ≡ page L w c) → Free w free → Free w' free
  free_same w w' free h g f =
      record { is = only_same (blank_at w) (blank_at w') (N - 1) 1 (λ i _ _. ap (λ m. eqb m 0) (h i)) ∙ f.is; zeros = λ c i. g c i ∙ f.zeros c i }

  pub claim_none : (w : List ℕ) (kd e : ℕ) → 1 ≤ N → Free w [] → claim_in L N kd e w ≡ record { page = 0; words = w }
  unfolding claim_in
  claim_none w kd e one f = rw (eq-eqb (lowest L N w) N (lowest_is w [] f))

  -- what claiming r leaves
  pub record Took (w : List ℕ) (kd e r : ℕ) (free w' : List ℕ) : Type 0 where
    pub is : claim_in L N kd e w ≡ record { page = r; words = w' }
    pub wrote : Wrote L w r (layout L kd 0 e []) w'
    pub low : 1 ≤ r
    pub high : r < N
    pub rest : Free w' free

  claim_turn : (w : List ℕ) (kd e r : ℕ) → lowest L N w ≡ r → r < N → claim_in L N kd e w ≡ record { page = r; words = fresh_in L w r kd e }
  unfolding claim_in
  claim_turn w kd e r h l = rw (h, ne_eqb r N (λ z. omega arith))

  pub claim_some : (w : List ℕ) (kd e r : ℕ) (free : List ℕ) → 4 ≤ L → 1 ≤ N → 1 ≤ kd → Free w (r ∷ free) → Took w kd e r free (fresh_in L w r kd e)
  claim_some w kd e r free big one pos f =
      let g = free_range w (r ∷ free) f r (omega (arith, self r)) in
      let o = fresh L big w r kd e (ap length (f.zeros r (omega (arith, self r))) ∙ length_pad L []) in
      let w' = fresh_in L w r kd e in
      record {
        is = claim_turn w kd e r (lowest_is w (r ∷ free) f) g.1;
        wrote = o;
        low = g.0;
        high = g.1;
        rest = record {
          is = only_claimed (blank_at w) (blank_at w') (N - 1) 1 r free (λ i z. ap (λ m. eqb m 0) (kind_same L big w w' i (o.there i z)))
              (ap (λ i. eqb i 0) (kind_at L big w' r kd 0 e [] o.here) ∙ ne_eqb kd 0 (λ z. omega arith)) f.is;
          zeros = λ c i. o.there c (omega (arith, free_once w (r ∷ free) f c)) ∙ f.zeros c (omega arith);
        };
      }
