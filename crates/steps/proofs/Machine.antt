-- Stores to a pool, seen page by page: every store leaves one record, the page that it wrote, the others as they were, the pool as long
-- as it was.
use mathlib.Core.Bool.{true}
use mathlib.Core.List.{List, [], ◌∷◌, ◌++◌}
use mathlib.Core.Path.{◌≡◌, refl, sym, ap, ap₂, ◌∙◌, subst, subst₂}
use Prim.Native.Nat.{ℕ, suc, ◌+◌, ◌*◌, ◌-◌, ◌≤◌}
use native.Mathlib.Omega.{arith}
use native.Mathlib.Nat.{add-zero, suc-mul}
use lib.Dec.{leb, eqb}
use lib.ListN.{length, drop, get_or, set, length-append}
use lib.Seq.{sets, length-sets}
use borrow.Author.Tests.{le-leb}
use Rattle.kdb.specs.Lists.{bit, pad}
use Rattle.kdb.specs.Pages.{layout, page}
use Rattle.kdb.proofs.Tests.{ne_of_bit}
use Rattle.kdb.proofs.Stores.{sets_cons, sets_all, length_pad, pad_sets, pad_nil, pad_tail, pad_pad}
use Rattle.kdb.proofs.Pages.{page_sets, page_sets_other, word_at_lem}
use Rattle.words.specs.Words.{word}
use Rattle.steps.specs.Machine.{fresh_in, append_in, overfull}

-- what a store to page j leaves
pub record Wrote (L : ℕ) (w : List ℕ) (j : ℕ) (v : List ℕ) (w' : List ℕ) : Type 0 where
  pub here : page L w' j ≡ v
  pub there : (c : ℕ) → bit (eqb c j) ≡ 0 → page L w' c ≡ page L w c
  pub long : length w' ≡ length w

module _ (L : ℕ) where
  -- some words of page j
  pub wrote : (w : List ℕ) (j i : ℕ) (ys : List ℕ) → i + length ys ≤ L → Wrote L w j (sets (page L w j) i ys) (sets w (L * j + i) ys)
  wrote w j i ys h =
      record { here = page_sets L w j i ys h; there = λ c z. page_sets_other L w j i ys c h (ne_of_bit c j z); long = length-sets w (L * j + i) ys }

  -- one store after another
  then_wrote : (w w1 w2 : List ℕ) (j : ℕ) (v v' : List ℕ) → Wrote L w j v w1 → Wrote L w1 j v' w2 → Wrote L w j v' w2
  then_wrote w w1 w2 j v v' a b = record { here = b.here; there = λ c z. b.there c z ∙ a.there c z; long = b.long ∙ a.long }

four : (i : ℕ) → 4 + i ≡ suc (suc (suc (suc i)))
four i = omega arith

pub length_layout : (L kd m e : ℕ) (ws : List ℕ) → 4 ≤ L → length (layout L kd m e ws) ≡ L
length_layout L kd m e ws h = omega (arith, length_pad (L - 4) ws)

pub layout_sets : (L kd m e : ℕ) (ws us ws' : List ℕ) (i : ℕ) → sets (pad (L - 4) ws) i us ≡ pad (L - 4) ws' → sets (layout L kd m e ws) (4 + i) us ≡ layout L kd m e ws'
layout_sets L kd m e ws us ws' i h =
    ap (λ i. sets (layout L kd m e ws) i us) (four i)
    ∙ (sets_cons kd _ _ us ∙ ap (λ r. kd ∷ r) (sets_cons m _ _ us ∙ ap (λ r. m ∷ r) (sets_cons e _ _ us ∙ ap (λ r. e ∷ r) (sets_cons 0 _ _ us ∙ ap (λ r. 0 ∷ r) h))))

module _ (L : ℕ) (big : 4 ≤ L) where
  pub fresh : (w : List ℕ) (c kd e : ℕ) → length (page L w c) ≡ L → Wrote L w c (layout L kd 0 e []) (fresh_in L w c kd e)
  unfolding fresh_in
  fresh w c kd e h =
      let z = add-zero (L * c) in
      let n = length_pad L [] in
      let w1 = sets w (L * c + 0) (pad L []) in
      let w2 = set w1 (L * c + 0) kd in
      let s : L ≡ suc (suc (suc (suc (L - 4)))) = omega arith in
      let q : set (set (sets (page L w c) 0 (pad L [])) 0 kd) 2 e ≡ layout L kd 0 e [] =
      ap (λ v. set (set v 0 kd) 2 e) (sets_all (page L w c) (pad L []) (n ∙ sym h)) ∙ subst (λ i. set (set (pad i []) 0 kd) 2 e ≡ layout L kd 0 e []) (sym s) refl in
      let a = wrote L w c 0 (pad L []) (omega (arith, n)) in
      let b = wrote L w1 c 0 (kd ∷ []) (omega arith) in
      let d = wrote L w2 c 2 (e ∷ []) (omega arith) in
      let o = then_wrote L w w1 w2 c _ _ a b in
      let r : Wrote L w c (layout L kd 0 e []) (set w2 (L * c + 2) e) =
      record { here = d.here ∙ (ap (λ v. set v 2 e) (b.here ∙ ap (λ v. set v 0 kd) a.here) ∙ q); there = λ i t. d.there i t ∙ o.there i t; long = d.long ∙ o.long } in
      subst₂ (λ i v. Wrote L w c (layout L kd 0 e []) (set (set (sets w i v) i kd) (L * c + 2) e)) z (pad_nil L) r

  module _ (wd : ℕ) (w : List ℕ) (c kd m e : ℕ) (ws u : List ℕ) (h : page L w c ≡ layout L kd m e ws) (n : length ws ≡ m * wd) (l : length u ≡ wd) where
    count_at_lem : word L w c 1 ≡ m
    count_at_lem = sym (word_at_lem L w c 1 (omega arith)) ∙ ap (λ p. get_or p 1 0) h

    pub append : 4 + suc m * wd ≤ L → Wrote L w c (layout L kd (suc m) e (ws ++ u)) (append_in L wd w c u)
    unfolding append_in
    append r =
        let q = suc-mul m wd in
        let s : m + 1 ≡ suc m = omega arith in
        let at : m * wd ≡ length ws = sym n in
        let t : leb (4 + suc m * wd) L ≡ true = le-leb (4 + suc m * wd) L r in
        let w1 = sets w (L * c + (4 + length ws)) u in
        let a = wrote L w c (4 + length ws) u (omega (arith, n, l, q)) in
        let b = wrote L w1 c 1 (suc m ∷ []) (omega arith) in
        rw (count_at_lem, s, t, at)
        (record {
          here = b.here ∙ ap (λ p. set p 1 (suc m)) (a.here ∙ (ap (λ p. sets p (4 + length ws) u) h ∙ layout_sets L kd m e ws u (ws ++ u) (length ws) (pad_sets (L - 4) ws u)));
          there = λ i t. b.there i t ∙ a.there i t;
          long = b.long ∙ a.long;
        })

    -- the copy with one entry more
    pub over : 4 + m * wd ≤ L → drop 4 (overfull L wd w c u) ≡ (ws ++ u) ++ pad (L - 4 + wd - length (ws ++ u)) []
    unfolding overfull
    over r =
        let z : L + wd ≡ suc (suc (suc (suc (L - 4 + wd)))) = omega arith in
        let at : 4 + word L w c 1 * wd ≡ suc (suc (suc (suc (length ws)))) = ap (λ i. 4 + i * wd) count_at_lem ∙ omega (arith, n) in
        let p : pad (L + wd) (page L w c) ≡ kd ∷ m ∷ e ∷ 0 ∷ pad (L - 4 + wd) ws =
        ap₂ pad z h ∙ ap (λ v. kd ∷ m ∷ e ∷ 0 ∷ v) (pad_pad (L - 4) (L - 4 + wd) ws (omega (arith, n)) (omega arith)) in
        ap₂ (λ v i. drop 4 (sets v i u)) p at
        ∙ (ap (drop 4) (sets_cons kd _ _ u ∙ ap (λ r. kd ∷ r) (sets_cons m _ _ u ∙ ap (λ r. m ∷ r) (sets_cons e _ _ u ∙ ap (λ r. e ∷ r) (sets_cons 0 _ _ u))))
        ∙ (pad_sets (L - 4 + wd) ws u ∙ pad_tail (L - 4 + wd) (ws ++ u) (omega (arith, length-append ws u, n, l))))
