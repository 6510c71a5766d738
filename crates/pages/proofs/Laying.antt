-- The layout of a page, by its words: the entries that are read print as the words that they were read from, so a page has the layout exactly
-- if word 3 and the words behind its last entry are zero.
use mathlib.Core.List.{List, [], ◌∷◌, ◌++◌, map}
use mathlib.Core.Logic.{◌↔◌}
use mathlib.Core.Path.{◌≡◌, refl, sym, ap, ap₂, ◌∙◌}
use Prim.Native.Nat.{ℕ, zero, suc, ◌+◌, ◌-◌, ◌*◌, ◌≤◌}
use native.Mathlib.Omega.{arith}
use native.Mathlib.Nat.{suc-mul, zero-mul}
use native.Mathlib.Numerals.{add-one}
use lib.Dec.{T, eqb}
use lib.ListN.{length, take, drop, get_or, length-drop, take-append-drop}
use lib.Seq.{take-suc, take-add, get_or-drop, drop_at, length-take-le}
use Rattle.kdb.specs.Lists.{every, gather, pad}
use Rattle.kdb.specs.Box.{sides}
use Rattle.kdb.specs.Pages.{words_r, words_e, layout, read_recs, read_ents}
use Rattle.kdb.proofs.Stores.{pad_tail, zeros_pad, pad_zeros}

-- entries read print as the words that they were read from
pub recs_words : (k n : ℕ) (vs : List ℕ) → n * (k + 1) ≤ length vs → gather words_r (read_recs k n vs) ≡ take (n * (k + 1)) vs
recs_words k zero vs h = rw (zero-mul (k + 1))
recs_words k (suc n) vs h =
    let q : suc n * (k + 1) ≡ k + 1 + n * (k + 1) = omega (arith, suc-mul n (k + 1)) in
    let one : take k vs ++ (get_or vs k 0 ∷ []) ≡ take (k + 1) vs = sym (take-suc vs k 0 (omega arith)) ∙ ap (λ (i : ℕ). take i vs) (sym (add-one k)) in
    ap₂ ◌++◌ one (recs_words k n (drop (k + 1) vs) (let e = length-drop (k + 1) vs in omega arith)) ∙ (sym (take-add (k + 1) (n * (k + 1)) vs) ∙ ap (λ (i : ℕ). take i vs) (sym q))

lows_sides : (a b : List ℕ) → length a ≡ length b → map (λ s. s.lo) (sides a b) ≡ a
lows_sides [] b h = refl
lows_sides (x ∷ a) [] h = absurd (omega arith)
lows_sides (x ∷ a) (y ∷ b) h = ap (λ l. x ∷ l) (lows_sides a b (omega arith))

highs_sides : (a b : List ℕ) → length a ≡ length b → map (λ s. s.hi) (sides a b) ≡ b
highs_sides [] [] h = refl
highs_sides [] (y ∷ b) h = absurd (omega arith)
highs_sides (x ∷ a) [] h = absurd (omega arith)
highs_sides (x ∷ a) (y ∷ b) h = ap (λ l. y ∷ l) (highs_sides a b (omega arith))

ent_words : (k : ℕ) (vs : List ℕ) → 2 * k + 1 ≤ length vs
    → map (λ s. s.lo) (sides (take k vs) (take k (drop k vs))) ++ (map (λ s. s.hi) (sides (take k vs) (take k (drop k vs))) ++ (get_or vs (2 * k) 0 ∷ [])) ≡ take (2 * k + 1) vs
ent_words k vs h =
    let a = take k vs in
    let b = take k (drop k vs) in
    let l : length (drop k vs) ≡ length vs - k = length-drop k vs in
    let s : length a ≡ length b = length-take-le k vs (omega arith) ∙ sym (length-take-le k (drop k vs) (omega arith)) in
    let q : 2 * k ≡ k + k = omega arith in
    let r : k + suc k ≡ 2 * k + 1 = omega arith in
    let one : b ++ (get_or vs (2 * k) 0 ∷ []) ≡ take (suc k) (drop k vs) =
    ap (λ (x : ℕ). b ++ (x ∷ [])) (ap (λ (i : ℕ). get_or vs i 0) q ∙ sym (get_or-drop k vs k 0)) ∙ sym (take-suc (drop k vs) k 0 (omega arith)) in
    ap₂ (λ x y. x ++ (y ++ (get_or vs (2 * k) 0 ∷ []))) (lows_sides a b s) (highs_sides a b s) ∙ (ap (λ (x : List ℕ). a ++ x) one ∙ (sym (take-add k (suc k) vs) ∙ ap (λ (i : ℕ). take i vs) r))

pub ents_words : (k n : ℕ) (vs : List ℕ) → n * (2 * k + 1) ≤ length vs → gather words_e (read_ents k n vs) ≡ take (n * (2 * k + 1)) vs
ents_words k zero vs h = rw (zero-mul (2 * k + 1))
ents_words k (suc n) vs h =
    let d = 2 * k + 1 in
    let q : suc n * d ≡ d + n * d = omega (arith, suc-mul n d) in
    ap₂ ◌++◌ (ent_words k vs (omega arith)) (ents_words k n (drop d vs) (let e = length-drop d vs in omega arith)) ∙ (sym (take-add d (n * d) vs) ∙ ap (λ (i : ℕ). take i vs) (sym q))

-- words are the first t of them and zeros exactly if the others are zero
pad_take : (m t : ℕ) (vs : List ℕ) → length vs ≡ m → t ≤ m → (vs ≡ pad m (take t vs)) ↔ T (every (eqb 0) (drop t vs))
pad_take m t vs l h =
    let e : length (take t vs) ≡ t = length-take-le t vs (omega arith) in
    let q : m - length (take t vs) ≡ m - t = omega arith in
    let p : pad m (take t vs) ≡ take t vs ++ pad (m - t) [] = pad_tail m (take t vs) (omega arith) ∙ ap (λ (i : ℕ). take t vs ++ pad i []) q in (
      λ g. rw (ap (drop t) (g ∙ p) ∙ drop_at (take t vs) (pad (m - t) []) t e) (pad_zeros (m - t)),
      λ z. sym (p ∙ (ap (λ (x : List ℕ). take t vs ++ x) (sym (zeros_pad (drop t vs) (m - t) (length-drop t vs ∙ omega arith) z)) ∙ take-append-drop t vs)),
    )

-- a page's words, by its four first words, t words of entries and the rest
pub record Laid (ws : List ℕ) (t : ℕ) : Type 0 where
  pub third : get_or ws 3 0 ≡ 0
  pub rest : T (every (eqb 0) (drop (4 + t) ws))

pub layout_iff : (L : ℕ) (ws : List ℕ) (t : ℕ) → length ws ≡ L → 4 + t ≤ L → (ws ≡ layout L (get_or ws 0 0) (get_or ws 1 0) (get_or ws 2 0) (take t (drop 4 ws))) ↔ Laid ws t
layout_iff L [] t l h = absurd (omega arith)
layout_iff L (a ∷ []) t l h = absurd (omega arith)
layout_iff L (a ∷ b ∷ []) t l h = absurd (omega arith)
layout_iff L (a ∷ b ∷ c ∷ []) t l h = absurd (omega arith)
layout_iff L (a ∷ b ∷ c ∷ d ∷ vs) t l h =
    let i = pad_take (L - 4) t vs (omega arith) (omega arith) in
    let q : 4 + t ≡ suc (suc (suc (suc t))) = omega arith in (
      λ e. record { third = ap (λ (x : List ℕ). get_or x 3 0) e; rest = rw q (i.0 (ap (drop 4) e)) },
      λ p. ap₂ (λ x y. a ∷ b ∷ c ∷ x ∷ y) p.third (i.1 (rw q at p.rest)),
    )
