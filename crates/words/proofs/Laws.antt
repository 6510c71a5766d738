-- The length of a pool and its header, as code finds them.
use mathlib.Core.Bool.{Bool, true, false, beq}
use mathlib.Core.List.{List, [], ◌∷◌}
use mathlib.Core.Path.{◌≡◌, refl, sym, ap, ◌∙◌}
use Prim.Native.Nat.{ℕ, suc, ◌+◌, ◌-◌, ◌*◌, ◌<◌, ◌≤◌}
use native.Mathlib.Omega.{arith}
use native.Mathlib.Nat.{zero-add}
use lib.Dec.{eqb, leb, ltb, leb-suc-suc}
use lib.ListN.{length, drop, get_or}
use borrow.Author.Tests.{eqb-true}
use Rattle.std.proofs.Common.{rules}
use Rattle.std.specs.Prelude.{Option, Some, None, Result, Ok}
use Rattle.std.specs.Option.{ok_or}
use Rattle.kdb.specs.Lists.{bit, every}
use Rattle.kdb.specs.Pages.{page}
use Rattle.kdb.specs.Pool.{pages_in, good_length, good_header, GoodLength}
use Rattle.kdb.specs.Calls.{L}
use Rattle.kdb.specs.declared.Form.{Form}
use Rattle.kdb.proofs.Tests.{is_true, of_true}
use Rattle.kdb.proofs.Pool.{length_iff, header_iff}
use Rattle.kdb.proofs.Words.{page_rest}
use Rattle.words.specs.Words.{page_count, form_of, Formed, Fit, all_zero, capacity_of}
use Rattle.words.proofs.Loops.{keys_by_lem, every_by}
use Rattle.words.proofs.Table.{at₂}

pub pages : (w : List ℕ) (f : Form) → Formed w f → pages_in L w ≡ f.pages
pages w f g = let z : length w ≡ 32 * f.pages = g.words in omega arith

pub long : (w : List ℕ) → good_length L w ≡ true → GoodLength L w
long w t = (length_iff L w).0 (of_true (good_length L w) t)

-- a pool of good length and header is fit for every call
pub fit : (w : List ℕ) → good_length L w ≡ true → good_header L w ≡ true → Fit w (form_of w)
fit w a b =
    let g = long w a in
    let h = (header_iff L w).0 (of_true (good_header L w) b) in
    record { formed = record { words = g.long; least = g.least; most = g.most; some = h.least; few = h.most }; says = refl }

-- what a count of pages tells
pub count_some : (w : List ℕ) (n : ℕ) → Some n ≡ page_count w → (good_length L w ≡ true) × (n ≡ pages_in L w)
count_some w n e = go (good_length L w) refl
  where
    go : (b : Bool) → good_length L w ≡ b → (good_length L w ≡ true) × (n ≡ pages_in L w)
    go true t = (t, let q : Some n ≡ Some (pages_in L w) = e ∙ rw t in search rules)
    go false t = absurd (let q : Some n ≡ None = e ∙ rw t in search rules)

-- and what it is at the `?` of a call that opens
pub counted : {E : Type 0} (w : List ℕ) (n : ℕ) (o : Option ℕ) (r : Result ℕ E) (e : E) → o ≡ page_count w → r ≡ ok_or o e → r ≡ Ok n → (good_length L w ≡ true) × (n ≡ pages_in L w)
counted w n None r e p q t = absurd (search rules)
counted w n (Some m) r e p q t = let i : m ≡ n = search rules in count_some w n (ap Some (sym i) ∙ p)

pub both : (a b : Bool) → beq a b ≡ eqb (bit a) (bit b)
both true true = refl
both true false = refl
both false true = refl
both false false = refl

pub below : (l n : ℕ) → 1 ≤ n → ltb l n ≡ leb l (n - 1)
below l n h = let q : n ≡ suc (n - 1) = omega arith in ap (ltb l) q ∙ leb-suc-suc l (n - 1)

pub zero_rest : (w : List ℕ) → GoodLength L w → all_zero w 5 27 ≡ every (eqb 0) (drop 5 (page L w 0))
zero_rest w g =
    let z : length w ≡ 32 * pages_in L w = g.long in
    every_by (eqb 0) 27 (λ i. get_or w i 0) 5 true
    ∙ ap (every (eqb 0)) (keys_by_lem 27 0 5 w (λ i. get_or w i 0) (λ d. ap (λ (i : ℕ). get_or w i 0) (sym (zero-add d))) (omega (arith, g.least)) ∙ sym (page_rest L w 0 5))

-- the rule of the table: words less 4, divided by 2K + 1 or by K + 1
abbrev table : List (List ℕ)
table = (9 ∷ 5 ∷ 4 ∷ 3 ∷ []) ∷ (14 ∷ 9 ∷ 7 ∷ 5 ∷ []) ∷ []

pub capacities : (kind k : ℕ) → kind < 2 → 1 ≤ k → k ≤ 4 → get_or (get_or table kind []) (k - 1) 0 ≡ capacity_of kind k
capacities kind k hr hl hm =
    let e : k - 1 + 1 ≡ k = omega arith in
    eqb-true _ _ (is_true _ (at₂ 4 (λ r i x. eqb x (capacity_of r (i + 1))) table tt kind (k - 1) hr (omega arith))) ∙ ap (capacity_of kind) e
