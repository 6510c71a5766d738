-- Laws of the table: which refusal is given, what holds of every refusal, and what holds of a call that was done.
use mathlib.Core.Bool.{Bool, true, false, ◌&&◌, not}
use mathlib.Core.List.{List, [], ◌∷◌, ◌++◌}
use mathlib.Core.Path.{◌≡◌, refl, sym, ap, ◌∙◌}
use mathlib.Core.Logic.{◌↔◌}
use Prim.Native.Nat.{ℕ}
use lib.Dec.{T, eqb, T_not}
use borrow.Author.Tests.{eq-eqb}
use Rattle.kdb.specs.Lists.{every}
use Rattle.kdb.specs.declared.Refusal.{Refusal}
use Rattle.kdb.specs.declared.Refusal.TheVariants.{PoolLength, Domains, BufferLength, InfiniteKey, WindowOrder, Unsound, Present, Absent, NoFreePage}
use Rattle.kdb.specs.Calls.{Call, Buffers, lent, Outcome, refuses, number_of, Test, unless, judge, all_hold, tests, core, begins, outcome, Promise}
use Rattle.kdb.proofs.Tests.{and_l, and_r, is_true, of_true}

-- a property of every refusal, and of what the call does once its tests hold, holds of the call
pub judge_after : (P : Outcome → Type 0) (ts : List Test) (b : Buffers) (o : Outcome) → ((r : Refusal) → P (refuses r b)) → (T (all_hold ts) → P o)
    → P (judge ts b o)
judge_after P [] b o r d = d tt
judge_after P (t ∷ ts) b o r d = go t.holds d (judge_after P ts b o r)
  where
    go : (h : Bool) → (T (h && all_hold ts) → P o) → ((T (all_hold ts) → P o) → P (judge ts b o)) → P (unless h t.refusal b (judge ts b o))
    go true d i = i d
    go false d i = r t.refusal

-- tests that hold stand in no later one's way
pub judge_past : (ts us : List Test) (b : Buffers) (o : Outcome) → T (all_hold ts) → judge (ts ++ us) b o ≡ judge us b o
judge_past [] us b o h = refl
judge_past (t ∷ ts) us b o h = rw (is_true t.holds (and_l t.holds _ h)) (judge_past ts us b o (and_r t.holds _ h))

pub judge_on : (ts : List Test) (b : Buffers) (o : Outcome) → T (all_hold ts) → judge ts b o ≡ o
judge_on [] b o h = refl
judge_on (t ∷ ts) b o h = rw (is_true t.holds (and_l t.holds _ h)) (judge_on ts b o (and_r t.holds _ h))

-- the first test that fails gives its refusal, whatever stands behind it
pub judge_fails : (ts us : List Test) (t : Test) (b : Buffers) (o : Outcome) → T (all_hold ts) → (T t.holds → ⊥) → judge (ts ++ (t ∷ us)) b o ≡ refuses t.refusal b
judge_fails ts us t b o h n = judge_past ts (t ∷ us) b o h ∙ go t.holds n
  where
    go : (x : Bool) → (T x → ⊥) → unless x t.refusal b (judge us b o) ≡ refuses t.refusal b
    go true n = absurd (n tt)
    go false n = refl

-- no test of these gives the number n
abbrev pub avoids : ℕ → List Test → Bool
avoids n ts = every (λ t. not (eqb n (number_of t.refusal))) ts

-- where a number that no test gives is given, all tests hold
pub all_held : (n : ℕ) (us : List Test) (b : Buffers) (o : Outcome) → T (avoids n us) → (judge us b o).number ≡ n → T (all_hold us)
all_held n [] b o a z = tt
all_held n (u ∷ us) b o a z = go u.holds (all_held n us b o (and_r (not (eqb n (number_of u.refusal))) _ a)) z
  where
    go : (x : Bool) → ((judge us b o).number ≡ n → T (all_hold us)) → (unless x u.refusal b (judge us b o)).number ≡ n → T (x && all_hold us)
    go true i z = i z
    go false i z = absurd (T_not (eqb n (number_of u.refusal)) (and_l (not (eqb n (number_of u.refusal))) _ a) (of_true _ (eq-eqb n (number_of u.refusal) (sym z))))

-- a refusal of the table is given exactly if its test fails, where those before it hold and nothing later gives its number
pub given : (ts us : List Test) (t : Test) (b : Buffers) (o : Outcome) → T (all_hold ts) → T (avoids (number_of t.refusal) us) → (o.number ≡ number_of t.refusal → ⊥)
    → ((judge (ts ++ (t ∷ us)) b o).number ≡ number_of t.refusal) ↔ (T t.holds → ⊥)
given ts us t b o h a d = (
  λ z y.
      let e = judge_past ts (t ∷ us) b o h ∙ ap (λ x. unless x t.refusal b (judge us b o)) (is_true t.holds y) in
      let later = sym (ap (λ x. x.number) e) ∙ z in
      d (sym (ap (λ x. x.number) (judge_on us b o (all_held (number_of t.refusal) us b o a later))) ∙ later),
  λ n. ap (λ x. x.number) (judge_fails ts us t b o h n),
)

-- 0 is no refusal's number
some_number : (r : Refusal) → T (not (eqb 0 (number_of r)))
some_number PoolLength = tt
some_number Domains = tt
some_number BufferLength = tt
some_number InfiniteKey = tt
some_number WindowOrder = tt
some_number Unsound = tt
some_number Present = tt
some_number Absent = tt
some_number NoFreePage = tt

pub not_0 : (r : Refusal) → number_of r ≡ 0 → ⊥
not_0 r e = T_not (eqb 0 (number_of r)) (some_number r) (of_true _ (eq-eqb 0 (number_of r) (sym e)))

never_0 : (ts : List Test) → T (avoids 0 ts)
never_0 [] = tt
never_0 (t ∷ ts) = rw (is_true (not (eqb 0 (number_of t.refusal))) (some_number t.refusal)) (never_0 ts)

-- the outcome of a call that was done is what the call does once its tests hold
pub goes_on : (w : List ℕ) (c : Call) → T (begins w c) → outcome w c ≡ core w c
unfolding outcome
goes_on w c h = judge_on (tests w c) (lent w c) (core w c) h

pub done : (w : List ℕ) (c : Call) → (outcome w c).number ≡ 0 → T (begins w c) × (outcome w c ≡ core w c)
unfolding outcome
done w c e = let h = all_held 0 (tests w c) (lent w c) (core w c) (never_0 (tests w c)) e in (h, goes_on w c h)

-- two outcomes that keep one promise are equal
pub promise_once : (w : List ℕ) (c : Call) (o p : Outcome) → Promise w c o → Promise w c p → o ≡ p
promise_once w c o p a b = a.kept ∙ sym b.kept
