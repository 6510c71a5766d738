-- Laws of tests: what a test that holds says, and proofs by cases on one.
use mathlib.Core.Bool.{Bool, true, false, ◌&&◌, ◌||◌, not, cond}
use mathlib.Core.Path.{◌≡◌, refl, ap, subst}
use Prim.Native.Nat.{ℕ, zero, suc, ◌+◌, ◌≤◌}
use native.Mathlib.Omega.{arith}
use lib.Dec.{T, eqb, eqb_refl}
use Rattle.kdb.specs.Lists.{bit}

pub and_l : (a b : Bool) → T (a && b) → T a
and_l true b t = tt
and_l false b t = t

pub and_r : (a b : Bool) → T (a && b) → T b
and_r true b t = t
and_r false b t = absurd t

pub and_i : (a b : Bool) → T a → T b → T (a && b)
and_i true b t u = u
and_i false b t u = t

-- by cases on a test
pub bool {ℓ} : {C : Type ℓ} (b : Bool) → (T b → C) → (T (not b) → C) → C
bool true f g = f tt
bool false f g = g tt

-- by cases on a test that the goal names
pub cases {ℓ} : (P : Bool → Type ℓ) (b : Bool) → (T b → P true) → (T (not b) → P false) → P b
cases P true f g = f tt
cases P false f g = g tt

pub is_true : (b : Bool) → T b → b ≡ true
is_true true t = refl
is_true false t = absurd t

pub is_false : (b : Bool) → T (not b) → b ≡ false
is_false true t = absurd t
is_false false t = refl

pub of_true : (b : Bool) → b ≡ true → T b
of_true true e = tt
of_true false e = absurd (let z : ◌≡◌ {A = ℕ} 0 1 = cc in omega arith)

pub of_false : (b : Bool) → b ≡ false → T (not b)
of_false true e = absurd (let z : ◌≡◌ {A = ℕ} 0 1 = cc in omega arith)
of_false false e = tt

-- two tests that hold in the same case are equal
pub bool_eq : (a b : Bool) → (T a → T b) → (T b → T a) → a ≡ b
bool_eq true true f g = refl
bool_eq true false f g = absurd (f tt)
bool_eq false true f g = absurd (g tt)
bool_eq false false f g = refl

pub of_bit : (b : Bool) → 1 ≤ bit b → T b
of_bit true h = tt
of_bit false h = omega arith

pub to_bit : (b : Bool) → T b → bit b ≡ 1
to_bit true h = refl
to_bit false h = absurd h

pub no_bit : (b : Bool) → (T b → ⊥) → bit b ≡ 0
no_bit true f = absurd (f tt)
no_bit false f = refl

pub bit_eq : (a b : Bool) → (T a → T b) → (T b → T a) → bit a ≡ bit b
bit_eq a b f g = ap bit (bool_eq a b f g)

pub bit_most : (b : Bool) → bit b ≤ 1
bit_most true = omega arith
bit_most false = omega arith

-- a number's own test
pub self : (c : ℕ) → bit (eqb c c) ≡ 1
self c = to_bit (eqb c c) (eqb_refl c)

pub or_l : (a b : Bool) → T a → T (a || b)
or_l true b t = tt
or_l false b t = absurd t

pub or_r : (a b : Bool) → T b → T (a || b)
or_r true b t = tt
or_r false b t = t

pub some_many : (m : ℕ) → T (not (eqb m 0)) → 1 ≤ m
some_many zero h = absurd h
some_many (suc m) h = omega arith

pub cond_case {ℓ} : {A : Type ℓ} (Q : A → Type 0) (t : Bool) (a b : A) → Q a → Q b → Q (cond t a b)
cond_case Q true a b h g = h
cond_case Q false a b h g = g

pub and_false : (a : Bool) → a && false ≡ false
and_false true = refl
and_false false = refl

pub and_swap : (a b c : Bool) → a && (b && c) ≡ b && (a && c)
and_swap true b c = refl
and_swap false true c = refl
and_swap false false c = refl

-- a test that follows adds nothing
pub and_need : (a b : Bool) → (T b → T a) → a && b ≡ b
and_need true b f = refl
and_need false true f = absurd (f tt)
and_need false false f = refl

pub and_never : (a b : Bool) → (T b → T (not a)) → a && b ≡ false
and_never true true f = absurd (f tt)
and_never true false f = refl
and_never false b f = refl

pub bit_imp : (a b : Bool) → (T a → T b) → bit a ≤ bit b
bit_imp true true f = omega arith
bit_imp true false f = absurd (f tt)
bit_imp false b f = omega arith

pub bit_both : (t : Bool) → bit t + bit (not t) ≡ 1
bit_both true = refl
bit_both false = refl

pub and_t : (a b : Bool) → a && b ≡ true → (a ≡ true) × (b ≡ true)
and_t true b t = (refl, t)
and_t false b t = (t, absurd (let z : ◌≡◌ {A = ℕ} 0 1 = cc in omega arith))

pub and_assoc : (a b c : Bool) → a && b && c ≡ a && (b && c)
and_assoc true b c = refl
and_assoc false b c = refl

pub and_true : (a : Bool) → a && true ≡ a
and_true true = refl
and_true false = refl

-- by cases on a test that chooses between two
pub by_case {ℓ κ} : {A : Type κ} (P : A → Type ℓ) (s : Bool) (y z : A) → (T s → P y) → (T (not s) → P z) → P (elim s as (λ _. A) [ true ↦ y | false ↦ z ])
by_case P true y z f g = f tt
by_case P false y z f g = g tt

pub ne_of_bit : (c j : ℕ) → bit (eqb c j) ≡ 0 → (c ≡ j → ⊥)
ne_of_bit c j h e = let g = self j in let u : bit (eqb j j) ≡ 0 = subst (λ i. bit (eqb i j) ≡ 0) e h in absurd (omega arith)

-- a choice by a test whose value is known
pub choice_true {ℓ} : {A : Type ℓ} (s : Bool) (y z : A) → s ≡ true → elim s as (λ _. A) [ true ↦ y | false ↦ z ] ≡ y
choice_true true y z e = refl
choice_true false y z e = absurd (of_true false e)

pub choice_false {ℓ} : {A : Type ℓ} (s : Bool) (y z : A) → s ≡ false → elim s as (λ _. A) [ true ↦ y | false ↦ z ] ≡ z
choice_false true y z e = absurd (of_false true e)
choice_false false y z e = refl

-- a count is 0, or not
pub none_of : (n : ℕ) → (1 ≤ n → ⊥) → n ≡ 0
none_of zero h = refl
none_of (suc n) h = absurd (h (omega arith))
