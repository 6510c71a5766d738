-- Lists, in the form that every definition below uses.
use Rattle.std.specs.Prelude.{Bool, true, false, ◌&&◌, ◌||◌, cond, List, [], ◌∷◌, ◌++◌, ℕ, zero, suc, ◌+◌, eqb}
use Rattle.std.proofs.Math.Option.{Option, none, some}

-- 1 for true, 0 for false
abbrev pub bit : Bool → ℕ
bit true = 1
bit false = 0

-- the elements that pass a test, in order
abbrev pub only {ℓ} : {A : Type ℓ} → (A → Bool) → List A → List A
only f [] = []
only f (a ∷ l) = cond (f a) (a ∷ only f l) (only f l)

-- how many elements pass a test
abbrev pub tally {ℓ} : {A : Type ℓ} → (A → Bool) → List A → ℕ
tally f [] = 0
tally f (a ∷ l) = bit (f a) + tally f l

-- every element passes the test; some element does
abbrev pub every {ℓ} : {A : Type ℓ} → (A → Bool) → List A → Bool
every f [] = true
every f (a ∷ l) = f a && every f l

abbrev pub any_of {ℓ} : {A : Type ℓ} → (A → Bool) → List A → Bool
any_of f [] = false
any_of f (a ∷ l) = f a || any_of f l

-- every element has the property
abbrev pub Each {ℓ} : {A : Type ℓ} → (A → Type 0) → List A → Type 0
Each P [] = Unit {0}
Each P (a ∷ l) = P a × Each P l

-- the lists that g gives for the elements, joined in order
abbrev pub gather {ℓ κ} : {A : Type ℓ} {B : Type κ} → (A → List B) → List A → List B
gather g [] = []
gather g (a ∷ l) = g a ++ gather g l

abbrev pub sum : List ℕ → ℕ
sum [] = 0
sum (a ∷ l) = a + sum l

-- how often a number stands in a list
abbrev pub many : ℕ → List ℕ → ℕ
many y l = tally (eqb y) l

-- the last number, d where there is none
abbrev pub last_or : ℕ → List ℕ → ℕ
last_or d [] = d
last_or d (a ∷ l) = last_or a l

-- n numbers from c on
abbrev pub up_from : ℕ → ℕ → List ℕ
up_from zero c = []
up_from (suc n) c = c ∷ up_from n (suc c)

-- n words: those given, then zeros; what is given past n is left out
abbrev pub pad : ℕ → List ℕ → List ℕ
pad zero ws = []
pad (suc n) [] = 0 ∷ pad n []
pad (suc n) (w ∷ ws) = w ∷ pad n ws

-- the two lists are the same words
abbrev pub same : List ℕ → List ℕ → Bool
same [] [] = true
same [] (b ∷ m) = false
same (a ∷ l) [] = false
same (a ∷ l) (b ∷ m) = eqb a b && same l m

-- the next step, where there is something to go on with
abbrev pub and_then {ℓ κ} : {A : Type ℓ} {B : Type κ} → Option A → (A → Option B) → Option B
and_then none k = none
and_then (some a) k = k a
