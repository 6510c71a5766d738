-- Regions inside a region r, no two with a common key, together are r exactly if their volumes add up to that of r, `fit_tiles`. The
-- keys are counted over the grid of all keys below the upper ends of r: there a region's keys are its volume, and the number of
-- regions that hold a key is nowhere above that of r, so that equal sums make them equal at every key.
use mathlib.Core.List.{List, [], ◌∷◌}
use mathlib.Core.Path.{◌≡◌, refl, sym, ap, ap₂, ◌∙◌}
use Prim.Native.Nat.{ℕ, zero, suc, ◌+◌, ◌-◌, ◌*◌, ◌<◌, ◌≤◌, min}
use native.Mathlib.Omega.{arith}
use native.Mathlib.Nat.{suc-mul, zero-mul}
use lib.Dec.{T, leb, ltb, ltb→lt, nltb→le, T_not}
use borrow.Author.Tests.{lt-ltb, le-ltb, le-leb, lt-leb}
use Rattle.kdb.specs.Lists.{bit, Each}
use Rattle.kdb.specs.Box.{Box, Key, within}
use Rattle.kdb.specs.Tiling.{holders}
use Rattle.kdb.proofs.Tests.{bool, no_bit, and_false}
use Rattle.kdb.proofs.Box.{within_e}
use Rattle.cover.specs.Volume.{volume_of, volumes_of}

-- the sum of f over all numbers below n
abbrev sum_to : ℕ → (ℕ → ℕ) → ℕ
sum_to zero f = 0
sum_to (suc n) f = sum_to n f + f n

sum_same : (n : ℕ) (f g : ℕ → ℕ) → ((x : ℕ) → f x ≡ g x) → sum_to n f ≡ sum_to n g
sum_same zero f g e = refl
sum_same (suc n) f g e = ap₂ ◌+◌ (sum_same n f g e) (e n)

sum_add : (n : ℕ) (f g : ℕ → ℕ) → sum_to n (λ x. f x + g x) ≡ sum_to n f + sum_to n g
sum_add zero f g = refl
sum_add (suc n) f g = omega (arith, sum_add n f g)

sum_none : (n : ℕ) → sum_to n (λ x. 0) ≡ 0
sum_none zero = refl
sum_none (suc n) = omega (arith, sum_none n)

sum_most : (n : ℕ) (f g : ℕ → ℕ) → ((x : ℕ) → f x ≤ g x) → sum_to n f ≤ sum_to n g
sum_most zero f g h = omega arith
sum_most (suc n) f g h = omega (arith, sum_most n f g h, h n)

sum_each : (n : ℕ) (f g : ℕ → ℕ) → ((x : ℕ) → f x ≤ g x) → sum_to n f ≡ sum_to n g → (x : ℕ) → x < n → f x ≡ g x
sum_each zero f g h e x l = absurd (omega arith)
sum_each (suc n) f g h e x l =
    bool (ltb x n) (λ t. sum_each n f g h (omega (arith, sum_most n f g h, h n)) x (omega (arith, ltb→lt x n t)))
    (λ t. let q : x ≡ n = omega (arith, nltb→le x n t) in rw q (omega (arith, sum_most n f g h, h n)))

-- what is v from lo to hi, and 0 elsewhere
sum_side : (n lo hi v : ℕ) (f : ℕ → ℕ) → ((x : ℕ) → lo ≤ x → x < hi → f x ≡ v) → ((x : ℕ) → x < lo → f x ≡ 0) → ((x : ℕ) → hi ≤ x → f x ≡ 0)
    → sum_to n f ≡ (min n hi - min n lo) * v
sum_side zero lo hi v f i a b = let z : min 0 hi - min 0 lo ≡ 0 = omega arith in rw (z, zero-mul v)
sum_side (suc n) lo hi v f i a b =
    let m = sum_side n lo hi v f i a b in
    bool (ltb n lo)
    (λ t. let h = ltb→lt n lo t in
    let q : min (suc n) hi - min (suc n) lo ≡ min n hi - min n lo = omega arith in rw q (omega (arith, a n h)))
    (λ t. let h = nltb→le n lo t in
    bool (ltb n hi)
    (λ u. let g = ltb→lt n hi u in
    let q : min (suc n) hi - min (suc n) lo ≡ suc (min n hi - min n lo) = omega arith in rw (q, suc-mul (min n hi - min n lo) v) (ap₂ ◌+◌ m (i n h g)))
    (λ u. let g = nltb→le n hi u in
    let q : min (suc n) hi - min (suc n) lo ≡ min n hi - min n lo = omega arith in rw q (omega (arith, b n g))))

-- the sum of f over all keys below the upper ends of r
abbrev total : Box → (Key → ℕ) → ℕ
total [] f = f []
total (z ∷ r) f = sum_to z.hi (λ x. total r (λ p. f (x ∷ p)))

total_same : (r : Box) (f g : Key → ℕ) → ((p : Key) → f p ≡ g p) → total r f ≡ total r g
total_same [] f g e = e []
total_same (z ∷ r) f g e = sum_same z.hi _ _ (λ x. total_same r (λ p. f (x ∷ p)) (λ p. g (x ∷ p)) (λ p. e (x ∷ p)))

total_add : (r : Box) (f g : Key → ℕ) → total r (λ p. f p + g p) ≡ total r f + total r g
total_add [] f g = refl
total_add (z ∷ r) f g =
    sum_same z.hi _ _ (λ x. total_add r (λ p. f (x ∷ p)) (λ p. g (x ∷ p)))
    ∙ sum_add z.hi (λ x. total r (λ p. f (x ∷ p))) (λ x. total r (λ p. g (x ∷ p)))

total_none : (r : Box) → total r (λ p. 0) ≡ 0
total_none [] = refl
total_none (z ∷ r) = sum_same z.hi _ _ (λ x. total_none r) ∙ sum_none z.hi

total_most : (r : Box) (f g : Key → ℕ) → ((p : Key) → f p ≤ g p) → total r f ≤ total r g
total_most [] f g h = h []
total_most (z ∷ r) f g h = sum_most z.hi _ _ (λ x. total_most r (λ p. f (x ∷ p)) (λ p. g (x ∷ p)) (λ p. h (x ∷ p)))

-- equal sums, and nowhere more: equal at each key of the grid, so at each key of r
total_each : (r : Box) (f g : Key → ℕ) → ((p : Key) → f p ≤ g p) → total r f ≡ total r g → (p : Key) → T (within r p) → f p ≡ g p
total_each [] f g h e [] t = e
total_each [] f g h e (x ∷ p) t = absurd t
total_each (z ∷ r) f g h e [] t = absurd t
total_each (z ∷ r) f g h e (x ∷ p) t =
    let i = within_e z x r p t in
    total_each r (λ q. f (x ∷ q)) (λ q. g (x ∷ q)) (λ q. h (x ∷ q))
    (sum_each z.hi (λ y. total r (λ q. f (y ∷ q))) (λ y. total r (λ q. g (y ∷ q))) (λ y. total_most r (λ q. f (y ∷ q)) (λ q. g (y ∷ q)) (λ q. h (y ∷ q))) e x i.1)
    p i.2

-- no upper end of b is above that of r
abbrev pub Under : Box → Box → Type 0
Under [] [] = Unit {0}
Under [] (z ∷ r) = ⊥
Under (s ∷ b) [] = ⊥
Under (s ∷ b) (z ∷ r) = (s.hi ≤ z.hi) × Under b r

-- the keys of b in the grid
total_within : (b r : Box) → Under b r → total r (λ p. bit (within b p)) ≡ volume_of b
total_within [] [] u = refl
total_within [] (z ∷ r) u = absurd u
total_within (s ∷ b) [] u = absurd u
total_within (s ∷ b) (z ∷ r) u =
    let q : min z.hi s.hi - min z.hi s.lo ≡ s.hi - s.lo = omega (arith, u.0) in
    sum_side z.hi s.lo s.hi (volume_of b) (λ x. total r (λ p. bit (within (s ∷ b) (x ∷ p))))
    (λ x h g. rw (le-leb s.lo x h, lt-ltb x s.hi g) (total_within b r u.1))
    (λ x h. rw (lt-leb s.lo x h) (total_none r))
    (λ x h. rw (le-ltb x s.hi h, and_false (leb s.lo x)) (total_none r))
    ∙ ap (λ (n : ℕ). n * volume_of b) q

total_holders : (r : Box) (bs : List Box) → Each (λ b. Under b r) bs → total r (holders bs) ≡ volumes_of bs
total_holders r [] u = total_none r
total_holders r (b ∷ bs) u = total_add r (λ p. bit (within b p)) (holders bs) ∙ ap₂ ◌+◌ (total_within b r u.0) (total_holders r bs u.1)

under_self : (r : Box) → Under r r
under_self [] = tt
under_self (z ∷ r) = (omega arith, under_self r)

module _ (r : Box) (bs : List Box) (u : Each (λ b. Under b r) bs) (h : (p : Key) → holders bs p ≤ bit (within r p)) where
  pub volumes_most : volumes_of bs ≤ volume_of r
  volumes_most = omega (arith, total_most r (holders bs) (λ p. bit (within r p)) h, total_holders r bs u, total_within r r (under_self r))

  pub volumes_each : volumes_of bs ≡ volume_of r → (p : Key) → holders bs p ≡ bit (within r p)
  volumes_each e p =
      bool (within r p)
      (total_each r (holders bs) (λ q. bit (within r q)) h (total_holders r bs u ∙ (e ∙ sym (total_within r r (under_self r)))) p)
      (λ t. omega (arith, h p, no_bit (within r p) (T_not (within r p) t)))

  pub each_volumes : ((p : Key) → holders bs p ≡ bit (within r p)) → volumes_of bs ≡ volume_of r
  each_volumes f = sym (total_holders r bs u) ∙ (total_same r (holders bs) (λ p. bit (within r p)) f ∙ total_within r r (under_self r))
