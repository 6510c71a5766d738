-- Laws of counts: how many elements pass a test, sums, and numbers that stand once.
use mathlib.Core.Bool.{Bool, true, false, ◌&&◌, ◌||◌, not, cond}
use mathlib.Core.List.{List, [], ◌∷◌, ◌++◌, map}
use mathlib.Core.Path.{◌≡◌, refl, sym, ap, ap₂, ◌∙◌, subst}
use Prim.Native.Nat.{ℕ, zero, suc, ◌+◌, ◌-◌, ◌*◌, ◌<◌, ◌≤◌}
use native.Mathlib.Omega.{arith}
use lib.Dec.{T, leb, eqb, leb→le, nleb→lt, eqb→eq, T_not}
use native.Mathlib.Nat.{zero-mul, suc-mul, zero-add, add-mul}
use lib.ListN.{length, take, drop, get_or, take-append-drop}
use borrow.Author.Tests.{eq-eqb, ne_eqb}
use Rattle.kdb.specs.Lists.{bit, only, tally, every, any_of, gather, sum, many, up_from, same}
use Rattle.kdb.proofs.Tests.{and_l, and_r, and_i, bool, cases, is_false, of_true, to_bit, no_bit, bit_most, self, bit_imp, bit_both, none_of}

module _ {ℓ} {A : Type ℓ} where
  pub only_append : (f : A → Bool) (l m : List A) → only f (l ++ m) ≡ only f l ++ only f m
  only_append f [] m = refl
  only_append f (a ∷ l) m = go (f a) (only_append f l m)
    where
      go : (t : Bool) → only f (l ++ m) ≡ only f l ++ only f m → cond t (a ∷ only f (l ++ m)) (only f (l ++ m)) ≡ cond t (a ∷ only f l) (only f l) ++ only f m
      go true e = ap (λ k. a ∷ k) e
      go false e = e

  pub tally_append : (g : A → Bool) (l m : List A) → tally g (l ++ m) ≡ tally g l + tally g m
  tally_append g [] m = omega arith
  tally_append g (a ∷ l) m = omega (arith, tally_append g l m)

  pub tally_most : (g : A → Bool) (l : List A) → tally g l ≤ length l
  tally_most g [] = omega arith
  tally_most g (a ∷ l) = omega (arith, tally_most g l, bit_most (g a))

  pub length_only : (g : A → Bool) (l : List A) → length (only g l) ≡ tally g l
  length_only g [] = refl
  length_only g (a ∷ l) = go (g a) (length_only g l)
    where
      go : (t : Bool) → length (only g l) ≡ tally g l → length (cond t (a ∷ only g l) (only g l)) ≡ bit t + tally g l
      go true e = omega arith
      go false e = omega arith

pub many_append : (c : ℕ) (l m : List ℕ) → many c (l ++ m) ≡ many c l + many c m
many_append c l m = tally_append (eqb c) l m

pub sum_same : (f g : ℕ → ℕ) → ((j : ℕ) → f j ≡ g j) → (l : List ℕ) → sum (map f l) ≡ sum (map g l)
sum_same f g e [] = refl
sum_same f g e (a ∷ l) = ap₂ ◌+◌ (e a) (sum_same f g e l)

pub sum_add : (f g : ℕ → ℕ) (l : List ℕ) → sum (map (λ j. f j + g j) l) ≡ sum (map f l) + sum (map g l)
sum_add f g [] = omega arith
sum_add f g (a ∷ l) = omega (arith, sum_add f g l)

pub sum_none : (l : List ℕ) → sum (map (λ j. 0) l) ≡ 0
sum_none [] = refl
sum_none (a ∷ l) = omega (arith, sum_none l)

sum_most : (f : ℕ → ℕ) → ((j : ℕ) → f j ≤ 1) → (n a : ℕ) → sum (map f (up_from n a)) ≤ n
sum_most f h zero a = omega arith
sum_most f h (suc n) a = omega (arith, h a, sum_most f h n (suc a))

sum_miss : (m p n a : ℕ) → p < a → sum (map (λ j. cond (eqb j p) m 0) (up_from n a)) ≡ 0
sum_miss m p zero a h = refl
sum_miss m p (suc n) a h = rw (ne_eqb a p (λ e. omega arith)) (omega (arith, sum_miss m p n (suc a) (omega arith)))

-- of the numbers from a on, p alone counts
pub sum_hit : (m p n a : ℕ) → a ≤ p → p < a + n → sum (map (λ j. cond (eqb j p) m 0) (up_from n a)) ≡ m
sum_hit m p zero a h g = absurd (omega arith)
sum_hit m p (suc n) a h g =
    bool (eqb a p)
    (λ t. let e = eqb→eq a p t in rw (eq-eqb a p e) (omega (arith, sum_miss m p n (suc a) (omega arith))))
    (λ t. let ne : a ≡ p → ⊥ = λ e. T_not (eqb a p) t (of_true (eqb a p) (eq-eqb a p e)) in
    rw (ne_eqb a p ne) (omega (arith, sum_hit m p n (suc a) (above ne) (omega arith))))
  where
    above : (a ≡ p → ⊥) → suc a ≤ p
    above ne = omega arith

-- every number of the list is one of the n from a on
pub record Ranged (n a : ℕ) (ps : List ℕ) : Type 0 where
  pub is : (c : ℕ) → 1 ≤ many c ps → (a ≤ c) × (c < a + n)

sum_many : (ps : List ℕ) (n a : ℕ) → Ranged n a ps → sum (map (λ j. many j ps) (up_from n a)) ≡ length ps
sum_many [] n a h = sum_none (up_from n a)
sum_many (p ∷ ps) n a h =
    let here = h.is p (omega (arith, self p)) in
    let rest = sum_many ps n a (record { is = λ c i. h.is c (omega arith) }) in
    let hit = sum_hit 1 p n a here.0 here.1 in
    let same = sum_same (λ j. bit (eqb j p)) (λ j. cond (eqb j p) 1 0) (λ j. as_cond (eqb j p)) (up_from n a) in
    sum_add (λ j. bit (eqb j p)) (λ j. many j ps) (up_from n a) ∙ omega arith
  where
    as_cond : (t : Bool) → bit t ≡ cond t 1 0
    as_cond true = refl
    as_cond false = refl

-- different numbers, all of the n from a on, are at most n
pub few : (ps : List ℕ) (n a : ℕ) → Ranged n a ps → ((c : ℕ) → many c ps ≤ 1) → length ps ≤ n
few ps n a h once = omega (arith, sum_many ps n a h, sum_most (λ j. many j ps) once n a)

-- an element of a list: each test that it passes is passed in the list
pub record In {ℓ} {A : Type ℓ} (a : A) (l : List A) : Type ℓ where
  pub counted : (h : A → Bool) → T (h a) → 1 ≤ tally h l

module _ {ℓ} {A : Type ℓ} where
  pub in_head : (a : A) (l : List A) → In a (a ∷ l)
  in_head a l = record { counted = λ h t. omega (arith, to_bit (h a) t) }

  pub in_tail : (a b : A) (l : List A) → In a l → In a (b ∷ l)
  in_tail a b l m = record { counted = λ h t. omega (arith, m.counted h t) }

  pub found : (f : A → Bool) (l : List A) → 1 ≤ tally f l → (a : A) × T (f a) × In a l
  found f [] k = absurd (omega arith)
  found f (b ∷ l) k =
      bool (f b) (λ t. (b, t, in_head b l))
      (λ t. let i = found f l (omega (arith, no_bit (f b) (T_not (f b) t))) in (i.0, i.1, in_tail i.0 b l i.2))

  pub every_none : (f : A → Bool) (l : List A) → T (every f l) → tally (λ a. not (f a)) l ≡ 0
  every_none f [] t = refl
  every_none f (a ∷ l) t =
      omega (arith, no_bit (not (f a)) (λ n. T_not (f a) n (and_l (f a) _ t)), every_none f l (and_r (f a) _ t))

  pub every_in : (f : A → Bool) (a : A) (l : List A) → T (every f l) → In a l → T (f a)
  every_in f a l t m =
      bool (f a) (λ y. y) (λ n. absurd (omega (arith, m.counted (λ b. not (f b)) n, every_none f l t)))

  pub in_every : (f : A → Bool) (l : List A) → ((a : A) → In a l → T (f a)) → T (every f l)
  in_every f [] g = tt
  in_every f (a ∷ l) g = and_i (f a) _ (g a (in_head a l)) (in_every f l (λ b m. g b (in_tail b a l m)))

  pub any_in : (f : A → Bool) (l : List A) → T (any_of f l) → 1 ≤ tally f l
  any_in f [] t = absurd t
  any_in f (a ∷ l) t =
      bool (f a) (λ y. omega (arith, to_bit (f a) y)) (λ n. omega (arith, any_in f l (go (f a) n t)))
    where
      go : (b : Bool) → T (not b) → T (b || any_of f l) → T (any_of f l)
      go true n t = absurd n
      go false n t = t

  pub in_any : (f : A → Bool) (l : List A) → 1 ≤ tally f l → T (any_of f l)
  in_any f [] h = absurd (omega arith)
  in_any f (a ∷ l) h = go (f a) h (in_any f l)
    where
      go : (b : Bool) → 1 ≤ bit b + tally f l → (1 ≤ tally f l → T (any_of f l)) → T (b || any_of f l)
      go true h r = tt
      go false h r = r (omega arith)

  pub tally_imp : (f g : A → Bool) → ((a : A) → T (f a) → T (g a)) → (l : List A) → tally f l ≤ tally g l
  tally_imp f g h [] = omega arith
  tally_imp f g h (a ∷ l) = omega (arith, bit_imp (f a) (g a) (h a), tally_imp f g h l)

  pub tally_both : (f : A → Bool) (l : List A) → tally f l + tally (λ a. not (f a)) l ≡ length l
  tally_both f [] = refl
  tally_both f (a ∷ l) = omega (arith, bit_both (f a), tally_both f l)

  -- one test before another
  pub tally_and : (c : Bool) (f : A → Bool) (l : List A) → tally (λ a. c && f a) l ≡ cond c (tally f l) 0
  tally_and true f l = refl
  tally_and false f [] = refl
  tally_and false f (a ∷ l) = omega (arith, tally_and false f l)

  -- what a test keeps passes it, and passes every test that all passed
  pub every_only : (f g h : A → Bool) → ((a : A) → T (f a) → T (g a) → T (h a)) → (l : List A) → T (every g l) → T (every h (only f l))
  every_only f g h i [] t = tt
  every_only f g h i (a ∷ l) t =
      let r = every_only f g h i l (and_r (g a) _ t) in
      cases (λ c. T (every h (cond c (a ∷ only f l) (only f l)))) (f a) (λ y. and_i (h a) _ (i a y (and_l (g a) _ t)) r) (λ n. r)

  pub tally_only : (f g : A → Bool) (l : List A) → tally g (only f l) ≤ tally g l
  tally_only f g [] = omega arith
  tally_only f g (a ∷ l) =
      let r = tally_only f g l in
      cases (λ c. tally g (cond c (a ∷ only f l) (only f l)) ≤ bit (g a) + tally g l) (f a) (λ y. omega arith) (λ n. omega arith)

  -- what a test keeps and what it leaves, together
  pub tally_halves : (f g : A → Bool) (l : List A) → tally g (only f l) + tally g (only (λ a. not (f a)) l) ≡ tally g l
  tally_halves f g [] = refl
  tally_halves f g (a ∷ l) =
      let r = tally_halves f g l in
      cases (λ c. tally g (cond c (a ∷ only f l) (only f l)) + tally g (cond (not c) (a ∷ only (λ b. not (f b)) l) (only (λ b. not (f b)) l)) ≡ bit (g a) + tally g l)
      (f a) (λ y. omega arith) (λ n. omega arith)

pub tally_map {ℓ κ} : {A : Type ℓ} {B : Type κ} (g : B → Bool) (f : A → B) (l : List A) → tally g (map f l) ≡ tally (λ a. g (f a)) l
tally_map g f [] = refl
tally_map g f (a ∷ l) = ap (λ n. bit (g (f a)) + n) (tally_map g f l)

-- a number of the n from a on, and what is counted in lists joined
pub many_up : (n a i : ℕ) → a ≤ i → i < a + n → 1 ≤ many i (up_from n a)
many_up zero a i h g = absurd (omega arith)
many_up (suc n) a i h g =
    bool (eqb i a) (λ t. omega (arith, to_bit (eqb i a) t))
    (λ t. let ne : i ≡ a → ⊥ = λ e. T_not (eqb i a) t (of_true (eqb i a) (eq-eqb i a e)) in
    omega (arith, many_up n (suc a) i (omega arith) (omega arith)))

pub tally_gather {ℓ} : {A : Type ℓ} (h : A → Bool) (g : ℕ → List A) (l : List ℕ) (i : ℕ) → 1 ≤ many i l → 1 ≤ tally h (g i) → 1 ≤ tally h (gather g l)
tally_gather h g [] i k m = absurd (omega arith)
tally_gather h g (a ∷ l) i k m =
    let e = tally_append h (g a) (gather g l) in
    bool (eqb i a)
    (λ t. let q : tally h (g i) ≡ tally h (g a) = ap (λ j. tally h (g j)) (eqb→eq i a t) in omega arith)
    (λ t. omega (arith, tally_gather h g l i (omega (arith, no_bit (eqb i a) (T_not (eqb i a) t))) m))

-- a test that every number of the list passes, at a number that stands there
pub every_many : (f : ℕ → Bool) (l : List ℕ) → T (every f l) → (c : ℕ) → 1 ≤ many c l → T (f c)
every_many f [] t c h = absurd (omega arith)
every_many f (a ∷ l) t c h =
    bool (eqb c a) (λ e. rw (eqb→eq c a e) (and_l (f a) _ t)) (λ e. every_many f l (and_r (f a) _ t) c (omega (arith, ap bit (is_false (eqb c a) e))))

module _ {ℓ} {A : Type ℓ} where
  -- a list's beginning is no longer than the list's with more behind it
  pub tally_front : (g : A → Bool) (m : ℕ) (l k : List A) → tally g (take m l) ≤ tally g (take m (l ++ k))
  tally_front g zero l k = omega arith
  tally_front g (suc m) [] k = omega arith
  tally_front g (suc m) (a ∷ l) k = omega (arith, tally_front g m l k)

pub get_or_in : (g : ℕ → Bool) (l : List ℕ) (i : ℕ) → i < length l → T (g (get_or l i 0)) → 1 ≤ tally g l
get_or_in g [] i h t = absurd (omega arith)
get_or_in g (a ∷ l) zero h t = omega (arith, to_bit (g a) t)
get_or_in g (a ∷ l) (suc i) h t = omega (arith, get_or_in g l i (omega arith) t)

-- different numbers from 1 to N − 1: at most N − 1, and as many as pass a test that counts them
pub once_length : (N : ℕ) (l : List ℕ) → ((c : ℕ) → 1 ≤ many c l → (1 ≤ c) × (c < N)) → ((c : ℕ) → many c l ≤ 1) → length l ≤ N - 1
once_length N l h k = few l (N - 1) 1 (record { is = λ c i. let q = h c i in (q.0, omega arith) }) k

sum_bits : (f : ℕ → ℕ) (g : ℕ → Bool) → ((j : ℕ) → f j ≡ bit (g j)) → (l : List ℕ) → sum (map f l) ≡ tally g l
sum_bits f g h [] = refl
sum_bits f g h (a ∷ l) = omega (arith, h a, sum_bits f g h l)

pub once_tally : (N : ℕ) (l : List ℕ) (g : ℕ → Bool) → ((c : ℕ) → 1 ≤ many c l → (1 ≤ c) × (c < N)) → ((c : ℕ) → many c l ≡ bit (g c)) → length l ≡ tally g (up_from (N - 1) 1)
once_tally N l g h k =
    sym (sum_many l (N - 1) 1 (record { is = λ c i. let q = h c i in (q.0, omega arith) })) ∙ sum_bits (λ j. many j l) g k (up_from (N - 1) 1)

module _ {ℓ} {A : Type ℓ} where
  pub in_left : (a : A) (l m : List A) → In a l → In a (l ++ m)
  in_left a l m i = record { counted = λ h t. omega (arith, i.counted h t, tally_append h l m) }

  pub in_right : (a : A) (l m : List A) → In a m → In a (l ++ m)
  in_right a l m i = record { counted = λ h t. omega (arith, i.counted h t, tally_append h l m) }

  pub every_imp : (f g : A → Bool) → ((a : A) → T (f a) → T (g a)) → (l : List A) → T (every f l) → T (every g l)
  every_imp f g h l t = in_every g l (λ a m. h a (every_in f a l t m))

pub up_from_in : (n a c : ℕ) → 1 ≤ many c (up_from n a) → (a ≤ c) × (c < a + n)
up_from_in zero a c h = absurd (omega arith)
up_from_in (suc n) a c h =
    bool (eqb c a) (λ t. let e = eqb→eq c a t in (omega arith, omega arith))
    (λ t. let i = up_from_in n (suc a) c (omega (arith, no_bit (eqb c a) (T_not (eqb c a) t))) in (omega arith, omega arith))

pub up_from_once : (n a c : ℕ) → many c (up_from n a) ≤ 1
up_from_once zero a c = omega arith
up_from_once (suc n) a c =
    bool (leb 1 (many c (up_from n (suc a))))
    (λ t. let i = up_from_in n (suc a) c (leb→le 1 (many c (up_from n (suc a))) t) in
    omega (arith, no_bit (eqb c a) (λ y. omega (arith, eqb→eq c a y)), up_from_once n (suc a) c))
    (λ t. omega (arith, nleb→lt 1 (many c (up_from n (suc a))) t, bit_most (eqb c a)))

pub tally_take {ℓ} : {A : Type ℓ} (g : A → Bool) (n : ℕ) (l : List A) → tally g (take n l) ≤ tally g l
tally_take g n l =
    let e : tally g l ≡ tally g (take n l) + tally g (drop n l) = ap (tally g) (sym (take-append-drop n l)) ∙ tally_append g (take n l) (drop n l) in
    omega arith

-- a number that a test keeps passes it
pub many_only : (f : ℕ → Bool) (c : ℕ) (l : List ℕ) → 1 ≤ many c (only f l) → T (f c)
many_only f c l h =
    let i = found (eqb c) (only f l) h in
    let e : c ≡ i.0 = eqb→eq c i.0 i.1 in
    subst (λ a. T (f a)) (sym e) (every_in f i.0 (only f l) (every_only f (λ _. true) f (λ a t _. t) l (in_every (λ _. true) l (λ _ _. tt))) i.2)

-- a test counted in two parts by another
pub tally_parts {ℓ} : {A : Type ℓ} (f g : A → Bool) (l : List A) → tally f l ≡ tally (λ a. f a && g a) l + tally (λ a. f a && not (g a)) l
tally_parts f g [] = refl
tally_parts f g (a ∷ l) = omega (arith, go (f a) (g a), tally_parts f g l)
  where
    go : (b c : Bool) → bit b ≡ bit (b && c) + bit (b && not c)
    go true true = refl
    go true false = refl
    go false c = refl

module _ {ℓ} {A : Type ℓ} where
  pub only_most : (g : A → Bool) (l : List A) → length (only g l) ≤ length l
  only_most g l = omega (arith, length_only g l, tally_most g l)

-- of n numbers from c on, those that pass a test
pub only_same : (g g' : ℕ → Bool) (n c : ℕ) → ((i : ℕ) → c ≤ i → i < c + n → g' i ≡ g i) → only g' (up_from n c) ≡ only g (up_from n c)
only_same g g' zero c h = refl
only_same g g' (suc n) c h = ap₂ (λ t l. cond t (c ∷ l) l) (h c (omega arith) (omega arith)) (only_same g g' n (suc c) (λ i k l. h i (omega arith) (omega arith)))

pub only_in : (g : ℕ → Bool) (n c i : ℕ) → 1 ≤ many i (only g (up_from n c)) → (c ≤ i) × (i < c + n) × T (g i)
only_in g zero c i h = absurd (omega arith)
only_in g (suc n) c i h = go (g c) refl h (only_in g n (suc c) i)
  where
    go : (t : Bool) → g c ≡ t → 1 ≤ many i (cond t (c ∷ only g (up_from n (suc c))) (only g (up_from n (suc c))))
        → (1 ≤ many i (only g (up_from n (suc c))) → (suc c ≤ i) × (i < suc c + n) × T (g i)) → (c ≤ i) × (i < c + suc n) × T (g i)
    go true u v ih =
        bool (eqb i c) (λ t. let q = eqb→eq i c t in (omega arith, omega arith, subst T (sym (ap g q ∙ u)) tt))
        (λ t. let z = no_bit (eqb i c) (T_not (eqb i c) t) in let r = ih (omega arith) in (omega (arith, r.0), omega (arith, r.1), r.2))
    go false u v ih = let r = ih v in (omega (arith, r.0), omega (arith, r.1), r.2)

pub only_once : (g : ℕ → Bool) (n c i : ℕ) → many i (only g (up_from n c)) ≤ 1
only_once g zero c i = omega arith
only_once g (suc n) c i = go (g c) (only_once g n (suc c) i) (only_in g n (suc c) i)
  where
    go : (t : Bool) → many i (only g (up_from n (suc c))) ≤ 1 → (1 ≤ many i (only g (up_from n (suc c))) → (suc c ≤ i) × (i < suc c + n) × T (g i))
        → many i (cond t (c ∷ only g (up_from n (suc c))) (only g (up_from n (suc c)))) ≤ 1
    go true ih k =
        bool (eqb i c)
        (λ t. let q = eqb→eq i c t in let b = to_bit (eqb i c) t in let z = none_of (many i (only g (up_from n (suc c)))) (λ h. let r = k h in omega (arith, r.0)) in omega arith)
        (λ t. let z = no_bit (eqb i c) (T_not (eqb i c) t) in omega arith)
    go false ih k = ih

-- the first of them no longer passes
pub only_claimed : (g g' : ℕ → Bool) (n c r : ℕ) (free : List ℕ) → ((i : ℕ) → bit (eqb i r) ≡ 0 → g' i ≡ g i) → g' r ≡ false → only g (up_from n c) ≡ r ∷ free
    → only g' (up_from n c) ≡ free
only_claimed g g' zero c r free same gone e = absurd (let z : 0 ≡ 1 + length free = ap length e ∙ omega arith in omega arith)
only_claimed g g' (suc n) c r free same gone e = go (g c) refl e (λ v. only_claimed g g' n (suc c) r free same gone v)
  where
    go : (t : Bool) → g c ≡ t → cond t (c ∷ only g (up_from n (suc c))) (only g (up_from n (suc c))) ≡ r ∷ free
        → (only g (up_from n (suc c)) ≡ r ∷ free → only g' (up_from n (suc c)) ≡ free) → cond (g' c) (c ∷ only g' (up_from n (suc c))) (only g' (up_from n (suc c))) ≡ free
    go true u v ih =
        let m : c ≡ r = ap (λ l. get_or l 0 0) v in
        let z : g' c ≡ false = ap g' m ∙ gone in
        rw z (only_same g g' n (suc c) (λ i k _. same i (no_bit (eqb i r) (λ t. let q = eqb→eq i r t in omega arith))) ∙ ap (drop 1) v)
    go false u v ih =
        let z : g' c ≡ false = bool (eqb c r) (λ t. ap g' (eqb→eq c r t) ∙ gone) (λ t. same c (no_bit (eqb c r) (T_not (eqb c r) t)) ∙ u) in
        rw z (ih v)

-- the numbers from a on: a test of each, and the sum over a list of them
pub every_up : (f : ℕ → Bool) (n a : ℕ) → T (every f (up_from n a)) → (j : ℕ) → a ≤ j → j < a + n → T (f j)
every_up f zero a t j h g = absurd (omega arith)
every_up f (suc n) a t j h g =
    bool (eqb j a) (λ y. rw (eqb→eq j a y) (and_l (f a) _ t))
    (λ y. let ne : j ≡ a → ⊥ = λ e. T_not (eqb j a) y (of_true (eqb j a) (eq-eqb j a e)) in every_up f n (suc a) (and_r (f a) _ t) j (omega arith) (omega arith))

pub up_every : (f : ℕ → Bool) (n a : ℕ) → ((j : ℕ) → a ≤ j → j < a + n → T (f j)) → T (every f (up_from n a))
up_every f zero a g = tt
up_every f (suc n) a g = and_i (f a) _ (g a (omega arith) (omega arith)) (up_every f n (suc a) (λ j h k. g j (omega arith) (omega arith)))

pub sum_append : (f : ℕ → ℕ) (l m : List ℕ) → sum (map f (l ++ m)) ≡ sum (map f l) + sum (map f m)
sum_append f [] m = sym (zero-add (sum (map f m)))
sum_append f (a ∷ l) m = omega (arith, sum_append f l m)

pub sum_spread : (f : ℕ → ℕ) (ps : List ℕ) (n a : ℕ) → Ranged n a ps → sum (map f ps) ≡ sum (map (λ j. many j ps * f j) (up_from n a))
sum_spread f [] n a h = sym (sum_same (λ j. 0 * f j) (λ j. 0) (λ j. zero-mul (f j)) (up_from n a) ∙ sum_none (up_from n a))
sum_spread f (p ∷ ps) n a h =
    let i = h.is p (omega (arith, self p)) in
    let rest = sum_spread f ps n a (record { is = λ c k. h.is c (omega arith) }) in
    let one = sum_same (λ j. bit (eqb j p) * f j) (λ j. cond (eqb j p) (f p) 0) (λ j. hit j (eqb j p) (eqb→eq j p)) (up_from n a) ∙ sum_hit (f p) p n a i.0 i.1 in
    sym (sum_same (λ j. (bit (eqb j p) + many j ps) * f j) (λ j. bit (eqb j p) * f j + many j ps * f j) (λ j. add-mul (bit (eqb j p)) (many j ps) (f j)) (up_from n a)
    ∙ (sum_add (λ j. bit (eqb j p) * f j) (λ j. many j ps * f j) (up_from n a) ∙ omega arith))
  where
    hit : (j : ℕ) (t : Bool) → (T t → j ≡ p) → bit t * f j ≡ cond t (f p) 0
    hit j true e = omega (arith, suc-mul 0 (f j), zero-mul (f j), ap f (e tt))
    hit j false e = zero-mul (f j)

-- a sum over pages that stand once, and over all numbers, where the other numbers count nothing
pub sum_once : (f : ℕ → ℕ) (ps : List ℕ) (n a : ℕ) → Ranged n a ps → ((c : ℕ) → many c ps ≤ 1) → ((c : ℕ) → many c ps ≡ 0 → f c ≡ 0)
    → sum (map f ps) ≡ sum (map f (up_from n a))
sum_once f ps n a h once out =
    sum_spread f ps n a h ∙ sum_same (λ j. many j ps * f j) f (λ j. go j (many j ps) (once j) (out j)) (up_from n a)
  where
    go : (j m : ℕ) → m ≤ 1 → (m ≡ 0 → f j ≡ 0) → m * f j ≡ f j
    go j zero h z = zero-mul (f j) ∙ sym (z refl)
    go j (suc m) h z = let e : m ≡ 0 = omega arith in rw e (omega (arith, suc-mul 0 (f j), zero-mul (f j)))

pub length_up_from : (n c : ℕ) → length (up_from n c) ≡ n
length_up_from zero c = refl
length_up_from (suc n) c = ap suc (length_up_from n (suc c))
