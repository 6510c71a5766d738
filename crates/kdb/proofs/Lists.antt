-- Laws of lists: what holds of each element, and parts of lists and lists joined.
use mathlib.Core.Bool.{Bool, cond}
use mathlib.Core.List.{List, [], ◌∷◌, ◌++◌, append_assoc}
use mathlib.Core.Path.{◌≡◌, refl, sym, ap, ap₂, ◌∙◌}
use Prim.Native.Nat.{ℕ, zero, suc, ◌+◌, ◌-◌, ◌*◌, ◌≤◌}
use native.Mathlib.Omega.{arith}
use lib.Dec.{T, eqb, eqb→eq, eqb_refl}
use native.Mathlib.Nat.{zero-mul, suc-mul, sub-zero}
use lib.ListN.{length, take, drop, length-append}
use lib.Seq.{take-append-add, take-take, take-nil}
use Rattle.kdb.specs.Lists.{only, every, Each, gather, same}
use Rattle.kdb.proofs.Tests.{and_l, and_r, and_i, cases}

module _ {ℓ} {A : Type ℓ} where
  pub every_append : (f : A → Bool) (l m : List A) → T (every f l) → T (every f m) → T (every f (l ++ m))
  every_append f [] m t u = u
  every_append f (a ∷ l) m t u = and_i (f a) _ (and_l (f a) _ t) (every_append f l m (and_r (f a) _ t) u)

pub same_eq : (l m : List ℕ) → T (same l m) → l ≡ m
same_eq [] [] t = refl
same_eq [] (b ∷ m) t = absurd t
same_eq (a ∷ l) [] t = absurd t
same_eq (a ∷ l) (b ∷ m) t = ap₂ ◌∷◌ (eqb→eq a b (and_l (eqb a b) _ t)) (same_eq l m (and_r (eqb a b) _ t))

pub same_refl : (l : List ℕ) → T (same l l)
same_refl [] = tt
same_refl (a ∷ l) = and_i (eqb a a) _ (eqb_refl a) (same_refl l)

module _ {ℓ} {A : Type ℓ} where
  pub each_map : (P Q : A → Type 0) (l : List A) → ((a : A) → P a → Q a) → Each P l → Each Q l
  each_map P Q [] f h = tt
  each_map P Q (a ∷ l) f h = (f a h.0, each_map P Q l f h.1)

  pub each_two : (P Q R : A → Type 0) (l : List A) → ((a : A) → P a → Q a → R a) → Each P l → Each Q l → Each R l
  each_two P Q R [] f h g = tt
  each_two P Q R (a ∷ l) f h g = (f a h.0 g.0, each_two P Q R l f h.1 g.1)

  pub each_every : (P : A → Type 0) (t : A → Bool) (l : List A) → ((a : A) → T (t a) → P a) → T (every t l) → Each P l
  each_every P t [] f h = tt
  each_every P t (a ∷ l) f h = (f a (and_l (t a) _ h), each_every P t l f (and_r (t a) _ h))

  pub every_each : (P : A → Type 0) (t : A → Bool) (l : List A) → ((a : A) → P a → T (t a)) → Each P l → T (every t l)
  every_each P t [] f h = tt
  every_each P t (a ∷ l) f h = and_i (t a) _ (f a h.0) (every_each P t l f h.1)

  pub length_gather : (g : A → List ℕ) (n : ℕ) (l : List A) → Each (λ a. length (g a) ≡ n) l → length (gather g l) ≡ length l * n
  length_gather g n [] h = omega (arith, zero-mul n)
  length_gather g n (a ∷ l) h = length-append (g a) (gather g l) ∙ omega (arith, h.0, length_gather g n l h.1, suc-mul (length l) n)

  pub every_take : (f : A → Bool) (n : ℕ) (l : List A) → T (every f l) → T (every f (take n l))
  every_take f zero l t = tt
  every_take f (suc n) [] t = tt
  every_take f (suc n) (a ∷ l) t = and_i (f a) _ (and_l (f a) _ t) (every_take f n l (and_r (f a) _ t))

  pub take_past : (m : ℕ) (l k : List A) → length l ≤ m → take m (l ++ k) ≡ l ++ take (m - length l) k
  take_past m l k h = let e : m ≡ length l + (m - length l) = omega arith in ap (λ n. take n (l ++ k)) e ∙ take-append-add l k (m - length l)

  pub take_less : (m : ℕ) (l k : List A) → take (suc m) l ≡ take (suc m) k → take m l ≡ take m k
  take_less m l k e = sym (take-take m (suc m) l (omega arith)) ∙ ap (take m) e ∙ take-take m (suc m) k (omega arith)

  pub each_only : (P : A → Type 0) (f : A → Bool) (l : List A) → Each P l → Each P (only f l)
  each_only P f [] h = tt
  each_only P f (a ∷ l) h = cases (λ b. Each P (cond b (a ∷ only f l) (only f l))) (f a) (λ _. (h.0, each_only P f l h.1)) (λ _. each_only P f l h.1)

  pub each_append : (P : A → Type 0) (l m : List A) → Each P l → Each P m → Each P (l ++ m)
  each_append P [] m h k = k
  each_append P (a ∷ l) m h k = (h.0, each_append P l m h.1 k)

  pub append_each : (Q : A → Type 0) (l m : List A) → Each Q (l ++ m) → Each Q l × Each Q m
  append_each Q [] m h = (tt, h)
  append_each Q (a ∷ l) m h = let r = append_each Q l m h.1 in ((h.0, r.0), r.1)

module _ {ℓ κ} {A : Type ℓ} {B : Type κ} (g : A → List B) where
  pub gather_append : (l m : List A) → gather g (l ++ m) ≡ gather g l ++ gather g m
  gather_append [] m = refl
  gather_append (a ∷ l) m = ap (λ r. g a ++ r) (gather_append l m) ∙ sym (append_assoc (g a) (gather g l) (gather g m))

-- a part of a list: what holds of each element holds of each in the part
module _ {ℓ} {A : Type ℓ} (P : A → Type 0) where
  pub each_drop : (n : ℕ) (l : List A) → Each P l → Each P (drop n l)
  each_drop zero l h = h
  each_drop (suc n) [] h = tt
  each_drop (suc n) (a ∷ l) h = each_drop n l h.1

  pub each_take : (n : ℕ) (l : List A) → Each P l → Each P (take n l)
  each_take zero l h = tt
  each_take (suc n) [] h = tt
  each_take (suc n) (a ∷ l) h = (h.0, each_take n l h.1)

-- the first n, without the first m of them
pub drop_take {ℓ} : {A : Type ℓ} (m n : ℕ) (l : List A) → drop m (take n l) ≡ take (n - m) (drop m l)
drop_take zero n l = rw (sub-zero n)
drop_take (suc m) zero l = let z : 0 - suc m ≡ 0 = omega arith in rw z
drop_take (suc m) (suc n) [] = sym (take-nil (suc n - suc m))
drop_take (suc m) (suc n) (a ∷ l) = let z : suc n - suc m ≡ n - m = omega arith in rw z (drop_take m n l)
