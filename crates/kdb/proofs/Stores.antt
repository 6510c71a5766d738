-- Laws of stores: words put into a list, and lists padded with zeros.
use mathlib.Core.Bool.{Bool, true, false}
use mathlib.Core.List.{List, [], ◌∷◌, ◌++◌, append_assoc, append-nil}
use mathlib.Core.Path.{◌≡◌, refl, sym, ap, ap₂, ◌∙◌}
use Prim.Native.Nat.{ℕ, zero, suc, ◌+◌, ◌-◌, ◌<◌, ◌≤◌}
use native.Mathlib.Omega.{arith}
use lib.Dec.{T, leb, eqb, eqb→eq}
use native.Mathlib.Nat.{zero-add, suc-add, add-zero}
use lib.ListN.{length, take, drop, length-append, take-append-drop, set, replicate, drop_of_length-le}
use lib.Seq.{take_at, sets, sets-eq, set_out, set_comm, take_all, length-take-le}
use borrow.Author.Tests.{leb-true, leb-false}
use Rattle.kdb.specs.Lists.{every, pad}
use Rattle.kdb.proofs.Tests.{and_l, and_r}

pub length_pad : (n : ℕ) (ws : List ℕ) → length (pad n ws) ≡ n
length_pad zero ws = refl
length_pad (suc n) [] = ap suc (length_pad n [])
length_pad (suc n) (w ∷ ws) = ap suc (length_pad n ws)

pub pad_tail : (n : ℕ) (ws : List ℕ) → length ws ≤ n → pad n ws ≡ ws ++ pad (n - length ws) []
pad_tail n [] h = let e : n ≡ n - 0 = omega arith in ap (λ i. pad i []) e
pad_tail zero (a ∷ ws) h = absurd (omega arith)
pad_tail (suc n) (a ∷ ws) h =
    let e : n - length ws ≡ suc n - suc (length ws) = omega arith in ap (λ r. a ∷ r) (pad_tail n ws (omega arith) ∙ ap (λ i. ws ++ pad i []) e)

pub zeros_pad : (l : List ℕ) (n : ℕ) → length l ≡ n → T (every (eqb 0) l) → l ≡ pad n []
zeros_pad [] zero h z = refl
zeros_pad [] (suc n) h z = absurd (omega arith)
zeros_pad (a ∷ l) zero h z = absurd (omega arith)
zeros_pad (a ∷ l) (suc n) h z = ap₂ ◌∷◌ (sym (eqb→eq 0 a (and_l (eqb 0 a) _ z))) (zeros_pad l n (omega arith) (and_r (eqb 0 a) _ z))

pub pad_zeros : (n : ℕ) → T (every (eqb 0) (pad n []))
pad_zeros zero = tt
pad_zeros (suc n) = pad_zeros n

module _ {ℓ} {A : Type ℓ} where
  pub set_append_add : (xs ys : List A) (n : ℕ) (a : A) → set (xs ++ ys) (length xs + n) a ≡ xs ++ set ys n a
  set_append_add [] ys n a = ap (λ i. set ys i a) (zero-add n)
  set_append_add (y ∷ xs) ys n a = ap (λ i. set (y ∷ (xs ++ ys)) i a) (suc-add (length xs) n) ∙ ap (λ r. y ∷ r) (set_append_add xs ys n a)

  pub sets_cons : (a : A) (l : List A) (i : ℕ) (ys : List A) → sets (a ∷ l) (suc i) ys ≡ a ∷ sets l i ys
  sets_cons a l i [] = refl
  sets_cons a l i (y ∷ ys) = sets_cons a (set l i y) (suc i) ys

  sets_nil : (i : ℕ) (ys : List A) → ◌≡◌ {A = List A} (sets [] i ys) []
  sets_nil i [] = refl
  sets_nil i (y ∷ ys) = sets_nil (suc i) ys

  pub sets_append : (l : List A) (i : ℕ) (xs ys : List A) → sets (sets l i xs) (i + length xs) ys ≡ sets l i (xs ++ ys)
  sets_append l i [] ys = ap (λ j. sets l j ys) (add-zero i)
  sets_append l i (x ∷ xs) ys = let e : i + suc (length xs) ≡ suc i + length xs = omega arith in ap (λ j. sets (sets l i (x ∷ xs)) j ys) e ∙ sets_append (set l i x) (suc i) xs ys

  pub sets_front : (xs ys zs : List A) → length zs ≡ length xs → sets (xs ++ ys) 0 zs ≡ zs ++ ys
  sets_front [] ys [] h = refl
  sets_front [] ys (z ∷ zs) h = absurd (omega arith)
  sets_front (x ∷ xs) ys [] h = absurd (omega arith)
  sets_front (x ∷ xs) ys (z ∷ zs) h = sets_cons z (xs ++ ys) 0 zs ∙ ap (λ r. z ∷ r) (sets_front xs ys zs (omega arith))

  pub sets_all : (l ys : List A) → length ys ≡ length l → sets l 0 ys ≡ ys
  sets_all l ys h = ap (λ v. sets v 0 ys) (sym (append-nil l)) ∙ (sets_front l [] ys h ∙ append-nil ys)

  pub set_past : (l : List A) (i : ℕ) (xs : List A) (j : ℕ) (a : A) → i + length xs ≤ j → set (sets l i xs) j a ≡ sets (set l j a) i xs
  set_past l i [] j a h = refl
  set_past l i (x ∷ xs) j a h = set_past (set l i x) (suc i) xs j a (omega arith) ∙ ap (λ v. sets v (suc i) xs) (set_comm l i j x a (λ e. omega arith))

pub pad_nil : (n : ℕ) → pad n [] ≡ replicate n 0
pad_nil zero = refl
pad_nil (suc n) = ap (λ r. 0 ∷ r) (pad_nil n)

-- padding twice
pub pad_pad : (n m : ℕ) (ws : List ℕ) → length ws ≤ n → n ≤ m → pad m (pad n ws) ≡ pad m ws
pad_pad zero m [] h i = refl
pad_pad zero m (a ∷ ws) h i = absurd (omega arith)
pad_pad (suc n) zero ws h i = absurd (omega arith)
pad_pad (suc n) (suc m) [] h i = ap (λ r. 0 ∷ r) (pad_pad n m [] (omega arith) (omega arith))
pad_pad (suc n) (suc m) (a ∷ ws) h i = ap (λ r. a ∷ r) (pad_pad n m ws (omega arith) (omega arith))

pad_add : (a b : ℕ) → pad (a + b) [] ≡ pad a [] ++ pad b []
pad_add zero b = ap (λ i. pad i []) (zero-add b)
pad_add (suc a) b = ap (λ i. pad i []) (suc-add a b) ∙ ap (λ r. 0 ∷ r) (pad_add a b)

pub pad_sets : (n : ℕ) (ws u : List ℕ) → sets (pad n ws) (length ws) u ≡ pad n (ws ++ u)
pad_sets zero ws u = sets_nil (length ws) u
pad_sets (suc n) [] [] = refl
pad_sets (suc n) [] (y ∷ u) = sets_cons y (pad n []) 0 u ∙ ap (λ r. y ∷ r) (pad_sets n [] u)
pad_sets (suc n) (a ∷ ws) u = sets_cons a (pad n ws) (length ws) u ∙ ap (λ r. a ∷ r) (pad_sets n ws u)

pub pad_set : (n : ℕ) (ws : List ℕ) (i v : ℕ) → i < length ws → set (pad n ws) i v ≡ pad n (set ws i v)
pad_set n [] i v h = absurd (omega arith)
pad_set zero (a ∷ ws) i v h = refl
pad_set (suc n) (a ∷ ws) zero v h = refl
pad_set (suc n) (a ∷ ws) (suc i) v h = ap (λ r. a ∷ r) (pad_set n ws i v (omega arith))

-- the entry between goes, and zeros come behind
pub pad_gap : (n : ℕ) (xs es ys : List ℕ) → length xs + (length es + length ys) ≤ n → sets (pad n (xs ++ (es ++ ys))) (length xs) (ys ++ pad (length es) []) ≡ pad n (xs ++ ys)
pad_gap n [] es ys h =
    let l = length-append es ys in
    let m = length-append ys (pad (length es) []) in
    let e : n - length ys ≡ length es + (n - length (es ++ ys)) = omega (arith, l) in
    ap (λ v. sets v 0 (ys ++ pad (length es) [])) (pad_tail n (es ++ ys) (omega (arith, l)))
    ∙ (sets_front (es ++ ys) (pad (n - length (es ++ ys)) []) (ys ++ pad (length es) []) (omega (arith, l, m, length_pad (length es) []))
    ∙ (append_assoc ys (pad (length es) []) (pad (n - length (es ++ ys)) []) ∙ (ap (λ v. ys ++ v) (sym (pad_add (length es) (n - length (es ++ ys))) ∙ ap (λ i. pad i []) (sym e)) ∙ sym (pad_tail n ys (omega arith)))))
pad_gap zero (x ∷ xs) es ys h = absurd (omega arith)
pad_gap (suc n) (x ∷ xs) es ys h = sets_cons x (pad n (xs ++ (es ++ ys))) (length xs) (ys ++ pad (length es) []) ∙ ap (λ r. x ∷ r) (pad_gap n xs es ys (omega arith))

module _ {ℓ} {A : Type ℓ} where
  -- a whole list stored over another of its length; what is stored past the end is lost
  pub sets_whole : (x v : List A) → length v ≡ length x → sets x 0 v ≡ v
  sets_whole x v e = sets-eq v x 0 (omega arith) ∙ ap (λ (l : List A). v ++ l) (drop_of_length-le x {i = 0 + length v} (omega arith)) ∙ append-nil v

  pub sets_out : (x v : List A) (i : ℕ) → length x ≤ i → sets x i v ≡ x
  sets_out x [] i h = refl
  sets_out x (a ∷ v) i h = rw (set_out x i a h) (sets_out x v (suc i) (omega arith))

  -- stores from the front on: the first fill the list, the rest of it stays
  pub sets_fill : (x v : List A) → sets x 0 v ≡ take (length x) v ++ drop (length v) x
  sets_fill x v = go (leb (length v) (length x)) refl
    where
      go : (b : Bool) → leb (length v) (length x) ≡ b → sets x 0 v ≡ take (length x) v ++ drop (length v) x
      go true e =
          let h : length v ≤ length x = leb-true (length v) (length x) e in
          let z : 0 + length v ≡ length v = omega arith in
          sets-eq v x 0 (omega arith) ∙ rw (z, take_all (length x) v h)
      go false e =
          let h : length x < length v = leb-false (length v) (length x) e in
          let m = length x in
          let l : length (take m v) ≡ m = length-take-le m v (omega arith) in
          ap (sets x 0) (sym (take-append-drop m v))
          ∙ sym (sets_append x 0 (take m v) (drop m v))
          ∙ ap (λ y. sets y (0 + length (take m v)) (drop m v)) (sets_whole x (take m v) l)
          ∙ sets_out (take m v) (drop m v) (0 + length (take m v)) (omega arith)
          ∙ sym (ap (λ y. take m v ++ y) (drop_of_length-le x {i = length v} (omega arith)) ∙ append-nil (take m v))

-- the first n after words are put in
pub take_set : (n : ℕ) (l : List ℕ) (i a : ℕ) → take n (set l i a) ≡ set (take n l) i a
take_set zero l i a = refl
take_set (suc n) [] i a = refl
take_set (suc n) (b ∷ l) zero a = refl
take_set (suc n) (b ∷ l) (suc i) a = ap (λ m. b ∷ m) (take_set n l i a)

pub take_sets_in : (n : ℕ) (l : List ℕ) (i : ℕ) (u : List ℕ) → take n (sets l i u) ≡ sets (take n l) i u
take_sets_in n l i [] = refl
take_sets_in n l i (a ∷ u) = take_sets_in n (set l i a) (suc i) u ∙ ap (λ m. sets m (suc i) u) (take_set n l i a)

pub take_sets : (l u : List ℕ) → length u ≤ length l → take (length u) (sets l 0 u) ≡ u
take_sets l u h = ap (take (length u)) (sets-eq u l 0 (omega arith)) ∙ take_at u (drop (0 + length u) l) (length u) refl

pub take_pad : (m n : ℕ) (ws : List ℕ) → m ≤ n → take m (pad n ws) ≡ pad m ws
take_pad zero n ws h = refl
take_pad (suc m) zero ws h = absurd (omega arith)
take_pad (suc m) (suc n) [] h = ap (λ l. 0 ∷ l) (take_pad m n [] (omega arith))
take_pad (suc m) (suc n) (a ∷ ws) h = ap (λ l. a ∷ l) (take_pad m n ws (omega arith))
