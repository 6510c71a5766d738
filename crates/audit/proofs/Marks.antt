-- Marks against "each once": a list of pages is marked, one after the other, exactly if its pages are numbers of pages, not marked before,
-- and no page comes twice.
use mathlib.Core.Bool.{Bool, true, false}
use mathlib.Core.List.{List, [], ◌∷◌, ◌++◌}
use mathlib.Core.Path.{◌≡◌, refl, sym, ap}
use Prim.Native.Nat.{ℕ, ◌+◌, ◌<◌, ◌≤◌}
use native.Mathlib.Omega.{arith}
use native.Mathlib.Nat.{zero-add}
use lib.Dec.{T, eqb, eqb→eq, eqb_refl, T_not, not_T}
use lib.ListN.{length, get_or, set, length-set}
use lib.Seq.{get_or-set_same, get_or-set_other}
use Rattle.kdb.specs.Lists.{bit, many}
use Rattle.kdb.proofs.Tests.{bool, self, to_bit, no_bit, is_false}

-- the pages xs have numbers of 1 to n − 1, none was marked in m, none comes twice; m' is m with all of them marked
pub data Marks (n : ℕ) : List ℕ → List Bool → List Bool → Type 0 where
  done : {m : List Bool} → Marks n [] m m
  next : {x : ℕ} {xs : List ℕ} {m m' : List Bool} → 1 ≤ x → x < n → get_or m x false ≡ false → Marks n xs (set m x true) m' → Marks n (x ∷ xs) m m'

pub marks_append : {n : ℕ} {xs ys : List ℕ} {m m' m'' : List Bool} → Marks n xs m m' → Marks n ys m' m'' → Marks n (xs ++ ys) m m''
marks_append done r = r
marks_append (next z h g s) r = next z h g (marks_append s r)

pub marks_nil : {n : ℕ} {m m' : List Bool} → Marks n [] m m' → m ≡ m'
marks_nil done = refl

pub marks_split : {n : ℕ} (xs ys : List ℕ) {m m'' : List Bool} → Marks n (xs ++ ys) m m'' → (m' : List Bool) × Marks n xs m m' × Marks n ys m' m''
marks_split [] ys {m} r = (m, done, r)
marks_split (x ∷ xs) ys (next z h g s) = let i = marks_split xs ys s in (i.0, next z h g i.1, i.2)

pub record First (n x : ℕ) (xs : List ℕ) (m m' : List Bool) : Type 0 where
  pub some : 1 ≤ x
  pub page : x < n
  pub clear : get_or m x false ≡ false
  pub more : Marks n xs (set m x true) m'

pub first : {n x : ℕ} {xs : List ℕ} {m m' : List Bool} → Marks n (x ∷ xs) m m' → First n x xs m m'
first (next z h g s) = record { some = z; page = h; clear = g; more = s }

-- the mark of y after page x is marked
after_mark : (m : List Bool) (x y : ℕ) → x < length m → get_or m x false ≡ false → bit (get_or (set m x true) y false) ≡ bit (eqb y x) + bit (get_or m y false)
after_mark m x y l g =
    bool (eqb y x)
    (λ t. let e : y ≡ x = eqb→eq y x t in
    let a : bit (get_or (set m x true) y false) ≡ 1 = rw (e, get_or-set_same m x true false l) in
    let b : bit (get_or m y false) ≡ 0 = rw (e, g) in
    omega (arith, to_bit (eqb y x) t))
    (λ n. let a : bit (get_or (set m x true) y false) ≡ bit (get_or m y false) = ap bit (get_or-set_other m x y true false (λ e. T_not (eqb y x) n (same y x e))) in
    omega (arith, no_bit (eqb y x) (T_not (eqb y x) n)))
  where
    same : (y x : ℕ) → y ≡ x → T (eqb y x)
    same y x e = rw e (eqb_refl x)

-- after marking xs a mark is what it was, and one more for each time its page stands in xs
pub adds : (n y : ℕ) (xs : List ℕ) (m m' : List Bool) → Marks n xs m m' → n ≤ length m → bit (get_or m' y false) ≡ many y xs + bit (get_or m y false)
adds n y [] m m' done l = sym (zero-add (bit (get_or m y false)))
adds n y (x ∷ xs) m m' (next z r g s) l =
    let a = after_mark m x y (omega arith) g in
    omega (arith, adds n y xs (set m x true) m' s (rw (length-set m x true) l))

pub marks_inside : (n y : ℕ) (xs : List ℕ) (m m' : List Bool) → Marks n xs m m' → 1 ≤ many y xs → (1 ≤ y) × (y < n)
marks_inside n y [] m m' r h = absurd (omega arith)
marks_inside n y (x ∷ xs) m m' (next z r g s) h =
    bool (eqb y x) (λ t. let e : y ≡ x = eqb→eq y x t in (omega arith, omega arith))
    (λ t. marks_inside n y xs (set m x true) m' s (omega (arith, no_bit (eqb y x) (T_not (eqb y x) t))))

-- marks can be set on pages that stand once and are not marked
pub marks : (n : ℕ) (xs : List ℕ) (m : List Bool) → n ≤ length m → ((y : ℕ) → 1 ≤ many y xs → (1 ≤ y) × (y < n)) → ((y : ℕ) → many y xs + bit (get_or m y false) ≤ 1)
    → (m' : List Bool) × Marks n xs m m'
marks n [] m l r o = (m, done)
marks n (x ∷ xs) m l r o =
    let i = r x (omega (arith, self x)) in
    let c : get_or m x false ≡ false = is_false (get_or m x false) (not_T (get_or m x false) (λ t. absurd (omega (arith, o x, self x, to_bit (get_or m x false) t)))) in
    let w = marks n xs (set m x true) (rw (length-set m x true) l) (λ y h. r y (omega arith))
    (λ y. omega (arith, o y, after_mark m x y (omega arith) c)) in
    (w.0, next i.0 i.1 c w.1)
