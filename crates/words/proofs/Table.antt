-- A rule of a table of tables, proved at all of its entries by one test that antt computes.
use mathlib.Core.Path.{◌≡◌, ◌∙◌, subst, sym}
use mathlib.Core.Bool.{Bool, true, ◌&&◌}
use mathlib.Core.List.{List, [], ◌∷◌}
use Prim.Native.Nat.{ℕ, zero, suc, ◌+◌, ◌<◌}
use native.Mathlib.Nat.{add-zero, zero-add, add-suc, suc-add, le_of_suc-le-suc, not-suc-le-zero}
use lib.Dec.{T, eqb, eqb→eq}
use lib.ListN.{length, get_or}
use Rattle.kdb.proofs.Tests.{and_l, and_r}

-- the test f passes at each entry of the list and its place, counted from i
abbrev pub every : {A : Type 0} → (ℕ → A → Bool) → ℕ → List A → Bool
every f i [] = true
every f i (x ∷ xs) = f i x && every f (suc i) xs

from : {A : Type 0} (d : A) (f : ℕ → A → Bool) (xs : List A) (i : ℕ) → T (every f i xs) → (k : ℕ) → k < length xs → T (f (i + k) (get_or xs k d))
from d f [] i t k h = absurd (not-suc-le-zero h)
from d f (x ∷ xs) i t zero h = subst (λ (m : ℕ). T (f m x)) (sym (add-zero i)) (and_l (f i x) (every f (suc i) xs) t)
from d f (x ∷ xs) i t (suc k) h =
    subst (λ (m : ℕ). T (f m (get_or xs k d))) (suc-add i k ∙ sym (add-suc i k))
    (from d f xs (suc i) (and_r (f i x) (every f (suc i) xs) t) k (le_of_suc-le-suc h))

pub at : {A : Type 0} (d : A) (f : ℕ → A → Bool) (xs : List A) → T (every f 0 xs) → (k : ℕ) → k < length xs → T (f k (get_or xs k d))
at d f xs t k h = subst (λ (m : ℕ). T (f m (get_or xs k d))) (zero-add k) (from d f xs 0 t k h)

-- one row: n entries, the test g l at each
abbrev pub row : ℕ → (ℕ → ℕ → ℕ → Bool) → ℕ → List ℕ → Bool
row n g l r = eqb (length r) n && every (g l) 0 r

-- the test over the whole table of tables, at one entry
pub at₂ : (n : ℕ) (g : ℕ → ℕ → ℕ → Bool) (xs : List (List ℕ)) → T (every (row n g) 0 xs)
    → (l k : ℕ) → l < length xs → k < n → T (g l k (get_or (get_or xs l []) k 0))
at₂ n g xs t l k hl hk =
    let r = get_or xs l [] in
    let u = at [] (row n g) xs t l hl in
    let e : length r ≡ n = eqb→eq (length r) n (and_l (eqb (length r) n) (every (g l) 0 r) u) in
    at 0 (g l) r (and_r (eqb (length r) n) (every (g l) 0 r) u) k (subst (λ (m : ℕ). k < m) (sym e) hk)
