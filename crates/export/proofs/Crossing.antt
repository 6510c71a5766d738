-- What crosses is determined: two answers that keep one promise have the same number, fields and buffers, and after a refusal every
-- field is 0.
use mathlib.Core.Bool.{not}
use mathlib.Core.List.{List, [], ◌∷◌}
use mathlib.Core.Path.{◌≡◌, refl, sym, ap, ◌∙◌}
use Prim.Native.Nat.{ℕ, zero, suc}
use native.Mathlib.Omega.{arith}
use lib.Dec.{eqb}
use lib.ListN.{length, get_or}
use borrow.Author.Tests.{ne_eqb}
use mir.Syntax.{w32}
use mir.Val.{Fits}
use Rattle.kdb.specs.Lists.{only, Each}
use Rattle.kdb.specs.Calls.{Call, Buffers, Outcome, outcome, Promise}
use Rattle.kdb.proofs.Calls.{promise_once}
use Rattle.kdb.proofs.Lawful.{quiet, outcome_fits}
use Rattle.kdb.proofs.Fits.{Word, each_word}
use Rattle.kdb.proofs.Lists.{each_map}
use Rattle.export.specs.Crossing.{crossed}

-- where no field is other than 0, every field is 0
no_others : (fields : List ℕ) → only (λ f. not (eqb f 0)) fields ≡ [] → Each (λ f. f ≡ 0) fields
no_others [] e = tt
no_others (zero ∷ fields) e = (refl, no_others fields e)
no_others (suc f ∷ fields) e =
    let some : only (λ f. not (eqb f 0)) (suc f ∷ fields) ≡ suc f ∷ only (λ f. not (eqb f 0)) fields = rw (ne_eqb (suc f) 0 (λ z. omega arith)) in
    let z : ◌≡◌ {A = ℕ} 0 1 = cc in
    absurd (omega arith)

-- two lists of as many zeros
same_zeros : (a b : List ℕ) → length a ≡ length b → Each (λ f. f ≡ 0) a → Each (λ f. f ≡ 0) b → a ≡ b
same_zeros [] [] e x y = refl
same_zeros [] (g ∷ b) e x y = absurd (omega arith)
same_zeros (f ∷ a) [] e x y = absurd (omega arith)
same_zeros (f ∷ a) (g ∷ b) e x y = rw (x.0, y.0, same_zeros a b (omega arith) x.1 y.1)

-- after a refusal every field is 0
pub refused_zeros : (w : List ℕ) (c : Call) (n : ℕ) (fields : List ℕ) (b : Buffers)
    → Promise w c (crossed n fields b) → (n ≡ 0 → ⊥) → Each (λ f. f ≡ 0) fields
refused_zeros w c n fields b p h =
    no_others fields (rw (ne_eqb n 0 h) at (ap (λ o. o.values) p.kept) ∙ quiet w c (λ e. h (ap (λ o. o.number) p.kept ∙ e)))

-- two answers with as many fields that keep one promise are the same
same_fields : (w : List ℕ) (c : Call) (n : ℕ) (fields others : List ℕ) (b d : Buffers) → length fields ≡ length others
    → Promise w c (crossed n fields b) → Promise w c (crossed n others d) → fields ≡ others
same_fields w c zero fields others b d l p q = ap (λ o. o.values) (promise_once w c _ _ p q)
same_fields w c (suc n) fields others b d l p q =
    let refused : suc n ≡ 0 → ⊥ = λ e. omega arith in
    same_zeros fields others l (refused_zeros w c _ fields b p refused) (refused_zeros w c _ others d q refused)

pub crossed_once : (w : List ℕ) (c : Call) (n m : ℕ) (fields others : List ℕ) (b d : Buffers) → length fields ≡ length others
    → Promise w c (crossed n fields b) → Promise w c (crossed m others d) → (n ≡ m) × ((fields ≡ others) × (b ≡ d))
crossed_once w c n m fields others b d l p q =
    let one = promise_once w c _ _ p q in
    let number : n ≡ m = ap (λ o. o.number) one in
    (number, (same_fields w c n fields others b d l p (rw (sym number) at q), ap (λ o. o.after) one))

-- the values of a kept promise fit a field, since the pool's words do
pub promise_fits : {w : List ℕ} {c : Call} {o : Outcome} → Promise w c o → ((i : ℕ) → Fits w32 (get_or w i 0)) → Each (Fits w32) o.values
promise_fits {w} {c} {o} p h =
    rw p.kept (each_map Word (Fits w32) (outcome w c).values (λ v f. record { fits = f }) (outcome_fits w c (each_word w (λ i. (h i).fits))))
