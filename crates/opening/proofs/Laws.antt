-- A pool that was not opened: the refusal of its first failing test stands, whatever tests come behind.
use mathlib.Core.List.{List, [], ◌∷◌, ◌++◌, append_assoc}
use mathlib.Core.Path.{◌≡◌, sym, ap, ◌∙◌}
use Prim.Native.Nat.{ℕ}
use Rattle.std.specs.Prelude.{Result, Err, IsErrAnd}
use Rattle.std.proofs.lemmas.Result.{err_from_is_err_and}
use Rattle.kdb.specs.declared.Refusal.{Refusal}
use Rattle.kdb.specs.Calls.{Call, Test, judge, lent, tests, core, outcome, Promise}
use Rattle.opening.specs.Opens.{Opens, answer_as}

-- a pool that was not opened, with one test more: the answer a is the refusal that `?` passed on
pub refused_before : (w : List ℕ) (ts : List Test) (u : Test) (r : Refusal) (a : Result (List ℕ) Refusal) → Opens w ts (Err r) → IsErrAnd a (λ s. s ≡ r) → Opens w (ts ++ (u ∷ [])) a
refused_before w ts u r a op e =
    let p = err_from_is_err_and a e in
    rw (p.1, p.2) (record { tells = λ us b o. ap (λ l. judge l b o) (append_assoc ts (u ∷ []) us) ∙ op.tells (u ∷ us) b o })

-- a call whose first tests these are is refused
pub refused_kept : {A : Type 0} (vs : A → List ℕ) (w : List ℕ) (ts : List Test) (r : Refusal) (a : Result A Refusal) (c : Call) (us : List Test) → Opens w ts (Err r)
    → tests w c ≡ ts ++ us → IsErrAnd a (λ s. s ≡ r) → Promise w c (answer_as vs a (lent w c))
unfolding outcome
refused_kept vs w ts r a c us op is e =
    let p = err_from_is_err_and a e in
    record { kept = rw (p.1, p.2) (sym (ap (λ l. judge l (lent w c) (core w c)) is ∙ op.tells us (lent w c) (core w c))) }
