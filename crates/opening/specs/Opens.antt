-- What opening a pool tells, and what an answer without values means.
use Rattle.std.specs.Prelude.{List, [], ◌++◌, ◌≡◌, ℕ, T, Result, Ok, Err}
use Rattle.kdb.specs.declared.Refusal.{Refusal}
use Rattle.kdb.specs.Calls.{Buffers, Outcome, gives, refuses, Test, judge, all_hold}
use Rattle.words.specs.Words.{form_of, Fit}

-- the tests hold, and the pool is that of these words and fit for a call; or the refusal is given, whatever tests come behind these
abbrev pub Tells : List ℕ → List Test → Result (List ℕ) Refusal → Type 0
Tells w ts (Ok p) = (p ≡ w) × (Fit w (form_of w) × T (all_hold ts))
Tells w ts (Err r) = (us : List Test) (b : Buffers) (o : Outcome) → judge (ts ++ us) b o ≡ refuses r b

pub record Opens (w : List ℕ) (ts : List Test) (q : Result (List ℕ) Refusal) : Type 0 where
  pub tells : Tells w ts q

-- the outcome that an answer is, with the buffers at exit, where vs are the values that it gives; and that of an answer without values
abbrev pub answer_as : {A : Type 0} → (A → List ℕ) → Result A Refusal → Buffers → Outcome
answer_as vs (Ok a) b = gives (vs a) b
answer_as vs (Err r) b = refuses r b

abbrev pub finished_as : Result (Unit {0}) Refusal → Buffers → Outcome
finished_as = answer_as (λ done. [])
