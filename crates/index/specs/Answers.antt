-- The outcome that an answer of a call is, with the buffers at exit.
use Rattle.std.specs.Prelude.{[], ◌∷◌, ℕ, Result}
use Rattle.kdb.specs.declared.Refusal.{Refusal}
use Rattle.kdb.specs.Calls.{Buffers, Outcome}
use Rattle.opening.specs.Opens.{answer_as}

abbrev pub removed_as : Result ℕ Refusal → Buffers → Outcome
removed_as = answer_as (λ l. l ∷ [])
