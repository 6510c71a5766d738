-- The outcome that an answer of a call is, with the buffers at exit.
use Rattle.std.specs.Prelude.{[], ◌∷◌, Result}
use Rattle.kdb.specs.declared.Refusal.{Refusal}
use Rattle.kdb.specs.Calls.{Buffers, Outcome}
use Rattle.opening.specs.Opens.{answer_as}
use Rattle.query.specs.declared.Found.{Found}
use Rattle.query.specs.declared.Listed.{Listed}

abbrev pub found_as : Result Found Refusal → Buffers → Outcome
found_as = answer_as (λ f. f.location ∷ f.reads ∷ [])

abbrev pub listed_as : Result Listed Refusal → Buffers → Outcome
listed_as = answer_as (λ l. l.total ∷ l.reads ∷ [])
