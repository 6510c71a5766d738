-- What crosses the boundary to C and Rust. An enum cannot, so a call returns its number, and behind it its values as fields that are 0
-- after a refusal. `crossed` is the outcome that a number, its fields and the buffers afterwards say.
use Rattle.std.specs.Prelude.{not, cond, List, ℕ, eqb}
use Rattle.kdb.specs.Lists.{only}
use Rattle.kdb.specs.Calls.{Buffers, Outcome}

-- done: the fields; after a refusal, the fields that are not 0, so that to return no values is to have 0 in every field
abbrev pub values_of : ℕ → List ℕ → List ℕ
values_of n fields = cond (eqb n 0) fields (only (λ f. not (eqb f 0)) fields)

abbrev pub crossed : ℕ → List ℕ → Buffers → Outcome
crossed n fields b = record { number = n; values = values_of n fields; after = b }
