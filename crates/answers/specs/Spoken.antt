-- What the code ensures of an answer's text.
use Rattle.std.specs.Prelude.{List, [], ◌∷◌, ◌++◌, ℕ, Result, Ok, Err}
use Rattle.kdb.specs.Lists.{gather}
use Rattle.kdb.specs.declared.Refusal.{Refusal}
use Rattle.kdb.specs.Calls.{number_of}
use Rattle.kdb.specs.Frames.{hex}

-- the number of an answer, and its values, where vs are those that it gives
abbrev pub number_in : {A : Type 0} → Result A Refusal → ℕ
number_in (Ok a) = 0
number_in (Err r) = number_of r

abbrev pub values_in : {A : Type 0} → (A → List ℕ) → Result A Refusal → List ℕ
values_in vs (Ok a) = vs a
values_in vs (Err r) = []

-- the text of an answer: the number, the values, the locations
unfoldable pub text_of : ℕ → List ℕ → List ℕ → List ℕ
text_of number values found = hex 2 number ++ (gather (hex 8) values ++ (gather (hex 8) found ++ (10 ∷ [])))
