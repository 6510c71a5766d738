-- The answers of the calls as text: an outcome's number, values and locations are what the code writes.
use Rattle.std.proofs.Common.{◌≡◌, ℕ, List, [], ◌∷◌, get_or, take, refl, ap, Result, Ok, Err}
use Rattle.kdb.specs.Lists.{gather}
use Rattle.kdb.specs.declared.Refusal.{Refusal}
use Rattle.kdb.specs.Calls.{Buffers, number_of}
use Rattle.kdb.specs.Frames.{hex, answer_text}
use Rattle.opening.specs.Opens.{answer_as}
use Rattle.text.specs.declared.Sink.{Sink}
use Rattle.text.specs.Puts.{Puts}
use Rattle.text.proofs.Write.{puts_then}
use Rattle.answers.specs.Spoken.{number_in, values_in, text_of}

-- the number 255 alone is FF
pub ff : text_of 255 [] [] ≡ 70 ∷ 70 ∷ 10 ∷ []
unfolding text_of
ff = refl

-- the parts of an answer, one after the other
pub answer_parts : {a b c d e : Sink} (number : ℕ) (values found : List ℕ) → Puts a (hex 2 number) b → Puts b (gather (hex 8) values) c → Puts c (gather (hex 8) found) d → Puts d (10 ∷ []) e → Puts a (text_of number values found) e
unfolding text_of
answer_parts number values found p q r s = puts_then p (puts_then q (puts_then r s))

-- the text of an outcome that was told so, with the locations that its slots took
pub answer_said : {A : Type 0} (vs : A → List ℕ) (r : Result A Refusal) (b : Buffers) (found : List ℕ) → take (get_or (values_in vs r) 0 0) b.answer ≡ found → answer_text (answer_as vs r b) ≡ text_of (number_in r) (values_in vs r) found
unfolding text_of
answer_said vs (Ok a) b found e = ap (text_of 0 (vs a)) e
answer_said vs (Err r) b found e = ap (text_of (number_of r) []) e
