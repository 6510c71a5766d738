-- What the code that reads and writes text ensures, in kdb's definitions of digits, bytes and words.
use Rattle.std.specs.Prelude.{Option, Some, None, List, ◌≡◌, ℕ, ◌+◌, ◌*◌, length, take}
use Rattle.std.specs.Borrow.{Bor}
use Rattle.std.proofs.Math.Option as maybe
use Rattle.std.proofs.lemmas.List.Edits.{sets}
use Rattle.kdb.specs.Lists.{and_then}
use Rattle.kdb.specs.Frames.{digit}

-- a value that may be wanting, as kdb has it
abbrev pub read : {A : Type 0} → Option A → maybe.Option A
read None = maybe.none
read (Some x) = maybe.some x

-- the same of a slice
abbrev pub shown : {A : Type 0} → Option (Bor (List A)) → maybe.Option (List A)
shown None = maybe.none
shown (Some s) = maybe.some s.now

-- the first n elements, where n is there
abbrev pub front : Option ℕ → List ℕ → maybe.Option (List ℕ)
front None l = maybe.none
front (Some n) l = maybe.some (take n l)

-- the byte of two digits
abbrev pub pair_of : ℕ → ℕ → maybe.Option ℕ
pair_of a b = and_then (digit a) (λ h. and_then (digit b) (λ l. maybe.some (16 * h + l)))

-- the text stands in the buffer from a place on, and the next place follows it
pub record Written (before : List ℕ) (at : ℕ) (text after : List ℕ) (next : ℕ) : Type 0 where
  pub stands : after ≡ sets before at text
  pub follows : next ≡ at + length text
