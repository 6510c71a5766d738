-- How the code holds a stage of the stream in its buffers, and what each of its functions leaves there. The pool is the first `words` words
-- of a buffer of 16,384; the line is the first `digits` bytes of a buffer of 128, and more than 128 digits stand for a line that is too long.
use Rattle.std.specs.Prelude.{cond, List, [], ◌∷◌, ◌≡◌, ℕ, ◌+◌, ◌≤◌, ◌<◌, min, leb, eqb, length, take, set}
use Rattle.std.proofs.Math.Option.{Option, none, some}
use Rattle.std.proofs.lemmas.List.Edits.{sets}
use Rattle.text.specs.Text.{Written}
use Rattle.replies.specs.Reply.{work_after}
use Rattle.frames.specs.Stream.{Stage, closed, asked, next, said, stage_after, wrote}

-- the first r, where r is at most n; any other r stands for none
abbrev pub counted : ℕ → ℕ → List ℕ → Option (List ℕ)
counted n r l = cond (leb r n) (some (take r l)) none

-- all that is kept between two bytes: the pool's words, the characters of the line so far, and the three buffers
pub record Store : Type 0 where
  pub words : ℕ
  pub digits : ℕ
  pub line : List ℕ
  pub pool : List ℕ
  pub work : List ℕ

abbrev pub store_of : ℕ → ℕ → List ℕ → List ℕ → List ℕ → Store
store_of words digits line pool work = record { words = words; digits = digits; line = line; pool = pool; work = work }

-- the stage that it holds
abbrev pub stage_of : Store → Stage
stage_of m = record { pool = take m.words m.pool; line = counted 128 m.digits m.line }

-- where a line ends, its reply's pool is laid over the front of the pool's buffer
abbrev pub ended : Store → Store
ended m =
    let r = closed (stage_of m) in
    store_of (length r.pool) 0 m.line (sets m.pool 0 r.pool) (work_after (stage_of m).pool m.work (asked (stage_of m).line))

-- another character is kept, if there is room
abbrev pub longer_by : Store → ℕ → Store
longer_by m b = store_of m.words (min m.digits 128 + 1) (set m.line m.digits b) m.pool m.work

-- every word after a byte, and after some
unfoldable pub stored : Store → ℕ → Store
stored m b = cond (eqb b 10) (ended m) (longer_by m b)

abbrev pub kept : Store → List ℕ → Store
kept m [] = m
kept m (b ∷ bs) = kept (stored m b) bs

-- all that is kept, and the output, after one byte
pub record Stepped (m : Store) (b : ℕ) (out : List ℕ) (at : ℕ) (m' : Store) (out' : List ℕ) (at' : ℕ) : Type 0 where
  pub store : m' ≡ stored m b
  pub stage : stage_of m' ≡ next (stage_of m) b
  pub text : Written out at (said (stage_of m) b) out' at'
  pub room : at' ≤ at + 531
  pub within : m'.words ≤ 16384

-- all that is kept, and the output, after as many bytes of a piece as were taken: all, unless less than an answer's room is left
pub record Fed (m : Store) (piece out : List ℕ) (m' : Store) (out' : List ℕ) (taken written : ℕ) : Type 0 where
  pub store : m' ≡ kept m (take taken piece)
  pub stage : stage_of m' ≡ stage_after (stage_of m) (take taken piece)
  pub text : Written out 0 (wrote (stage_of m) (take taken piece)) out' written
  pub fits : written ≤ length out
  pub within : taken ≤ length piece
  pub goes : (t : ℕ) → t < taken → length (wrote (stage_of m) (take t piece)) + 531 ≤ length out
  pub stops : taken < length piece → length out < written + 531
  pub bounded : m'.words ≤ 16384
