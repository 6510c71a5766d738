-- The frame program byte by byte: what is held between two bytes, and what a byte writes. `Stream` in proofs/ shows that this is `output`
-- of kdb, whole or cut into pieces anywhere.
use Rattle.std.specs.Prelude.{cond, List, [], ◌∷◌, ◌++◌, ℕ, ltb, eqb, length}
use Rattle.std.proofs.Math.Option.{Option, none, some}
use Rattle.kdb.specs.Frames.{Frame, unknown, parse, Reply, refusal, reply}

-- the pool, and the line so far; none for a line of more than 128 characters
pub record Stage : Type 0 where
  pub pool : List ℕ
  pub line : Option (List ℕ)

abbrev pub start : Stage
start = record { pool = []; line = some [] }

abbrev pub longer : Option (List ℕ) → ℕ → Option (List ℕ)
longer none b = none
longer (some line) b = cond (ltb (length line) 128) (some (line ++ (b ∷ []))) none

-- the answer where the line ends
abbrev pub closed : Stage → Reply
closed s = elim s.line [ none ↦ refusal s.pool | some line ↦ reply s.pool line ]

-- what the line asks
abbrev pub asked : Option (List ℕ) → Frame
asked none = unknown
asked (some line) = parse line

-- a byte gives the next stage and what is written
unfoldable pub next : Stage → ℕ → Stage
next s b = cond (eqb b 10) (record { pool = (closed s).pool; line = some [] }) (record { pool = s.pool; line = longer s.line b })

unfoldable pub said : Stage → ℕ → List ℕ
said s b = cond (eqb b 10) (closed s).text []

abbrev pub stage_after : Stage → List ℕ → Stage
stage_after s [] = s
stage_after s (b ∷ bs) = stage_after (next s b) bs

abbrev pub wrote : Stage → List ℕ → List ℕ
wrote s [] = []
wrote s (b ∷ bs) = said s b ++ wrote (next s b) bs

-- an input that comes in pieces: each piece's bytes, and the last line's answer at the end
abbrev pub fed : Stage → List (List ℕ) → List ℕ
fed s [] = (closed s).text
fed s (piece ∷ pieces) = wrote s piece ++ fed (stage_after s piece) pieces
