-- Sequences of calls on one pool, and the records that are live after them. `live` is computed from the calls and their answers alone.
use Rattle.std.specs.Prelude.{List, [], ◌∷◌, ◌++◌, ℕ, zero, suc}
use Rattle.kdb.specs.Box.{Key}
use Rattle.kdb.specs.Tree.{Rec}
use Rattle.kdb.specs.Steps.{without}
use Rattle.kdb.specs.Calls.{Call, format, check, place, remove, find, list, Outcome, outcome, Promise}

-- the number and the values that a call returned
pub record Answer : Type 0 where
  pub number : ℕ
  pub values : List ℕ

abbrev pub answer_of : Outcome → Answer
answer_of o = record { number = o.number; values = o.values }

-- the pool's words after the calls, in order
abbrev pub run : List ℕ → List Call → List ℕ
run w [] = w
run w (c ∷ cs) = run (outcome w c).after.pool cs

-- the answers of the calls, in order
abbrev pub answers : List ℕ → List Call → List Answer
answers w [] = []
answers w (c ∷ cs) = answer_of (outcome w c) ∷ answers (outcome w c).after.pool cs

-- what a call that is done makes of the index: nothing; an empty index of K domains; a record more; a record less
pub data Effect : Type 0 where
  unchanged : Effect
  emptied : ℕ → Effect
  added : Rec → Effect
  dropped : Key → Effect

abbrev pub makes : Call → Effect
makes (format k) = emptied k
makes check = unchanged
makes (place work p l) = added (record { key = p; loc = l })
makes (remove p) = dropped p
makes (find p) = unchanged
makes (list v answer) = unchanged

-- what an effect makes of the live records
abbrev pub change : Effect → List Rec → List Rec
change unchanged rs = rs
change (emptied k) rs = []
change (added q) rs = rs ++ (q ∷ [])
change (dropped p) rs = without p rs

-- a refused call changes nothing
abbrev pub changed : ℕ → Call → List Rec → List Rec
changed zero c rs = change (makes c) rs
changed (suc n) c rs = rs

abbrev pub live : List Rec → List Call → List Answer → List Rec
live rs [] told = rs
live rs (c ∷ cs) [] = rs
live rs (c ∷ cs) (a ∷ told) = live (changed a.number c rs) cs told

-- a sequence of calls of any code, each of which keeps its promise: the pool before, the calls, their outcomes, the pool after
pub data Keeps : List ℕ → List Call → List Outcome → List ℕ → Type 0 where
  over : {w : List ℕ} → Keeps w [] [] w
  next : {w v : List ℕ} {c : Call} {cs : List Call} {o : Outcome} {os : List Outcome} → Promise w c o → Keeps o.after.pool cs os v → Keeps w (c ∷ cs) (o ∷ os) v
