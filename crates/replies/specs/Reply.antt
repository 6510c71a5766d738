-- What the code ensures of a frame's reply: its text, the pool in its buffer, and the work buffer.
use Rattle.std.specs.Prelude.{List, ◌≡◌, ℕ, ◌+◌, ◌≤◌, length, take}
use Rattle.std.proofs.lemmas.List.Edits.{sets}
use Rattle.kdb.specs.Calls.{remove, find, list, outcome}
use Rattle.kdb.specs.Frames.{Frame, new, call, unknown, slots, Reply}
use Rattle.text.specs.Text.{Written}

-- what the frames of words ask
abbrev pub remove_of : List ℕ → Frame
remove_of ws = call (λ work. remove ws)

abbrev pub find_of : List ℕ → Frame
find_of ws = call (λ work. find ws)

abbrev pub list_of : List ℕ → Frame
list_of ws = call (λ work. list ws slots)

-- the work buffer after a frame: a call is lent as many of its words as the pool has, and place alone writes them, where it answers 0 or 9
abbrev pub work_after : List ℕ → List ℕ → Frame → List ℕ
work_after w work (new k n) = work
work_after w work (call c) = sets work 0 (outcome w (c (take (length w) work))).after.work
work_after w work unknown = work

-- a reply stands in the buffers: its pool at the front of the pool's buffer, its text from `at` on in the output, and nothing else is changed
pub record Replied (r : Reply) (pool out : List ℕ) (at : ℕ) (pool' out' : List ℕ) (words at' : ℕ) : Type 0 where
  pub holds : pool' ≡ sets pool 0 r.pool
  pub long : words ≡ length r.pool
  pub text : Written out at r.text out' at'
  pub room : at' ≤ at + 531
  pub within : words ≤ 16384
