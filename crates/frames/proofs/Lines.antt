-- A line by the bytes that were read.
use mathlib.Core.List.{List, [], ◌∷◌}
use mathlib.Core.Path.{◌≡◌, refl, sym, ap}
use mathlib.Core.Option.{Option}
use Prim.Native.Nat.{ℕ, ◌+◌, ◌^◌, ◌<◌, ◌≤◌}
use native.Mathlib.Omega.{arith}
use lib.ListN.{length, take}
use borrow.Author.Tests.{le-leb, lt-leb}
use Rattle.kdb.specs.Frames.{unknown, framed, parse, bytes_of, obey, reply}
use Rattle.text.specs.declared.Sink.{Sink}
use Rattle.text.proofs.Write.{puts_none}
use Rattle.replies.specs.declared.Store.{Store}
use Rattle.replies.specs.Served.{Served}
use Rattle.replies.proofs.Replies.{untouched}

-- an empty line
pub reply_empty : (w line : List ℕ) → length line ≡ 0 → reply w line ≡ record { pool = w; text = [] }
unfolding reply
reply_empty w [] h = refl
reply_empty w (a ∷ line) h = absurd (omega arith)

pub parse_empty : (line : List ℕ) → length line ≡ 0 → parse line ≡ unknown
parse_empty [] h = refl
parse_empty (a ∷ line) h = absurd (omega arith)

pub parse_long : (line : List ℕ) → 128 < length line → parse line ≡ unknown
parse_long line h = rw (lt-leb (length line) 128 h)

-- a line of up to 128 characters, by the bytes that were read, if it has bytes
pub parse_bytes : (line : List ℕ) {o : Option (List ℕ)} → length line ≤ 128 → o ≡ bytes_of line → parse line ≡ framed o
parse_bytes line h e = rw (le-leb (length line) 128 h) (ap framed (sym e))

pub reply_bytes : (w line : List ℕ) {o : Option (List ℕ)} → (length line ≡ 0 → ⊥) → length line ≤ 128 → o ≡ bytes_of line → reply w line ≡ obey w (framed o)
unfolding reply
reply_bytes w [] h k e = absurd (h refl)
reply_bytes w (a ∷ line) h k e = rw (le-leb (length (a ∷ line)) 128 k) (ap (λ o. obey w (framed o)) (sym e))

-- an empty line leaves all as it was
pub unanswered : (s : Store) (o : Sink) → o.at + 531 ≤ 2 ^ 63 → Served (record { pool = take s.words s.pool.now; text = [] }) unknown s o s o
unanswered s o h = untouched s (puts_none o) (omega arith)
