-- The frame program: document 01, "The frame program". A line's bytes give the next pool and the answer's bytes; a whole input gives the
-- whole output. The pool has no words before the first format.
use Rattle.std.specs.Prelude.{Bool, ◌&&◌, cond, List, [], ◌∷◌, ◌++◌, ℕ, zero, suc, ◌+◌, ◌-◌, ◌*◌, ◌/◌, ◌%◌, leb, ltb, eqb, length, take, replicate, get_or}
use Rattle.std.proofs.Math.Option.{Option, none, some}
use Rattle.kdb.specs.Lists.{gather, and_then}
use Rattle.kdb.specs.Calls.{L, Call, format, place, remove, find, list, Outcome, outcome}

abbrev pub between : ℕ → ℕ → ℕ → Bool
between a b x = leb a x && leb x b

-- a hexadecimal digit of a byte, upper or lower case: 0 to 9, A to F, a to f
abbrev pub digit : ℕ → Option ℕ
digit x =
    cond (between 48 57 x) (some (x - 48))
    (cond (between 65 70 x) (some (x - 55))
    (cond (between 97 102 x) (some (x - 87))
    none))

-- the bytes of a line of digits; none for an odd number of digits or another character
abbrev pub bytes_of : List ℕ → Option (List ℕ)
bytes_of [] = some []
bytes_of (a ∷ []) = none
bytes_of (a ∷ b ∷ line) = and_then (digit a) (λ h. and_then (digit b) (λ l. and_then (bytes_of line) (λ bs. some ((16 * h + l) ∷ bs))))

-- words of 4 bytes, high byte first; none for a part word
abbrev pub words_of : List ℕ → Option (List ℕ)
words_of [] = some []
words_of (a ∷ []) = none
words_of (a ∷ b ∷ []) = none
words_of (a ∷ b ∷ c ∷ []) = none
words_of (a ∷ b ∷ c ∷ d ∷ bs) = and_then (words_of bs) (λ ws. some ((16777216 * a + 65536 * b + 256 * c + d) ∷ ws))

-- the digit of a value below 16, upper case
abbrev pub digit_of : ℕ → ℕ
digit_of v = cond (ltb v 10) (v + 48) (v + 55)

-- a number of n digits, upper case
abbrev pub hex : ℕ → ℕ → List ℕ
hex zero v = []
hex (suc n) v = hex n (v / 16) ++ (digit_of (v % 16) ∷ [])

-- what a frame asks: a format of K on N pages; a call, to which place's work buffer is given; no frame
pub data Frame : Type 0 where
  new : ℕ → ℕ → Frame
  call : (List ℕ → Call) → Frame
  unknown : Frame

-- 00: K, then N in 2 bytes, high byte first
abbrev pub new_of : List ℕ → Frame
new_of [] = unknown
new_of (k ∷ []) = unknown
new_of (k ∷ a ∷ []) = unknown
new_of (k ∷ a ∷ b ∷ []) = new k (256 * a + b)
new_of (k ∷ a ∷ b ∷ c ∷ bs) = unknown

-- 01: the last word is the location, those before it the point
abbrev pub place_of : List ℕ → Frame
place_of [] = unknown
place_of (x ∷ ws) = call (λ work. place work (take (length ws) (x ∷ ws)) (get_or (x ∷ ws) (length ws) 0))

-- a list goes into 64 slots
abbrev pub slots : List ℕ
slots = replicate 64 0

-- a frame of words; bytes that are no words are no frame
abbrev pub with_words : (List ℕ → Frame) → Option (List ℕ) → Frame
with_words f none = unknown
with_words f (some ws) = f ws

-- the first byte decides
abbrev pub frame_of : ℕ → List ℕ → Frame
frame_of first bs =
    cond (eqb first 0) (new_of bs)
    (cond (eqb first 1) (with_words place_of (words_of bs))
    (cond (eqb first 2) (with_words (λ ws. call (λ work. remove ws)) (words_of bs))
    (cond (eqb first 3) (with_words (λ ws. call (λ work. find ws)) (words_of bs))
    (cond (eqb first 4) (with_words (λ ws. call (λ work. list ws slots)) (words_of bs))
    unknown))))

-- a frame has a first byte
abbrev pub framed : Option (List ℕ) → Frame
framed none = unknown
framed (some []) = unknown
framed (some (b ∷ bs)) = frame_of b bs

-- more than 128 digits is no frame
abbrev pub parse : List ℕ → Frame
parse line = cond (leb (length line) 128) (framed (bytes_of line)) unknown

-- the locations that a list's slots took; no other call has an answer buffer
abbrev pub found : Outcome → List ℕ
found o = take (get_or o.values 0 0) o.after.answer

-- the number as 2 digits, then each value as 8, then a list's locations
abbrev pub answer_text : Outcome → List ℕ
answer_text o = hex 2 o.number ++ (gather (hex 8) o.values ++ (gather (hex 8) (found o) ++ (10 ∷ [])))

pub record Reply : Type 0 where
  pub pool : List ℕ
  pub text : List ℕ

abbrev pub refusal : List ℕ → Reply
refusal w = record { pool = w; text = 70 ∷ 70 ∷ 10 ∷ [] }

-- a refused format keeps the earlier pool
abbrev pub renewed : List ℕ → Outcome → Reply
renewed w o = record { pool = cond (eqb o.number 0) o.after.pool w; text = answer_text o }

-- any other call leaves its pool
abbrev pub answered : Outcome → Reply
answered o = record { pool = o.after.pool; text = answer_text o }

-- a format is of a pool of 32 × N zeros; the work buffer is as long as the pool
abbrev pub obey : List ℕ → Frame → Reply
obey w (new k n) = renewed w (outcome (replicate (L * n) 0) (format k))
obey w (call c) = answered (outcome w (c (replicate (length w) 0)))
obey w unknown = refusal w

-- an empty line writes nothing
unfoldable pub reply : List ℕ → List ℕ → Reply
reply w [] = record { pool = w; text = [] }
reply w (a ∷ line) = obey w (parse (a ∷ line))

-- a byte before the first line
abbrev pub line_then : List (List ℕ) → ℕ → List (List ℕ)
line_then [] a = (a ∷ []) ∷ []
line_then (line ∷ rest) a = (a ∷ line) ∷ rest

-- the input's lines: a line feed ends a line, and the last line may lack it
abbrev pub lines : List ℕ → List (List ℕ)
lines [] = []
lines (a ∷ input) = cond (eqb a 10) ([] ∷ lines input) (line_then (lines input) a)

abbrev pub session : List ℕ → List (List ℕ) → List ℕ
session w [] = []
session w (line ∷ rest) = (reply w line).text ++ session (reply w line).pool rest

unfoldable pub output : List ℕ → List ℕ
output input = session [] (lines input)
