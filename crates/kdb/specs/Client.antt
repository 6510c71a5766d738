-- The frame program from the client's side: document 01, "The frame program". Frames.antt reads lines; here they are written: the line that
-- asks for each call, what is answered, the lines that are no frame, and how one line follows another.
use Rattle.std.specs.Prelude.{Bool, false, ◌||◌, not, cond, List, [], ◌∷◌, ◌++◌, map, ◌≡◌, ℕ, ◌-◌, ◌*◌, ◌/◌, ◌%◌, ◌≤◌, ◌<◌, T, eqb, length, take, replicate, get_or}
use Rattle.kdb.specs.Lists.{every, Each, gather}
use Rattle.kdb.specs.Calls.{L, Call, format, place, remove, find, list, Outcome, outcome}
use Rattle.kdb.specs.Frames.{between, Reply, reply, lines, session}

-- 0 to 9 and A to F
abbrev pub digits : List ℕ
digits = 48 ∷ 49 ∷ 50 ∷ 51 ∷ 52 ∷ 53 ∷ 54 ∷ 55 ∷ 56 ∷ 57 ∷ 65 ∷ 66 ∷ 67 ∷ 68 ∷ 69 ∷ 70 ∷ []

-- the last two digits of a number, and the last eight: 4 bytes, high byte first
abbrev pub byte_text : ℕ → List ℕ
byte_text b = get_or digits (b / 16 % 16) 0 ∷ get_or digits (b % 16) 0 ∷ []

abbrev pub word_text : ℕ → List ℕ
word_text v = byte_text (v / 16777216) ++ (byte_text (v / 65536) ++ (byte_text (v / 256) ++ byte_text v))

-- a word has 32 bits
abbrev pub Word : ℕ → Type 0
Word v = v < 4294967296

-- the answer: the number in 2 digits, each value in 8, then the locations that a list's slots took
abbrev pub answer_line : Outcome → List ℕ
answer_line o =
    byte_text o.number ++ (gather word_text o.values ++ (gather word_text (take (get_or o.values 0 0) o.after.answer) ++ (10 ∷ [])))

-- the call is made, its answer written, and its pool left
pub record Answered (w : List ℕ) (c : Call) (r : Reply) : Type 0 where
  pub pool : r.pool ≡ (outcome w c).after.pool
  pub text : r.text ≡ answer_line (outcome w c)

-- n pages of zeros are formatted; a refused format keeps the earlier pool
pub record Renewed (w : List ℕ) (k n : ℕ) (r : Reply) : Type 0 where
  pub done : (outcome (replicate (L * n) 0) (format k)).number ≡ 0 → r.pool ≡ (outcome (replicate (L * n) 0) (format k)).after.pool
  pub refused : ((outcome (replicate (L * n) 0) (format k)).number ≡ 0 → ⊥) → r.pool ≡ w
  pub text : r.text ≡ answer_line (outcome (replicate (L * n) 0) (format k))

-- FF, and nothing changes
abbrev pub NoFrame : List ℕ → List ℕ → Type 0
NoFrame w line = reply w line ≡ record { pool = w; text = 70 ∷ 70 ∷ 10 ∷ [] }

-- a character that is a digit, and the same in upper case
abbrev pub hexadecimal : ℕ → Bool
hexadecimal a = between 48 57 a || between 65 70 a || between 97 102 a

abbrev pub upper : ℕ → ℕ
upper a = cond (between 97 102 a) (a - 32) a

pub record Client (w : List ℕ) : Type 0 where
  -- the first byte decides; 15 words are the most that 128 digits take
  pub formats : (k n : ℕ) → k < 256 → n < 65536 → Renewed w k n (reply w (byte_text 0 ++ (byte_text k ++ (byte_text (n / 256) ++ byte_text n))))
  pub places : (p : List ℕ) (l : ℕ) → Each Word p → Word l → length p ≤ 14
      → Answered w (place (replicate (length w) 0) p l) (reply w (byte_text 1 ++ gather word_text (p ++ (l ∷ []))))
  pub removes : (p : List ℕ) → Each Word p → length p ≤ 15 → Answered w (remove p) (reply w (byte_text 2 ++ gather word_text p))
  pub finds : (p : List ℕ) → Each Word p → length p ≤ 15 → Answered w (find p) (reply w (byte_text 3 ++ gather word_text p))
  pub lists : (v : List ℕ) → Each Word v → length v ≤ 15 → Answered w (list v (replicate 64 0)) (reply w (byte_text 4 ++ gather word_text v))
  -- upper or lower case
  pub either : (line : List ℕ) → reply w (map upper line) ≡ reply w line
  -- no frame: an odd number of digits, another character, more than 128 digits, a first byte of 05 to FF, a 00 frame not of 4 bytes, a part
  -- word, 01 with no word
  pub odd : (line : List ℕ) → length line % 2 ≡ 1 → NoFrame w line
  pub other : (front back : List ℕ) (a : ℕ) → hexadecimal a ≡ false → NoFrame w (front ++ (a ∷ back))
  pub long : (line : List ℕ) → 128 < length line → NoFrame w line
  pub beyond : (b : ℕ) (line : List ℕ) → 5 ≤ b → b < 256 → NoFrame w (byte_text b ++ line)
  pub unfit : (line : List ℕ) → (length line ≡ 6 → ⊥) → NoFrame w (byte_text 0 ++ line)
  pub part : (b : ℕ) (line : List ℕ) → 1 ≤ b → b ≤ 4 → (length line % 8 ≡ 0 → ⊥) → NoFrame w (byte_text b ++ line)
  pub wordless : NoFrame w (byte_text 1)
  -- an empty line writes nothing
  pub empty : reply w [] ≡ record { pool = w; text = [] }
  -- a line feed ends a line, the next line meets the pool that this one left, and the last line may lack its line feed
  pub onward : (line rest : List ℕ) → T (every (λ a. not (eqb a 10)) line)
      → session w (lines (line ++ (10 ∷ rest))) ≡ (reply w line).text ++ session (reply w line).pool (lines rest)
  pub last : (line : List ℕ) → T (every (λ a. not (eqb a 10)) line) → session w (lines line) ≡ (reply w line).text
