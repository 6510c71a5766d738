-- The frame program does what its client is told: a line that is written as specs/Client.antt says is read back as the call it asks for.
use mathlib.Core.Bool.{Bool, true, false, ◌||◌, not, cond}
use mathlib.Core.List.{List, [], ◌∷◌, ◌++◌, map, append_assoc, append-nil}
use mathlib.Core.Option.{Option, none, some}
use mathlib.Core.Path.{◌≡◌, refl, sym, ap, ap₂, ◌∙◌}
use Prim.Native.Nat.{ℕ, suc, ◌+◌, ◌-◌, ◌*◌, ◌/◌, ◌%◌, ◌≤◌, ◌<◌}
use native.Mathlib.Omega.{arith}
use lib.Dec.{T, leb, eqb, leb→le, eqb→eq}
use lib.ListN.{length, take, replicate, get_or, length-append, length-map}
use borrow.Author.Tests.{le-leb, eq-eqb, ne_eqb}
use Rattle.kdb.specs.Lists.{every, Each, gather, and_then}
use Rattle.kdb.specs.Calls.{L, Call, format, place, remove, find, list, Outcome, outcome}
use Rattle.kdb.specs.Frames.{between, digit, bytes_of, words_of, digit_of, hex, new, call, unknown, place_of, slots, with_words, frame_of, framed, parse, found, answer_text, Reply, renewed, answered, obey, reply, lines, session}
use Rattle.kdb.specs.Client.{digits, byte_text, word_text, Word, answer_line, Answered, Renewed, NoFrame, hexadecimal, upper, Client}
use Rattle.kdb.proofs.Tests.{and_l, and_r, cases}
use Rattle.kdb.proofs.Lists.{each_append}
use Rattle.kdb.proofs.Counts.{every_up}
use Rattle.kdb.proofs.Frames.{new_other, reply_long, lines_break, lines_last}

-- the sixteen digits, by computing
table_digit : (d : ℕ) → d < 16 → digit_of d ≡ get_or digits d 0
table_digit d h = eqb→eq (digit_of d) (get_or digits d 0) (every_up (λ d. eqb (digit_of d) (get_or digits d 0)) 16 0 tt d (omega arith) (omega arith))

abbrev is : ℕ → Option ℕ → Bool
is d none = false
is d (some x) = eqb x d

is_some : (d : ℕ) (o : Option ℕ) → T (is d o) → o ≡ some d
is_some d none t = absurd t
is_some d (some x) t = ap some (eqb→eq x d t)

digit_back : (d : ℕ) → d < 16 → digit (get_or digits d 0) ≡ some d
digit_back d h = is_some d (digit (get_or digits d 0)) (every_up (λ d. is d (digit (get_or digits d 0))) 16 0 tt d (omega arith) (omega arith))

low : (v : ℕ) → v % 16 < 16
low v = omega arith

sixteens : (v : ℕ) → v / 16 / 16 ≡ v / 256
sixteens v = omega arith

bytes_three : (v : ℕ) → v / 256 / 256 ≡ v / 65536
bytes_three v = omega arith

bytes_four : (v : ℕ) → v / 65536 / 256 ≡ v / 16777216
bytes_four v = omega arith

-- what the answers are written with is what the client reads
hex_two : (v : ℕ) → hex 2 v ≡ byte_text v
hex_two v = ap₂ (λ a b. a ∷ b ∷ []) (table_digit (v / 16 % 16) (low (v / 16))) (table_digit (v % 16) (low v))

hex_next : (n v : ℕ) → hex (suc (suc n)) v ≡ hex n (v / 256) ++ byte_text v
hex_next n v = append_assoc (hex n (v / 16 / 16)) (digit_of (v / 16 % 16) ∷ []) (digit_of (v % 16) ∷ []) ∙ ap₂ (λ m t. hex n m ++ t) (sixteens v) (hex_two v)

hex_eight : (v : ℕ) → hex 8 v ≡ word_text v
hex_eight v =
    let four : hex 4 (v / 65536) ≡ byte_text (v / 16777216) ++ byte_text (v / 65536) =
    hex_next 2 (v / 65536) ∙ ap (λ m. hex 2 m ++ byte_text (v / 65536)) (bytes_four v) ∙ ap (λ t. t ++ byte_text (v / 65536)) (hex_two (v / 16777216)) in
    hex_next 6 v ∙ (ap (λ l. l ++ byte_text v) (hex_next 4 (v / 256) ∙ ap (λ m. hex 4 m ++ byte_text (v / 256)) (bytes_three v))
    ∙ ap (λ l. (l ++ byte_text (v / 256)) ++ byte_text v) four)

gather_hex : (vs : List ℕ) → gather (hex 8) vs ≡ gather word_text vs
gather_hex [] = refl
gather_hex (v ∷ vs) = ap₂ ◌++◌ (hex_eight v) (gather_hex vs)

answer_line_lem : (o : Outcome) → answer_text o ≡ answer_line o
answer_line_lem o = ap₂ ◌++◌ (hex_two o.number) (ap₂ ◌++◌ (gather_hex o.values) (ap (λ l. l ++ (10 ∷ [])) (gather_hex (found o))))

-- a byte and a word read back
abbrev before : ℕ → Option (List ℕ) → Option (List ℕ)
before b o = and_then o (λ bs. some (b ∷ bs))

byte_back : (b : ℕ) (line : List ℕ) → bytes_of (byte_text b ++ line) ≡ before (b % 256) (bytes_of line)
byte_back b line =
    let e : 16 * (b / 16 % 16) + b % 16 ≡ b % 256 = omega arith in
    rw (digit_back (b / 16 % 16) (low (b / 16)), digit_back (b % 16) (low b)) (ap (λ c. before c (bytes_of line)) e)

abbrev four_bytes : ℕ → List ℕ
four_bytes v = v / 16777216 % 256 ∷ v / 65536 % 256 ∷ v / 256 % 256 ∷ v % 256 ∷ []

word_back : (v : ℕ) (line : List ℕ) → bytes_of (word_text v ++ line) ≡ and_then (bytes_of line) (λ bs. some (four_bytes v ++ bs))
word_back v line =
    let c = byte_text (v / 256) ++ (byte_text v ++ line) in
    byte_back (v / 16777216) (byte_text (v / 65536) ++ c)
    ∙ (ap (before (v / 16777216 % 256)) (byte_back (v / 65536) c ∙ ap (before (v / 65536 % 256)) (byte_back (v / 256) (byte_text v ++ line) ∙ ap (before (v / 256 % 256)) (byte_back v line)))
    ∙ go (bytes_of line))
  where
    go : (o : Option (List ℕ)) → before (v / 16777216 % 256) (before (v / 65536 % 256) (before (v / 256 % 256) (before (v % 256) o))) ≡ and_then o (λ bs. some (four_bytes v ++ bs))
    go none = refl
    go (some bs) = refl

bytes_back : (ws : List ℕ) → bytes_of (gather word_text ws) ≡ some (gather four_bytes ws)
bytes_back [] = refl
bytes_back (v ∷ ws) = word_back v (gather word_text ws) ∙ ap (λ o. and_then o (λ bs. some (four_bytes v ++ bs))) (bytes_back ws)

four_parts : (v x y z b c d : ℕ) → v ≡ 256 * x + d → x ≡ 256 * y + c → y ≡ 256 * z + b → 16777216 * z + 65536 * b + 256 * c + d ≡ v
four_parts v x y z b c d e f g = omega arith

words_back : (ws : List ℕ) → Each Word ws → words_of (gather four_bytes ws) ≡ some ws
words_back [] h = refl
words_back (v ∷ ws) h =
    let w : v < 4294967296 = h.0 in
    let z : v / 16777216 % 256 ≡ v / 16777216 = omega arith in
    let e = four_parts v (v / 256) (v / 65536) (v / 16777216) (v / 65536 % 256) (v / 256 % 256) (v % 256) (omega arith) (omega (arith, bytes_three v)) (omega (arith, bytes_four v)) in
    ap₂ (λ o x. and_then o (λ ws. some (x ∷ ws))) (words_back ws h.1) (ap (λ a. 16777216 * a + 65536 * (v / 65536 % 256) + 256 * (v / 256 % 256) + v % 256) z ∙ e)

length_words : (ws : List ℕ) → length (gather word_text ws) ≡ 8 * length ws
length_words [] = refl
length_words (v ∷ ws) = omega (arith, length_words ws)

-- a frame of words is read as it was written
ask : (f : ℕ) (ws : List ℕ) → length ws ≤ 15 → parse (byte_text f ++ gather word_text ws) ≡ frame_of (f % 256) (gather four_bytes ws)
ask f ws n =
    let short : length (byte_text f ++ gather word_text ws) ≤ 128 = omega (arith, length_words ws) in
    rw (le-leb (length (byte_text f ++ gather word_text ws)) 128 short) (ap framed (byte_back f (gather word_text ws) ∙ ap (before (f % 256)) (bytes_back ws)))

obeyed : (w line : List ℕ) (c : Call) → reply w line ≡ answered (outcome w c) → Answered w c (reply w line)
obeyed w line c e = record { pool = ap (λ r. r.pool) e; text = ap (λ r. r.text) e ∙ answer_line_lem (outcome w c) }

-- the location is the last word of a placing
front_take : (q r : List ℕ) → take (length q) (q ++ r) ≡ q
front_take [] r = refl
front_take (x ∷ q) r = ap (λ l. x ∷ l) (front_take q r)

front_get : (q : List ℕ) (l : ℕ) → get_or (q ++ (l ∷ [])) (length q) 0 ≡ l
front_get [] l = refl
front_get (x ∷ q) l = front_get q l

place_words : (p : List ℕ) (l : ℕ) → place_of (p ++ (l ∷ [])) ≡ call (λ work. place work p l)
place_words [] l = refl
place_words (x ∷ q) l =
    let n : length (q ++ (l ∷ [])) ≡ suc (length q) = omega (arith, length-append q (l ∷ [])) in
    rw n (ap₂ (λ a b. call (λ work. place work (x ∷ a) b)) (front_take q (l ∷ [])) (front_get q l))

-- lines that are no frame
no_bytes : (a b : ℕ) (line : List ℕ) → bytes_of line ≡ none → bytes_of (a ∷ b ∷ line) ≡ none
no_bytes a b line e = rw e (go (digit a) (digit b))
  where
    go : (x y : Option ℕ) → and_then x (λ h. and_then y (λ l. and_then {A = List ℕ} none (λ bs. some ((16 * h + l) ∷ bs)))) ≡ none
    go none y = refl
    go (some h) none = refl
    go (some h) (some l) = refl

odd_none : (line : List ℕ) → length line % 2 ≡ 1 → bytes_of line ≡ none
odd_none [] h = absurd (omega arith)
odd_none (a ∷ []) h = refl
odd_none (a ∷ b ∷ line) h = no_bytes a b line (odd_none line (omega arith))

no_digit : (a : ℕ) → hexadecimal a ≡ false → digit a ≡ none
no_digit a h = go (between 48 57 a) (between 65 70 a) (between 97 102 a) h
  where
    go : (x y z : Bool) → x || y || z ≡ false → cond x (some (a - 48)) (cond y (some (a - 55)) (cond z (some (a - 87)) none)) ≡ none
    go true y z h = absurd (let z : ◌≡◌ {A = ℕ} 0 1 = cc in omega arith)
    go false true z h = absurd (let z : ◌≡◌ {A = ℕ} 0 1 = cc in omega arith)
    go false false true h = absurd (let z : ◌≡◌ {A = ℕ} 0 1 = cc in omega arith)
    go false false false h = refl

other_none : (front back : List ℕ) (a : ℕ) → digit a ≡ none → bytes_of (front ++ (a ∷ back)) ≡ none
other_none [] [] a e = refl
other_none [] (b ∷ back) a e = rw e
other_none (x ∷ []) back a e = rw e (go (digit x))
  where
    go : (o : Option ℕ) → and_then o (λ h. and_then {A = ℕ} none (λ l. and_then (bytes_of back) (λ bs. some ((16 * h + l) ∷ bs)))) ≡ none
    go none = refl
    go (some h) = refl
other_none (x ∷ y ∷ front) back a e = no_bytes x y (front ++ (a ∷ back)) (other_none front back a e)

-- a line whose bytes are no frame
unframed : (w : List ℕ) (a : ℕ) (line : List ℕ) → framed (bytes_of (a ∷ line)) ≡ unknown → NoFrame w (a ∷ line)
unfolding reply
unframed w a line e = ap (obey w) (go (leb (length (a ∷ line)) 128))
  where
    go : (t : Bool) → cond t (framed (bytes_of (a ∷ line))) unknown ≡ unknown
    go true = e
    go false = refl

-- what is read, if anything, has m characters or bytes to each of its parts
abbrev PartsOf : ℕ → Option (List ℕ) → ℕ → Type 0
PartsOf m none n = Unit {0}
PartsOf m (some l) n = n ≡ m * length l

bytes_length : (line : List ℕ) → PartsOf 2 (bytes_of line) (length line)
bytes_length [] = refl
bytes_length (a ∷ []) = tt
bytes_length (a ∷ b ∷ line) = go (digit a) (digit b) (bytes_of line) (bytes_length line)
  where
    go : (x y : Option ℕ) (o : Option (List ℕ)) → PartsOf 2 o (length line)
        → PartsOf 2 (and_then x (λ h. and_then y (λ l. and_then o (λ bs. some ((16 * h + l) ∷ bs))))) (suc (suc (length line)))
    go none y o i = tt
    go (some h) none o i = tt
    go (some h) (some l) none i = tt
    go (some h) (some l) (some bs) i = omega arith

words_length : (bs : List ℕ) → PartsOf 4 (words_of bs) (length bs)
words_length [] = refl
words_length (a ∷ []) = tt
words_length (a ∷ b ∷ []) = tt
words_length (a ∷ b ∷ c ∷ []) = tt
words_length (a ∷ b ∷ c ∷ d ∷ bs) = go (words_of bs) (words_length bs)
  where
    go : (o : Option (List ℕ)) → PartsOf 4 o (length bs) → PartsOf 4 (and_then o (λ ws. some ((16777216 * a + 65536 * b + 256 * c + d) ∷ ws))) (suc (suc (suc (suc (length bs)))))
    go none i = tt
    go (some ws) i = omega arith

frame_beyond : (c : ℕ) (bs : List ℕ) → 5 ≤ c → frame_of c bs ≡ unknown
frame_beyond c bs h = rw (ne_eqb c 0 (λ z. omega arith), ne_eqb c 1 (λ z. omega arith), ne_eqb c 2 (λ z. omega arith), ne_eqb c 3 (λ z. omega arith), ne_eqb c 4 (λ z. omega arith)) refl

frame_part : (c : ℕ) (bs : List ℕ) → 1 ≤ c → words_of bs ≡ none → frame_of c bs ≡ unknown
frame_part c bs h e = rw (ne_eqb c 0 (λ z. omega arith), e) (go (eqb c 1) (eqb c 2) (eqb c 3) (eqb c 4))
  where
    go : (x y z t : Bool) → cond x unknown (cond y unknown (cond z unknown (cond t unknown unknown))) ≡ unknown
    go true y z t = refl
    go false true z t = refl
    go false false true t = refl
    go false false false true = refl
    go false false false false = refl

-- lower case
lower_digit : (a : ℕ) → T (between 97 102 a) → digit (a - 32) ≡ digit a
lower_digit a t =
    let l = leb→le 97 a (and_l (leb 97 a) _ t) in
    let m = leb→le a 102 (and_r (leb 97 a) _ t) in
    is_some (a - 87) (digit (a - 32)) (every_up (λ d. is (d - 87) (digit (d - 32))) 6 97 tt a l (omega arith))
    ∙ sym (is_some (a - 87) (digit a) (every_up (λ d. is (d - 87) (digit d)) 6 97 tt a l (omega arith)))

upper_digit : (a : ℕ) → digit (upper a) ≡ digit a
upper_digit a = cases (λ b. digit (cond b (a - 32) a) ≡ digit a) (between 97 102 a) (lower_digit a) (λ _. refl)

upper_bytes : (line : List ℕ) → bytes_of (map upper line) ≡ bytes_of line
upper_bytes [] = refl
upper_bytes (a ∷ []) = refl
upper_bytes (a ∷ b ∷ line) = rw (upper_digit a, upper_digit b, upper_bytes line) refl

module _ (w : List ℕ) where
  asked : (f : ℕ) (ws : List ℕ) (c : List ℕ → Call) → Each Word ws → length ws ≤ 15 → frame_of (f % 256) (gather four_bytes ws) ≡ call c
      → Answered w (c (replicate (length w) 0)) (reply w (byte_text f ++ gather word_text ws))
  unfolding reply
  asked f ws c h n e = obeyed w (byte_text f ++ gather word_text ws) (c (replicate (length w) 0)) (ap (obey w) (ask f ws n ∙ e))

  formats_is : (k n : ℕ) → k < 256 → n < 65536 → reply w (byte_text 0 ++ (byte_text k ++ (byte_text (n / 256) ++ byte_text n))) ≡ renewed w (outcome (replicate (L * n) 0) (format k))
  unfolding reply
  formats_is k n h i =
      let a : k % 256 ≡ k = omega arith in
      let b : 256 * (n / 256 % 256) + n % 256 ≡ n = omega arith in
      ap (obey w) (ap framed (byte_back 0 (byte_text k ++ (byte_text (n / 256) ++ byte_text n)) ∙ ap (before 0) (byte_back k (byte_text (n / 256) ++ byte_text n)
      ∙ ap (before (k % 256)) (byte_back (n / 256) (byte_text n) ∙ ap (before (n / 256 % 256)) (byte_back n [])))) ∙ ap₂ new a b)

  formatted : (k n : ℕ) (r : Reply) → r ≡ renewed w (outcome (replicate (L * n) 0) (format k)) → Renewed w k n r
  formatted k n r e =
      let o = outcome (replicate (L * n) 0) (format k) in
      record {
        done = λ z. ap (λ r. r.pool) e ∙ ap (λ b. cond b o.after.pool w) (eq-eqb o.number 0 z);
        refused = λ m. ap (λ r. r.pool) e ∙ ap (λ b. cond b o.after.pool w) (ne_eqb o.number 0 m);
        text = ap (λ r. r.text) e ∙ answer_line_lem o;
      }

  odd : (line : List ℕ) → length line % 2 ≡ 1 → NoFrame w line
  odd [] h = absurd (omega arith)
  odd (a ∷ line) h = unframed w a line (ap framed (odd_none (a ∷ line) h))

  other : (front back : List ℕ) (a : ℕ) → hexadecimal a ≡ false → NoFrame w (front ++ (a ∷ back))
  other [] back a h = unframed w a back (ap framed (other_none [] back a (no_digit a h)))
  other (x ∷ front) back a h = unframed w x (front ++ (a ∷ back)) (ap framed (other_none (x ∷ front) back a (no_digit a h)))

  beyond : (b : ℕ) (line : List ℕ) → 5 ≤ b → b < 256 → NoFrame w (byte_text b ++ line)
  beyond b line h i =
      let q : 5 ≤ b % 256 = omega arith in
      unframed w _ _ (ap framed (byte_back b line) ∙ go (bytes_of line) q)
    where
      go : (o : Option (List ℕ)) → 5 ≤ b % 256 → framed (before (b % 256) o) ≡ unknown
      go none q = refl
      go (some bs) q = frame_beyond (b % 256) bs q

  unfit : (line : List ℕ) → (length line ≡ 6 → ⊥) → NoFrame w (byte_text 0 ++ line)
  unfit line h = unframed w _ _ (ap framed (byte_back 0 line) ∙ go (bytes_of line) (bytes_length line))
    where
      go : (o : Option (List ℕ)) → PartsOf 2 o (length line) → framed (before 0 o) ≡ unknown
      go none i = refl
      go (some bs) i = new_other bs (λ z. h (omega (arith, i)))

  part : (b : ℕ) (line : List ℕ) → 1 ≤ b → b ≤ 4 → (length line % 8 ≡ 0 → ⊥) → NoFrame w (byte_text b ++ line)
  part b line h i n =
      let q : 1 ≤ b % 256 = omega arith in
      unframed w _ _ (ap framed (byte_back b line) ∙ go (bytes_of line) q (bytes_length line))
    where
      none_words : (bs : List ℕ) (o : Option (List ℕ)) → length line ≡ 2 * length bs → PartsOf 4 o (length bs) → o ≡ none
      none_words bs none e f = refl
      none_words bs (some ws) e f = absurd (n (omega arith))

      go : (o : Option (List ℕ)) → 1 ≤ b % 256 → PartsOf 2 o (length line) → framed (before (b % 256) o) ≡ unknown
      go none q e = refl
      go (some bs) q e = frame_part (b % 256) bs q (none_words bs (words_of bs) e (words_length bs))

  either : (line : List ℕ) → reply w (map upper line) ≡ reply w line
  unfolding reply
  either [] = refl
  either (a ∷ line) = ap (obey w) (ap₂ (λ m o. cond (leb m 128) (framed o) unknown) (length-map (a ∷ line) upper) (upper_bytes (a ∷ line)))

  last_line : (line : List ℕ) → T (every (λ a. not (eqb a 10)) line) → session w (lines line) ≡ (reply w line).text
  unfolding reply
  last_line [] h = refl
  last_line (a ∷ line) h = ap (session w) (lines_last a line h) ∙ append-nil (reply w (a ∷ line)).text

  pub client : Client w
  unfolding reply
  client =
      record {
        formats = λ k n h i. formatted k n _ (formats_is k n h i);
        places = λ p l h i n.
            asked 1 (p ++ (l ∷ [])) (λ work. place work p l) (each_append Word p (l ∷ []) h (i, tt)) (omega (arith, length-append p (l ∷ [])))
            (ap (with_words place_of) (words_back (p ++ (l ∷ [])) (each_append Word p (l ∷ []) h (i, tt))) ∙ place_words p l);
        removes = λ p h n. asked 2 p (λ work. remove p) h n (ap (with_words (λ ws. call (λ work. remove ws))) (words_back p h));
        finds = λ p h n. asked 3 p (λ work. find p) h n (ap (with_words (λ ws. call (λ work. find ws))) (words_back p h));
        lists = λ v h n. asked 4 v (λ work. list v slots) h n (ap (with_words (λ ws. call (λ work. list ws slots))) (words_back v h));
        either = either;
        odd = odd;
        other = other;
        long = λ line h. reply_long w line h;
        beyond = beyond;
        unfit = unfit;
        part = part;
        wordless = refl;
        empty = refl;
        onward = λ line rest h. ap (session w) (lines_break line rest h);
        last = last_line;
      }
