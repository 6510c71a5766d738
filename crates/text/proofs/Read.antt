-- Laws of a turn and of the end for the loops that read bytes and words.
use Rattle.std.proofs.Common.{◌≡◌, ℕ, zero, suc, drop, length-drop, ◌+◌, ◌*◌, ◌%◌, ◌<◌, List, [], ◌∷◌, ◌++◌, length, get_or, take, set, refl, sym, ap, ◌∙◌, append_assoc, arith, add-one, length-set}
use Rattle.std.proofs.Math.Seq.{take-suc-set, drop-cons}
use lib.ListN.{take-append-drop}
use lib.Seq.{length-take-le}
use mathlib.Core.Option.{Option, none, some}
use Rattle.std.specs.Simd.{first_chunks}
use Rattle.kdb.specs.Lists.{and_then, gather}
use Rattle.kdb.specs.Frames.{digit, bytes_of, words_of}
use Rattle.text.specs.Text.{pair_of}

-- elements, and then those that are left
abbrev pub ahead : List ℕ → Option (List ℕ) → Option (List ℕ)
ahead p o = and_then o (λ l. some (p ++ l))

-- groups, one behind the other
abbrev pub flat : List (List ℕ) → List ℕ
flat cs = gather (λ c. c) cs

-- of src, read by f in groups, n groups are read into dst, of m places, and others are left
pub record Reading (f : List ℕ → Option (List ℕ)) (m : ℕ) (src dst : List ℕ) (left : List (List ℕ)) (n : ℕ) : Type 0 where
  pub so : ahead (take n dst) (f (flat left)) ≡ f src
  pub room : length dst ≡ m

flat_chunks : (d k : ℕ) (xs : List ℕ) → k * d ≡ length xs → flat (first_chunks d k xs) ≡ xs
flat_chunks d zero [] h = refl
flat_chunks d zero (x ∷ xs) h = absurd (omega arith)
flat_chunks d (suc k) xs h =
    ap (λ l. take d xs ++ l) (flat_chunks d k (drop d xs) (omega (arith, length-drop d xs))) ∙ take-append-drop d xs

-- each group has d elements
pub chunk_long : (d k : ℕ) (xs : List ℕ) (n : ℕ) {chunks : List (List ℕ)} → chunks ≡ first_chunks d k xs → k * d ≡ length xs → n < k → length (get_or chunks n []) ≡ d
chunk_long d k xs n e h m = rw e (go k xs n h m)
  where
    go : (j : ℕ) (ys : List ℕ) (i : ℕ) → j * d ≡ length ys → i < j → length (get_or (first_chunks d j ys) i []) ≡ d
    go zero ys i h m = absurd (omega arith)
    go (suc j) ys zero h m = length-take-le d ys (omega arith)
    go (suc j) ys (suc i) h m = go j (drop d ys) i (omega (arith, length-drop d ys)) (omega arith)

ahead_next : (p : List ℕ) (x : ℕ) (rest all : Option (List ℕ)) → ahead p (ahead (x ∷ []) rest) ≡ all → ahead (p ++ (x ∷ [])) rest ≡ all
ahead_next p x none all e = e
ahead_next p x (some l) all e = ap (λ m. some m) (append_assoc p (x ∷ []) l) ∙ e

ahead_none : (o : Option (List ℕ)) → ahead [] o ≡ o
ahead_none none = refl
ahead_none (some l) = refl

-- nothing is read yet
pub reading_none : (f : List ℕ → Option (List ℕ)) (d k m : ℕ) (src dst : List ℕ) {chunks : List (List ℕ)} → chunks ≡ first_chunks d k src → k * d ≡ length src → length dst ≡ m → Reading f m src dst chunks 0
reading_none f d k m src dst e h r = record { so = ahead_none _ ∙ ap f (ap flat e ∙ flat_chunks d k src h); room = r }

-- one group more
reading_next : (f : List ℕ → Option (List ℕ)) (m : ℕ) (src dst : List ℕ) (chunks : List (List ℕ)) (n x : ℕ) → Reading f m src dst (drop n chunks) n → n < length chunks → n < m
    → f (get_or chunks n [] ++ flat (drop (n + 1) chunks)) ≡ ahead (x ∷ []) (f (flat (drop (n + 1) chunks))) → Reading f m src (set dst n x) (drop (n + 1) chunks) (n + 1)
reading_next f m src dst chunks n x r k h e =
    let more : take (n + 1) (set dst n x) ≡ take n dst ++ (x ∷ []) = rw add-one (take-suc-set dst n x (omega (arith, r.room))) in
    let on : drop n chunks ≡ get_or chunks n [] ∷ drop (n + 1) chunks = rw add-one (drop-cons chunks n [] k) in
    record { so = rw more (ahead_next (take n dst) x _ _ (rw (on, e) at r.so)); room = simp length-set r.room }

-- the bytes of a line: two digits at the front
bytes_two : (a b x : ℕ) (l : List ℕ) → pair_of a b ≡ some x → bytes_of (a ∷ b ∷ l) ≡ ahead (x ∷ []) (bytes_of l)
bytes_two a b x l e = go (digit a) (digit b) ∙ ap (λ (o : Option ℕ). and_then o (λ y. ahead (y ∷ []) (bytes_of l))) e
  where
    go : (i j : Option ℕ) → and_then i (λ h. and_then j (λ o. and_then (bytes_of l) (λ bs. some ((16 * h + o) ∷ bs)))) ≡ and_then (and_then i (λ h. and_then j (λ o. some (16 * h + o)))) (λ y. ahead (y ∷ []) (bytes_of l))
    go none j = refl
    go (some h) none = refl
    go (some h) (some o) = refl

pub reading_pair : {line bytes : List ℕ} (pairs : List (List ℕ)) (n x : ℕ) → Reading bytes_of 64 line bytes (drop n pairs) n → n < length pairs → n < 64 → length (get_or pairs n []) ≡ 2
    → some x ≡ pair_of (get_or (get_or pairs n []) 0 0) (get_or (get_or pairs n []) 1 0) → Reading bytes_of 64 line (set bytes n x) (drop (n + 1) pairs) (n + 1)
reading_pair {line} {bytes} pairs n x r k h l q = reading_next bytes_of 64 line bytes pairs n x r k h (go (get_or pairs n []) l q)
  where
    go : (p : List ℕ) → length p ≡ 2 → some x ≡ pair_of (get_or p 0 0) (get_or p 1 0) → bytes_of (p ++ flat (drop (n + 1) pairs)) ≡ ahead (x ∷ []) (bytes_of (flat (drop (n + 1) pairs)))
    go [] e q = absurd (omega arith)
    go (a ∷ []) e q = absurd (omega arith)
    go (a ∷ b ∷ []) e q = bytes_two a b x (flat (drop (n + 1) pairs)) (sym q)
    go (a ∷ b ∷ c ∷ p) e q = absurd (omega arith)

pub reading_four : {bytes words : List ℕ} (fours : List (List ℕ)) (n x : ℕ) → Reading words_of 16 bytes words (drop n fours) n → n < length fours → n < 16 → length (get_or fours n []) ≡ 4
    → x ≡ 16777216 * get_or (get_or fours n []) 0 0 + 65536 * get_or (get_or fours n []) 1 0 + 256 * get_or (get_or fours n []) 2 0 + get_or (get_or fours n []) 3 0
    → Reading words_of 16 bytes (set words n x) (drop (n + 1) fours) (n + 1)
reading_four {bytes} {words} fours n x r k h l q = reading_next words_of 16 bytes words fours n x r k h (go (get_or fours n []) l q)
  where
    go : (p : List ℕ) → length p ≡ 4 → x ≡ 16777216 * get_or p 0 0 + 65536 * get_or p 1 0 + 256 * get_or p 2 0 + get_or p 3 0 → words_of (p ++ flat (drop (n + 1) fours)) ≡ ahead (x ∷ []) (words_of (flat (drop (n + 1) fours)))
    go [] e q = absurd (omega arith)
    go (a ∷ []) e q = absurd (omega arith)
    go (a ∷ b ∷ []) e q = absurd (omega arith)
    go (a ∷ b ∷ c ∷ []) e q = absurd (omega arith)
    go (a ∷ b ∷ c ∷ d ∷ []) e q = rw q refl
    go (a ∷ b ∷ c ∷ d ∷ y ∷ p) e q = absurd (omega arith)

-- an odd number of digits, and a part word
pub bytes_odd : (l : List ℕ) → 0 < length l % 2 → none ≡ bytes_of l
bytes_odd [] h = absurd (omega arith)
bytes_odd (a ∷ []) h = refl
bytes_odd (a ∷ b ∷ l) h = go (digit a) (digit b) (bytes_odd l (omega arith))
  where
    go : (i j : Option ℕ) {o : Option (List ℕ)} → none ≡ o → none ≡ and_then i (λ h. and_then j (λ k. and_then o (λ bs. some ((16 * h + k) ∷ bs))))
    go none j e = refl
    go (some h) none e = refl
    go (some h) (some k) e = ap (λ (o : Option (List ℕ)). and_then o (λ bs. some ((16 * h + k) ∷ bs))) e

pub words_part : (bs : List ℕ) → 0 < length bs % 4 → none ≡ words_of bs
words_part [] h = absurd (omega arith)
words_part (a ∷ []) h = refl
words_part (a ∷ b ∷ []) h = refl
words_part (a ∷ b ∷ c ∷ []) h = refl
words_part (a ∷ b ∷ c ∷ d ∷ bs) h = ap (λ (o : Option (List ℕ)). and_then o (λ ws. some ((16777216 * a + 65536 * b + 256 * c + d) ∷ ws))) (words_part bs (omega arith))
