-- Laws of the frame definition that code rests on: what place's work buffer and format's old words leave open, lines that are no frame,
-- and the lines of an input.
use mathlib.Core.Bool.{Bool, true, false, not}
use mathlib.Core.List.{List, [], ◌∷◌, ◌++◌}
use mathlib.Core.Path.{◌≡◌, refl, ap, ◌∙◌}
use Prim.Native.Nat.{ℕ, ◌<◌}
use native.Mathlib.Omega.{arith}
use lib.Dec.{T, eqb}
use lib.ListN.{length}
use borrow.Author.Tests.{lt-leb}
use Rattle.kdb.specs.Lists.{every}
use Rattle.kdb.specs.Pool.{good_length}
use Rattle.kdb.specs.declared.Refusal.{Refusal}
use Rattle.kdb.specs.declared.Refusal.TheVariants.{PoolLength, Domains}
use Rattle.kdb.specs.Calls.{L, format, place, Buffers, alone, lent, Outcome, gives, refuses, Test, unless, judge, tests, good_domains, formatted, placing, stepped, outcome}
use Rattle.kdb.specs.Frames.{unknown, new_of, Reply, refusal, renewed, lines, reply}
use Rattle.kdb.proofs.Tests.{and_l, and_r, is_false}

-- the outcome without the work buffer
abbrev pub apart_work : Outcome → Outcome
apart_work o = record { number = o.number; values = o.values; after = record { pool = o.after.pool; work = []; answer = o.after.answer } }

judge_apart : (ts : List Test) (b c : Buffers) (o : Outcome) → ((r : Refusal) → apart_work (refuses r b) ≡ apart_work (refuses r c)) → apart_work (judge ts b o) ≡ apart_work (judge ts c o)
judge_apart [] b c o h = refl
judge_apart (t ∷ ts) b c o h = go t.holds (judge_apart ts b c o h)
  where
    go : (s : Bool) → apart_work (judge ts b o) ≡ apart_work (judge ts c o) → apart_work (unless s t.refusal b (judge ts b o)) ≡ apart_work (unless s t.refusal c (judge ts c o))
    go true i = i
    go false i = h t.refusal

-- the number and the pool after a place do not depend on the work buffer's words, only on how many they are
pub place_work : (w p : List ℕ) (l : ℕ) (a b : List ℕ) → length a ≡ length b → apart_work (outcome w (place a p l)) ≡ apart_work (outcome w (place b p l))
unfolding outcome
place_work w p l a b e =
    let same : tests w (place a p l) ≡ tests w (place b p l) = rw e in
    let done = placing (stepped w (record { key = p; loc = l })) w in
    ap (λ ts. apart_work (judge ts (lent w (place a p l)) done)) same
    ∙ judge_apart (tests w (place b p l)) (lent w (place a p l)) (lent w (place b p l)) done (λ n. refl)

-- a format of words x that makes z of them, by its two tests
abbrev formats : List ℕ → ℕ → Bool → Bool → List ℕ → List ℕ → Reply
formats u k s t z x =
    let old = lent x (format k) in renewed u (unless s PoolLength old (unless t Domains old (gives [] (alone z))))

formats_old : (u : List ℕ) (k : ℕ) (s t : Bool) (z x y : List ℕ) → formats u k s t z x ≡ formats u k s t z y
formats_old u k true true z x y = refl
formats_old u k true false z x y = refl
formats_old u k false t z x y = refl

-- a format takes nothing of the pool but its length
pub format_length : (u v w : List ℕ) (k : ℕ) → length v ≡ length w → renewed u (outcome v (format k)) ≡ renewed u (outcome w (format k))
unfolding outcome good_length
format_length u v w k e =
    let good : good_length L v ≡ good_length L w = rw e in
    let made : formatted v k ≡ formatted w k = rw e in
    ap (λ s. formats u k s (good_domains k) (formatted v k) v) good
    ∙ ap (λ z. formats u k (good_length L w) (good_domains k) z v) made
    ∙ formats_old u k (good_length L w) (good_domains k) (formatted w k) v w

-- a format's frame has 3 bytes, or is none
pub new_other : (bytes : List ℕ) → (length bytes ≡ 3 → ⊥) → new_of bytes ≡ unknown
new_other [] h = refl
new_other (k ∷ []) h = refl
new_other (k ∷ a ∷ []) h = refl
new_other (k ∷ a ∷ b ∷ []) h = absurd (h refl)
new_other (k ∷ a ∷ b ∷ c ∷ bytes) h = refl

-- a line of more than 128 characters is no frame
pub reply_long : (w line : List ℕ) → 128 < length line → reply w line ≡ refusal w
unfolding reply
reply_long w [] h = absurd (omega arith)
reply_long w (a ∷ line) h = rw (lt-leb (length (a ∷ line)) 128 h)

-- no character is a line feed
abbrev pub unbroken : List ℕ → Bool
unbroken p = every (λ a. not (eqb a 10)) p

-- a line, its line feed and the rest
pub lines_break : (p rest : List ℕ) → T (unbroken p) → lines (p ++ (10 ∷ rest)) ≡ p ∷ lines rest
lines_break [] rest h = refl
lines_break (a ∷ p) rest h =
    rw (is_false (eqb a 10) (and_l (not (eqb a 10)) _ h), lines_break p rest (and_r (not (eqb a 10)) _ h))

-- a last line without line feed
pub lines_last : (a : ℕ) (p : List ℕ) → T (unbroken (a ∷ p)) → lines (a ∷ p) ≡ (a ∷ p) ∷ []
lines_last a [] h = rw (is_false (eqb a 10) (and_l (not (eqb a 10)) _ h))
lines_last a (b ∷ p) h =
    rw (is_false (eqb a 10) (and_l (not (eqb a 10)) _ h), lines_last b p (and_r (not (eqb a 10)) _ h))
