-- Laws of a turn and of the end for the loops that write an answer's text.
use mathlib.Core.List.{List, [], ◌∷◌, ◌++◌, append-nil}
use mathlib.Core.Path.{◌≡◌, refl, sym, ap, ap₂, ◌∙◌}
use Prim.Native.Nat.{ℕ, zero, suc, ◌+◌, ◌-◌, ◌/◌, ◌%◌, ◌<◌, ◌≤◌}
use native.Mathlib.Omega.{arith}
use native.Mathlib.Numerals.{add-one}
use lib.ListN.{length, get_or, take, set, length-append, length-set}
use lib.Seq.{sets, take-suc, length-sets}
use Rattle.kdb.specs.Lists.{gather}
use Rattle.kdb.specs.Frames.{digit_of, hex}
use Rattle.kdb.proofs.Lists.{gather_append}
use Rattle.kdb.proofs.Stores.{sets_append, set_past}
use Rattle.text.specs.Text.{Written}
use Rattle.text.specs.Puts.{Puts}
use Rattle.text.specs.declared.Sink.{Sink}

pub length_hex : (n v : ℕ) → length (hex n v) ≡ n
length_hex zero v = refl
length_hex (suc n) v = length-append (hex n (v / 16)) (digit_of (v % 16) ∷ []) ∙ omega (arith, length_hex n (v / 16))

-- a text and then another
pub written_then : {a b c t u : List ℕ} {i j k : ℕ} → Written a i t b j → Written b j u c k → Written a i (t ++ u) c k
written_then {a} {b} {c} {t} {u} {i} {j} {k} p q =
    record {
      stands = q.stands ∙ ap₂ (λ x n. sets x n u) p.stands p.follows ∙ sets_append a i t u;
      follows = omega (arith, p.follows, q.follows, length-append t u);
    }

-- nothing is written
pub written_none : (a : List ℕ) (i : ℕ) → Written a i [] a i
written_none a i = record { stands = refl; follows = omega arith }

pub written_long : {a b t : List ℕ} {i j : ℕ} → Written a i t b j → length b ≡ length a
written_long {a} {b} {t} {i} p = ap length p.stands ∙ length-sets a i t

-- of the n digits of v at a place, those before the last `left` are still to be written, and they are the digits of rest
pub record Hexed (old : List ℕ) (at n v : ℕ) (out : List ℕ) (left rest : ℕ) : Type 0 where
  pub so : sets out at (hex left rest) ≡ sets old at (hex n v)
  pub few : left ≤ n
  pub long : length out ≡ length old

hexed_turn : (old out : List ℕ) (at n v l rest : ℕ) → Hexed old at n v out (suc l) rest → Hexed old at n v (set out (at + l) (digit_of (rest % 16))) l (rest / 16)
hexed_turn old out at n v l rest h =
    let d = digit_of (rest % 16) in
    let xs = hex l (rest / 16) in
    let m : at + length xs ≡ at + l = omega (arith, length_hex l (rest / 16)) in
    record {
      so = sym (set_past out at xs (at + l) d (omega arith)) ∙ ap (λ i. set (sets out at xs) i d) (sym m) ∙ sets_append out at xs (d ∷ []) ∙ h.so;
      few = omega arith;
      long = simp length-set h.long;
    }

pub hexed_next : {old out : List ℕ} {at n v left rest : ℕ} (d : ℕ) (new : List ℕ) → Hexed old at n v out left rest → 0 < left → d ≡ digit_of (rest % 16) → new ≡ set out (at + (left - 1)) d
    → Hexed old at n v new (left - 1) (rest / 16)
hexed_next {old} {out} {at} {n} {v} {left} {rest} d new h k e f =
    let q : left ≡ suc (left - 1) = omega arith in
    let g : Hexed old at n v out (suc (left - 1)) rest = rw q at h in
    rw (f, e) (hexed_turn old out at n v (left - 1) rest g)

pub hexed_end : {old out : List ℕ} {at n v left rest : ℕ} → Hexed old at n v out left rest → left ≤ 0 → Written old at (hex n v) out (at + n)
hexed_end {old} {out} {at} {n} {v} {left} {rest} h k =
    let q : left ≡ 0 = omega arith in
    let g : Hexed old at n v out 0 rest = rw q at h in
    record { stands = g.so; follows = omega (arith, length_hex n v) }

-- the texts of one word more
pub words_more : (g : ℕ → List ℕ) (words : List ℕ) (i : ℕ) → i < length words → gather g (take (i + 1) words) ≡ gather g (take i words) ++ g (get_or words i 0)
words_more g words i k = rw add-one (ap (gather g) (take-suc words i 0 k) ∙ gather_append g (take i words) (get_or words i 0 ∷ []) ∙ ap (λ t. gather g (take i words) ++ t) (append-nil (g (get_or words i 0))))

-- the same by a sink
pub puts_none : (a : Sink) → Puts a [] a
puts_none a = record { written = written_none a.out.now a.at; same = refl }

pub puts_then : {a b c : Sink} {t u : List ℕ} → Puts a t b → Puts b u c → Puts a (t ++ u) c
puts_then p q = record { written = written_then p.written q.written; same = q.same ∙ p.same }
