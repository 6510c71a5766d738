-- The bytes that the stream writes are kdb's output of the whole input, cut into pieces anywhere.
use mathlib.Core.Bool.{true, not, cond}
use mathlib.Core.List.{List, [], ◌∷◌, ◌++◌, append_assoc, append-nil}
use mathlib.Core.Option.{Option, none, some}
use mathlib.Core.Path.{◌≡◌, refl, sym, ap, ap₂, ◌∙◌}
use Prim.Native.Nat.{ℕ, suc}
use native.Mathlib.Omega.{arith}
use lib.Dec.{T, leb, ltb, eqb, eqb→eq, nleb→lt, ltb→lt, nltb→le}
use lib.ListN.{length, length-append}
use borrow.Author.Tests.{le-leb, lt-leb}
use Rattle.kdb.specs.Lists.{gather}
use Rattle.kdb.specs.Frames.{Reply, reply, lines, session, output}
use Rattle.kdb.proofs.Tests.{bool, is_true, is_false, and_i}
use Rattle.kdb.proofs.Lists.{every_append}
use Rattle.kdb.proofs.Frames.{reply_long, unbroken, lines_break, lines_last}
use Rattle.frames.specs.Stream.{Stage, start, longer, closed, next, said, stage_after, wrote, fed}

pub after_append : (s : Stage) (a b : List ℕ) → stage_after s (a ++ b) ≡ stage_after (stage_after s a) b
after_append s [] b = refl
after_append s (x ∷ a) b = after_append (next s x) a b

pub wrote_append : (s : Stage) (a b : List ℕ) → wrote s (a ++ b) ≡ wrote s a ++ wrote (stage_after s a) b
wrote_append s [] b = refl
wrote_append s (x ∷ a) b = ap (λ t. said s x ++ t) (wrote_append (next s x) a b) ∙ sym (append_assoc (said s x) (wrote (next s x) a) (wrote (stage_after (next s x) a) b))

-- the line p as it is held
abbrev held : List ℕ → Option (List ℕ)
held p = cond (leb (length p) 128) (some p) none

abbrev at : List ℕ → List ℕ → Stage
at w p = record { pool = w; line = held p }

closed_at : (w p : List ℕ) → closed (at w p) ≡ reply w p
closed_at w p =
    bool (leb (length p) 128)
    (λ t. rw (is_true (leb (length p) 128) t))
    (λ t. rw (is_false (leb (length p) 128) t) (sym (reply_long w p (nleb→lt (length p) 128 t))))

held_longer : (p : List ℕ) (b : ℕ) → longer (held p) b ≡ held (p ++ (b ∷ []))
held_longer p b =
    let n : length (p ++ (b ∷ [])) ≡ suc (length p) = length-append p (b ∷ []) ∙ omega arith in
    bool (leb (length p) 128)
    (λ t. rw (is_true (leb (length p) 128) t) (bool (ltb (length p) 128)
    (λ u. rw (is_true (ltb (length p) 128) u, le-leb (length (p ++ (b ∷ []))) 128 (omega (arith, ltb→lt (length p) 128 u))))
    (λ u. rw (is_false (ltb (length p) 128) u, lt-leb (length (p ++ (b ∷ []))) 128 (omega (arith, nltb→le (length p) 128 u))))))
    (λ t. rw (is_false (leb (length p) 128) t, lt-leb (length (p ++ (b ∷ []))) 128 (omega (arith, nleb→lt (length p) 128 t))))

-- the last line, with no line feed
rest_end : (w p : List ℕ) → T (unbroken p) → session w (lines p) ≡ (closed (at w p)).text
unfolding reply
rest_end w [] h = refl
rest_end w (a ∷ p) h = rw (lines_last a p h) (append-nil (reply w (a ∷ p)).text ∙ ap (λ (r : Reply). r.text) (sym (closed_at w (a ∷ p))))

rest_feed : (w p input : List ℕ) → T (unbroken p) → ((v : List ℕ) → session v (lines input) ≡ fed (at v []) (input ∷ [])) → session w (lines (p ++ (10 ∷ input))) ≡ fed (at w p) ((10 ∷ input) ∷ [])
unfolding next said
rest_feed w p input h i =
    let r = closed (at w p) in
    ap (session w) (lines_break p input h)
    ∙ ap (λ (q : Reply). q.text ++ session q.pool (lines input)) (sym (closed_at w p))
    ∙ ap (λ t. r.text ++ t) (i r.pool)
    ∙ sym (append_assoc r.text (wrote (at r.pool []) input) (closed (stage_after (at r.pool []) input)).text)

-- the rest of an input, after the characters p of its line
rest : (w p input : List ℕ) → T (unbroken p) → session w (lines (p ++ input)) ≡ fed (at w p) (input ∷ [])
unfolding next said
rest w p [] h = ap (λ q. session w (lines q)) (append-nil p) ∙ rest_end w p h
rest w p (b ∷ input) h =
    bool (eqb b 10)
    (λ t. rw (eqb→eq b 10 t) (rest_feed w p input h (λ v. rest v [] input tt)))
    (λ t.
    let more = p ++ (b ∷ []) in
    let on : next (at w p) b ≡ at w more = rw (is_false (eqb b 10) t) (ap (λ l. record { pool = w; line = l }) (held_longer p b)) in
    let nothing : said (at w p) b ≡ [] = rw (is_false (eqb b 10) t) in
    ap (λ q. session w (lines q)) (sym (append_assoc p (b ∷ []) input))
    ∙ rest w more input (every_append (λ a. not (eqb a 10)) p (b ∷ []) h (and_i (not (eqb b 10)) true t tt))
    ∙ ap₂ (λ (s : Stage) (x : List ℕ). (x ++ wrote s input) ++ (closed (stage_after s input)).text) (sym on) (sym nothing))

-- the whole input
pub output_fed : (input : List ℕ) → output input ≡ fed start (input ∷ [])
unfolding output
output_fed input = rest [] [] input tt

pub fed_join : (s : Stage) (pieces : List (List ℕ)) → fed s pieces ≡ fed s (gather (λ p. p) pieces ∷ [])
fed_join s [] = refl
fed_join s (p ∷ pieces) =
    let joined = gather (λ (x : List ℕ). x) pieces in
    ap (λ t. wrote s p ++ t) (fed_join (stage_after s p) pieces)
    ∙ sym (append_assoc (wrote s p) (wrote (stage_after s p) joined) (closed (stage_after (stage_after s p) joined)).text)
    ∙ ap₂ (λ t u. t ++ (closed u).text) (sym (wrote_append s p joined)) (sym (after_append s p joined))

-- fed in pieces cut anywhere
pub output_pieces : (pieces : List (List ℕ)) → output (gather (λ p. p) pieces) ≡ fed start pieces
output_pieces pieces = output_fed (gather (λ p. p) pieces) ∙ sym (fed_join start pieces)
