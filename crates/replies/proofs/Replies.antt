-- A frame's bytes by their first byte, and the replies that stand in the buffers.
use mathlib.Core.List.{List, [], ◌∷◌, ◌++◌}
use mathlib.Core.Option.{Option, none, some}
use mathlib.Core.Path.{◌≡◌, refl, sym, ap, ap₂, ◌∙◌}
use Prim.Native.Nat.{ℕ, ◌+◌, ◌≤◌, min}
use native.Mathlib.Omega.{arith}
use lib.Dec.{leb, eqb, leb→le, nleb→lt}
use lib.ListN.{length, take, drop, take-append-drop}
use lib.Seq.{sets, take_all, take_at, take-length, length-take-le}
use borrow.Author.Tests.{ne_eqb}
use Rattle.kdb.specs.Frames.{Frame, unknown, with_words, words_of, frame_of, framed, Reply, refusal}
use Rattle.kdb.proofs.Tests.{bool, cond_case}
use Rattle.kdb.proofs.Stores.{sets_front}
use Rattle.text.specs.declared.Sink.{Sink}
use Rattle.text.specs.Puts.{Puts}
use Rattle.replies.specs.declared.Store.{Store}
use Rattle.replies.specs.Reply.{Replied}
use Rattle.replies.specs.Served.{Served}

-- words laid over the front of a buffer
pub laid : (n : ℕ) (buffer ws : List ℕ) → length ws ≡ length (take n buffer) → ws ++ drop n buffer ≡ sets buffer 0 ws
laid n buffer ws e = sym (ap (λ l. sets l 0 ws) (sym (take-append-drop n buffer)) ∙ sets_front (take n buffer) (drop n buffer) ws e)

pub laid_same : (n : ℕ) (buffer : List ℕ) → buffer ≡ sets buffer 0 (take n buffer)
laid_same n buffer = sym (take-append-drop n buffer) ∙ laid n buffer (take n buffer) refl

pub laid_front : (buffer ws : List ℕ) → length ws ≤ length buffer → take (length ws) (sets buffer 0 ws) ≡ ws
laid_front buffer ws h =
    ap (take (length ws)) (sym (laid (length ws) buffer ws (sym (length-take-le (length ws) buffer h)))) ∙ take_at ws (drop (length ws) buffer) (length ws) refl

-- the pool that stands in its buffer is the reply's
pub stands : {r : Reply} {pool pool' out out' : List ℕ} {words at at' : ℕ} → Replied r pool out at pool' out' words at' → length pool ≡ 16384 → take words pool' ≡ r.pool
stands {r} {pool} q h = ap₂ take q.long q.holds ∙ laid_front pool r.pool (omega (arith, q.long, q.within))

-- a text is put, and nothing else is changed
pub untouched : (s : Store) {o o' : Sink} {text : List ℕ} → Puts o text o' → o'.at ≤ o.at + 531 → Served (record { pool = take s.words s.pool.now; text = text }) unknown s o s o'
untouched s p h =
    record {
      reply = record {
        replied = record { holds = laid_same s.words s.pool.now; long = sym (length-take-le s.words s.pool.now (omega (arith, s.pool_long, s.within))); text = p.written; room = h; within = s.within };
        same_pool = refl;
        same_work = refl;
        same_out = p.same;
      };
      work = refl;
    }

-- FF, and nothing is changed
pub unframed : (s : Store) {o o' : Sink} → Puts o (70 ∷ 70 ∷ 10 ∷ []) o' → Served (refusal (take s.words s.pool.now)) unknown s o s o'
unframed s p = untouched s p (omega (arith, p.written.follows))

pub frame_empty : (bytes : List ℕ) → length bytes ≡ 0 → framed (some bytes) ≡ unknown
frame_empty [] h = refl
frame_empty (b ∷ bytes) h = absurd (omega arith)

-- the first byte is k, and the words behind it are those that were read
pub frame_words : (bytes rest : List ℕ) (k : ℕ) {ws : Option (List ℕ)} (f : List ℕ → Frame) → bytes ≡ k ∷ rest → ws ≡ words_of rest
    → ((bs : List ℕ) → frame_of k bs ≡ with_words f (words_of bs)) → framed (some bytes) ≡ with_words f ws
frame_words bytes rest k f e q a = ap (λ (l : List ℕ). framed (some l)) e ∙ a rest ∙ ap (with_words f) (sym q)

-- bytes that are no words are no frame, where the first byte is not 0
pub frame_bad : (bytes rest : List ℕ) (k : ℕ) → bytes ≡ k ∷ rest → (k ≡ 0 → ⊥) → none ≡ words_of rest → framed (some bytes) ≡ unknown
frame_bad bytes rest k e h q =
    let P : Frame → Type 0 = λ f. f ≡ unknown in
    ap (λ (l : List ℕ). framed (some l)) e
    ∙ rw (ne_eqb k 0 h, ← q) (cond_case P (eqb k 1) _ _ refl (cond_case P (eqb k 2) _ _ refl (cond_case P (eqb k 3) _ _ refl (cond_case P (eqb k 4) _ _ refl refl))))

-- a first byte of 5 or more
pub frame_other : (bytes rest : List ℕ) (k : ℕ) → bytes ≡ k ∷ rest → 5 ≤ k → framed (some bytes) ≡ unknown
frame_other bytes rest k e h =
    ap (λ (l : List ℕ). framed (some l)) e
    ∙ simp (ne_eqb k 0 (λ e. omega arith), ne_eqb k 1 (λ e. omega arith), ne_eqb k 2 (λ e. omega arith), ne_eqb k 3 (λ e. omega arith), ne_eqb k 4 (λ e. omega arith))

-- more than all is all
pub take_least : (n : ℕ) (l : List ℕ) → take n l ≡ take (min n (length l)) l
take_least n l =
    bool (leb n (length l))
    (λ t. let e : min n (length l) ≡ n = omega (arith, leb→le n (length l) t) in rw e)
    (λ t. let e : min n (length l) ≡ length l = omega (arith, nleb→lt n (length l) t) in rw e (take_all n l (omega (arith, nleb→lt n (length l) t)) ∙ sym (take-length l)))
