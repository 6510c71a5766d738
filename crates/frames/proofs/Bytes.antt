-- One byte in the buffers, and the loop that takes a piece of the input.
use mathlib.Core.List.{List, [], ◌∷◌, ◌++◌, append-nil}
use mathlib.Core.Option.{Option, none, some}
use mathlib.Core.Path.{◌≡◌, refl, sym, ap, ◌∙◌}
use Prim.Native.Nat.{ℕ, ◌+◌, ◌<◌, ◌≤◌, min}
use native.Mathlib.Omega.{arith}
use native.Mathlib.Numerals.{add-one}
use lib.Dec.{leb, ltb, leb→le, nleb→lt, ltb→lt, nltb→le}
use lib.ListN.{length, get_or, take, drop, set, take-append-drop}
use lib.Seq.{sets, take-suc, take-suc-set, length-take-le}
use borrow.Author.Tests.{le-leb, lt-leb, lt-ltb, le-ltb, ne_eqb}
use Rattle.kdb.specs.Frames.{Reply}
use Rattle.kdb.proofs.Tests.{bool}
use Rattle.replies.specs.Reply.{work_after, Replied}
use Rattle.frames.specs.Stream.{Stage, longer, closed, asked, next, said, stage_after, wrote}
use Rattle.text.specs.Text.{Written}
use Rattle.frames.specs.State.{Store, counted, store_of, stage_of, stored, kept, Stepped, Fed}
use Rattle.frames.proofs.Stream.{after_append, wrote_append}
use Rattle.text.proofs.Write.{written_none, written_then}
use Rattle.replies.proofs.Replies.{stands}

counted_some : (m n : ℕ) (l : List ℕ) → n ≤ m → counted m n l ≡ some (take n l)
counted_some m n l h = rw (le-leb n m h)

counted_none : (m n : ℕ) (l : List ℕ) → m < n → counted m n l ≡ none
counted_none m n l h = rw (lt-leb n m h)

-- a character is kept, or one too many is not
push_more : (line : List ℕ) (d b : ℕ) → length line ≡ 128 → d < 128 → counted 128 (d + 1) (set line d b) ≡ longer (counted 128 d line) b
push_more line d b e h =
    let n : length (take d line) ≡ d = length-take-le d line (omega arith) in
    let grown : take (d + 1) (set line d b) ≡ take d line ++ (b ∷ []) = rw add-one (take-suc-set line d b (omega arith)) in
    rw (counted_some 128 d line (omega arith), lt-ltb (length (take d line)) 128 (omega arith), counted_some 128 (d + 1) (set line d b) (omega arith), grown)

push_full : (line : List ℕ) (d b : ℕ) → length line ≡ 128 → 128 ≤ d → none ≡ longer (counted 128 d line) b
push_full line d b e h =
    bool (leb d 128)
    (λ t. let q : d ≡ 128 = omega (arith, leb→le d 128 t) in
    let n : length (take d line) ≡ d = length-take-le d line (omega arith) in
    rw (counted_some 128 d line (omega arith), le-ltb (length (take d line)) 128 (omega arith)))
    (λ t. rw (counted_none 128 d line (nleb→lt d 128 t)))

pushed : (line : List ℕ) (d b : ℕ) → length line ≡ 128 → counted 128 (min d 128 + 1) (set line d b) ≡ longer (counted 128 d line) b
pushed line d b e =
    bool (ltb d 128)
    (λ t. let q : min d 128 ≡ d = omega (arith, ltb→lt d 128 t) in rw q (push_more line d b e (ltb→lt d 128 t)))
    (λ t. counted_none 128 (min d 128 + 1) (set line d b) (omega (arith, nltb→le d 128 t)) ∙ push_full line d b e (nltb→le d 128 t))

-- a line feed, and another byte
pub step_feed : (m : Store) {b words at at' : ℕ} {pool work out out' : List ℕ} → b ≡ 10 → length m.pool ≡ 16384 → Replied (closed (stage_of m)) m.pool out at pool out' words at'
    → work ≡ work_after (stage_of m).pool m.work (asked (stage_of m).line) → Stepped m b out at (store_of words 0 m.line pool work) out' at'
unfolding next said stored
step_feed m e h r k =
    rw e
    (record {
      store = rw (r.holds, k, r.long);
      stage = ap (λ (p : List ℕ). record { pool = p; line = some [] }) (stands r h);
      text = r.text;
      room = r.room;
      within = r.within;
    })

pub step_other : (m : Store) (b d : ℕ) (line out : List ℕ) (at : ℕ) → (b ≡ 10 → ⊥) → length m.line ≡ 128 → m.words ≤ 16384 → line ≡ set m.line m.digits b → d ≡ min m.digits 128 + 1
    → Stepped m b out at (store_of m.words d line m.pool m.work) out at
unfolding next said stored
step_other m b d line out at h k w e f =
    let s = stage_of m in
    let on : next s b ≡ record { pool = s.pool; line = longer s.line b } = rw (ne_eqb b 10 h) in
    let nothing : said s b ≡ [] = rw (ne_eqb b 10 h) in
    record {
      store = rw (ne_eqb b 10 h, e, f);
      stage = rw (e, f) (ap (λ (l : Option (List ℕ)). record { pool = s.pool; line = l }) (pushed m.line m.digits b k) ∙ sym on);
      text = rw nothing (written_none out at);
      room = omega arith;
      within = w;
    }

kept_append : (m : Store) (a b : List ℕ) → kept m (a ++ b) ≡ kept (kept m a) b
kept_append m [] b = refl
kept_append m (x ∷ a) b = kept_append (stored m x) a b

-- i bytes of a piece are taken
pub record Feeding (m : Store) (piece out : List ℕ) (m' : Store) (out' : List ℕ) (taken written : ℕ) : Type 0 where
  pub store : m' ≡ kept m (take taken piece)
  pub stage : stage_of m' ≡ stage_after (stage_of m) (take taken piece)
  pub text : Written out 0 (wrote (stage_of m) (take taken piece)) out' written
  pub fits : written ≤ length out
  pub within : taken ≤ length piece
  pub goes : (t : ℕ) → t < taken → length (wrote (stage_of m) (take t piece)) + 531 ≤ length out

module _ {m m' m'' : Store} {piece out out' out'' : List ℕ} {i at at' : ℕ} where
  pub feeding_next : (b : ℕ) → Feeding m piece out m' out' i at → i < length piece → at + 531 ≤ length out → b ≡ get_or piece i 0 → Stepped m' b out' at m'' out'' at'
      → Feeding m piece out m'' out'' (i + 1) at'
  feeding_next b f h k e t =
      let s = stage_of m in
      let taken = take i piece in
      let more : take (i + 1) piece ≡ taken ++ (b ∷ []) = rw (add-one, e) (take-suc piece i 0 h) in
      let text : Written out 0 (wrote s taken ++ (said (stage_after s taken) b ++ [])) out'' at' = rw (append-nil, ← f.stage) (written_then f.text t.text) in
      record {
        store = t.store ∙ ap (λ (x : Store). stored x b) f.store ∙ sym (ap (kept m) more ∙ kept_append m taken (b ∷ []));
        stage = t.stage ∙ ap (λ (x : Stage). next x b) f.stage ∙ sym (ap (stage_after s) more ∙ after_append s taken (b ∷ []));
        text = rw (more, wrote_append s taken (b ∷ [])) text;
        fits = omega (arith, t.room);
        within = omega arith;
        goes = λ u l. go u f.goes f.text.follows k (omega arith);
      }
    where
      go : (u : ℕ) → ((v : ℕ) → v < i → length (wrote (stage_of m) (take v piece)) + 531 ≤ length out) → at ≡ 0 + length (wrote (stage_of m) (take i piece)) → at + 531 ≤ length out → u ≤ i
          → length (wrote (stage_of m) (take u piece)) + 531 ≤ length out
      go u g e k l = bool (ltb u i) (λ t. g u (ltb→lt u i t)) (λ t. let q : u ≡ i = omega (arith, nltb→le u i t) in rw q (omega arith))

-- all is taken, or there is no room for another answer
pub feeding_end : {m m' : Store} {piece out out' : List ℕ} {i at : ℕ} → Feeding m piece out m' out' i at → (i < length piece → length out < at + 531) → m'.words ≤ 16384 → Fed m piece out m' out' i at
feeding_end f h w =
    record { store = f.store; stage = f.stage; text = f.text; fits = f.fits; within = f.within; goes = f.goes; stops = h; bounded = w }

-- a piece is fed part by part: what is left of it gives what the whole gives
pub fed_rest : {m m' : Store} {piece out out' : List ℕ} {taken written : ℕ} → Fed m piece out m' out' taken written → kept m' (drop taken piece) ≡ kept m piece
fed_rest {m} {m'} {piece} {taken = taken} f =
    ap (λ (x : Store). kept x (drop taken piece)) f.store ∙ sym (kept_append m (take taken piece) (drop taken piece)) ∙ ap (kept m) (take-append-drop taken piece)

-- two outcomes that meet the promise of a line are equal, and so are two that meet feed's
pub replied_same : {r : Reply} {pool out p q o u : List ℕ} {at v w i j : ℕ} → Replied r pool out at p o v i → Replied r pool out at q u w j → (p ≡ q) × (o ≡ u) × (v ≡ w) × (i ≡ j)
replied_same a b =
    (a.holds ∙ sym b.holds, a.text.stands ∙ sym b.text.stands, a.long ∙ sym b.long, a.text.follows ∙ sym b.text.follows)

module _ {m : Store} {piece out : List ℕ} where
  less : {m' m'' : Store} {o u : List ℕ} {s t i j : ℕ} → Fed m piece out m' o s i → Fed m piece out m'' u t j → s < t → ⊥
  less {s = s} a b h = omega (arith, a.stops (omega (arith, b.within)), b.goes s h, a.text.follows)

  pub fed_same : {m' m'' : Store} {o u : List ℕ} {s t i j : ℕ} → Fed m piece out m' o s i → Fed m piece out m'' u t j → (m' ≡ m'') × (o ≡ u) × (s ≡ t) × (i ≡ j)
  fed_same {m'} {m''} {o} {u} {s} {t} {i} {j} a b =
      let e : s ≡ t = bool (ltb s t) (λ h. absurd (less a b (ltb→lt s t h))) (λ h. bool (ltb t s) (λ k. absurd (less b a (ltb→lt t s k))) (λ k. omega (arith, nltb→le s t h, nltb→le t s k))) in
      let f = ap (λ n. take n piece) e in
      (a.store ∙ ap (kept m) f ∙ sym b.store, a.text.stands ∙ ap (λ l. sets out 0 (wrote (stage_of m) l)) f ∙ sym b.text.stands, e, a.text.follows ∙ ap (λ l. 0 + length (wrote (stage_of m) l)) f ∙ sym b.text.follows)
