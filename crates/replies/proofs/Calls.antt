-- The replies of the calls: what stands in the buffers after each is what its outcome says.
use mathlib.Core.Bool.{true, false, ◌&&◌, cond}
use mathlib.Core.List.{List, [], ◌∷◌, ◌++◌}
use mathlib.Core.Option.{Option, none, some}
use mathlib.Core.Path.{◌≡◌, refl, sym, ap, ap₂, ◌∙◌}
use Prim.Native.Nat.{ℕ, suc, ◌+◌, ◌*◌, ◌/◌, ◌%◌, ◌<◌, ◌≤◌, min}
use native.Mathlib.Omega.{arith}
use lib.ListN.{length, get_or, take, drop, replicate, length-append, length-replicate, take-append-drop}
use lib.Seq.{sets, take-nil, take_at, length-take-le}
use lib.Dec.{leb, eqb}
use borrow.Author.Tests.{lt-leb, ne_eqb}
use Rattle.kdb.specs.Pool.{good_length, domains}
use Rattle.kdb.specs.Walk.{End, rootless, bad, absent, here, find_walk, list_walk}
use Rattle.kdb.specs.declared.Refusal.TheVariants.{PoolLength, Domains, BufferLength, InfiniteKey, WindowOrder, Unsound, Present, Absent, NoFreePage}
use Rattle.kdb.specs.declared.Refusal.{Refusal}
use Rattle.kdb.specs.Calls.{alone, working, answering, L, Call, format, place, remove, find, list, Buffers, lent, Outcome, refuses, Test, ◌or◌, unless, judge, good_domains, window_of, removing, finding, tests, core, outcome, Promise}
use Rattle.kdb.specs.Frames.{words_of, new_of, place_of, slots, with_words, framed, Frame, new, call, unknown, Reply, answer_text, renewed, answered, obey}
use Rattle.kdb.proofs.Tests.{and_false, cases, cond_case}
use Rattle.kdb.proofs.Lawful.{refusal_keeps}
use Rattle.kdb.proofs.Frames.{format_length, place_work}
use Rattle.std.proofs.Common.{Result, Ok, Err, is_ok}
use Rattle.std.specs.Result.{MatchResult}
use Rattle.opening.specs.Opens.{answer_as, finished_as}
use Rattle.query.specs.declared.Listed.{Listed}
use Rattle.replies.proofs.Replies.{laid, laid_same, take_least}
use Rattle.text.specs.Text.{Written}
use Rattle.text.specs.declared.Sink.{Sink}
use Rattle.text.specs.Puts.{Puts}
use Rattle.replies.specs.declared.Store.{Store}
use Rattle.replies.specs.Served.{Replies, Served}
use Rattle.answers.specs.Spoken.{number_in, values_in, text_of}
use Rattle.answers.proofs.Answers.{answer_said}
use Rattle.replies.specs.Reply.{work_after, remove_of, find_of, list_of, Replied}

-- what an answer's outcome says of its buffers and its number
answer_after : {A : Type 0} (vs : A → List ℕ) (r : Result A Refusal) (b : Buffers) → (answer_as vs r b).after ≡ b
answer_after vs (Ok a) b = refl
answer_after vs (Err r) b = refl

answer_number : {A : Type 0} (vs : A → List ℕ) (r : Result A Refusal) (b : Buffers) → (answer_as vs r b).number ≡ number_in r
answer_number vs (Ok a) b = refl
answer_number vs (Err r) b = refl

-- the reply of a call that kept its promise: its pool stands in the buffer, and its locations were shown
module _ {A : Type 0} (vs : A → List ℕ) (r : Result A Refusal) (s : Store) {o o' : Sink} where
  call_replies : (b : Buffers) (p : Reply) (shown : List ℕ) {s' : Store} → answered (answer_as vs r b) ≡ p → s'.pool.now ≡ sets s.pool.now 0 b.pool → s'.words ≡ length b.pool
      → take (get_or (values_in vs r) 0 0) b.answer ≡ shown → Puts o (text_of (number_in r) (values_in vs r) shown) o' → o'.at ≤ o.at + 531 → s'.pool.ghost_name ≡ s.pool.ghost_name → s'.work.ghost_name ≡ s.work.ghost_name
      → Replies p s o s' o'
  call_replies b p shown {s'} e l n f t room x y =
      let old = sym (ap (λ (c : Buffers). c.pool) (answer_after vs r b)) in
      rw (← e)
      (record {
        replied = record { holds = l ∙ ap (sets s.pool.now 0) old; long = n ∙ ap length old; text = rw (answer_said vs r b shown f) t.written; room = room; within = s'.within };
        same_pool = x;
        same_work = y;
        same_out = t.same;
      })

  -- of one that only reads the pool, and of one that writes a part of its buffer
  pub read_replies : (c : Call) (answer shown : List ℕ) → Promise (take s.words s.pool.now) c (answer_as vs r (answering answer (take s.words s.pool.now))) → take (get_or (values_in vs r) 0 0) answer ≡ shown
      → Puts o (text_of (number_in r) (values_in vs r) shown) o' → o'.at ≤ o.at + 531 → Replies (answered (outcome (take s.words s.pool.now) c)) s o s o'
  read_replies c answer shown q f t room =
      call_replies (answering answer (take s.words s.pool.now)) _ shown (ap answered q.kept) (laid_same s.words s.pool.now) (sym (length-take-le s.words s.pool.now (omega (arith, s.pool_long, s.within)))) f t room refl refl

  pub write_replies : (b : Buffers) (p : Reply) {s' : Store} → answered (answer_as vs r b) ≡ p → b.answer ≡ [] → s'.pool.now ≡ b.pool ++ drop s.words s.pool.now → s'.words ≡ s.words → length b.pool ≡ length (take s.words s.pool.now)
      → Puts o (text_of (number_in r) (values_in vs r) []) o' → o'.at ≤ o.at + 531 → s'.pool.ghost_name ≡ s.pool.ghost_name → s'.work.ghost_name ≡ s.work.ghost_name → Replies p s o s' o'
  write_replies b p e n l w k t room x y =
      call_replies b p [] e (l ∙ laid s.words s.pool.now b.pool k) (w ∙ sym (k ∙ length-take-le s.words s.pool.now (omega (arith, s.pool_long, s.within)))) (ap (take _) n ∙ take-nil _) t room x y

-- a format's frame of 3 bytes
pub new_three : (bytes : List ℕ) (k n : ℕ) → length bytes ≡ 3 → k ≡ get_or bytes 0 0 → n ≡ 256 * get_or bytes 1 0 + get_or bytes 2 0 → new_of bytes ≡ new k n
new_three [] k n h e f = absurd (omega arith)
new_three (x ∷ []) k n h e f = absurd (omega arith)
new_three (x ∷ a ∷ []) k n h e f = absurd (omega arith)
new_three (x ∷ a ∷ b ∷ []) k n h e f = rw (e, f)
new_three (x ∷ a ∷ b ∷ c ∷ bytes) k n h e f = absurd (omega arith)

-- more than 512 pages are refused
big : (k n : ℕ) (v : List ℕ) → length v ≡ L * n → 512 < n → outcome v (format k) ≡ refuses PoolLength (lent v (format k))
unfolding outcome good_length
big k n v e h =
    let m : length v / L ≡ n = rw e (omega arith) in
    let no : good_length L v ≡ false = rw (m, lt-leb n 512 h) (and_false (eqb (length v % L) 0 && leb 2 n)) in
    ap (λ t. unless t PoolLength (lent v (format k)) (judge ((good_domains k or Domains) ∷ []) (lent v (format k)) (core v (format k)))) no

pub new_big : (pool : List ℕ) (words k n : ℕ) {at at' : ℕ} {out out' : List ℕ} → 512 < n → words ≤ length pool → Written out at (text_of 1 [] []) out' at' → at' ≤ at + 531 → words ≤ 16384
    → Replied (obey (take words pool) (new k n)) pool out at pool out' words at'
unfolding text_of
new_big pool words k n h fits t r l =
    rw (big k n (replicate (L * n) 0) (length-replicate (L * n) 0) h)
    (record { holds = laid_same words pool; long = sym (length-take-le words pool fits); text = t; room = r; within = l })

-- what a format of the first words of a buffer makes of the pool
module _ (f : Result (Unit {0}) Refusal) (w pool part : List ℕ) (k n : ℕ) (fits : 32 * n ≤ length pool) (q : Promise (take (32 * n) pool) (format k) (finished_as f (alone part))) where
  new_same : renewed w (finished_as f (alone part)) ≡ obey w (new k n)
  new_same =
      ap (renewed w) q.kept
      ∙ format_length w (take (32 * n) pool) (replicate (L * n) 0) k (length-take-le (32 * n) pool fits ∙ sym (length-replicate (L * n) 0))

  formatted_text : answer_text (finished_as f (alone part)) ≡ text_of (number_in f) (values_in (λ done. []) f) []
  formatted_text = answer_said (λ done. []) f (alone part) [] (take-nil _)

  pub new_done : {at at' : ℕ} {out out' : List ℕ} → is_ok f ≡ true → length part ≡ length (take (32 * n) pool)
      → Written out at (text_of (number_in f) (values_in (λ done. []) f) []) out' at' → at' ≤ at + 531 → n ≤ 512 → Replied (obey w (new k n)) pool out at (part ++ drop (32 * n) pool) out' (32 * n) at'
  new_done z l t r h =
      let done : (finished_as f (alone part)).number ≡ 0 = answer_number _ f (alone part) ∙ ok_number f z in
      let made : part ≡ (renewed w (finished_as f (alone part))).pool =
      sym (ap (λ (b : Buffers). b.pool) (answer_after _ f (alone part))) ∙ ap (λ m. cond (eqb m 0) (finished_as f (alone part)).after.pool w) (sym done) in
      rw (← new_same)
      (record {
        holds = laid (32 * n) pool part l ∙ ap (sets pool 0) made;
        long = sym (l ∙ length-take-le (32 * n) pool fits) ∙ ap length made;
        text = rw formatted_text t;
        room = r;
        within = omega arith;
      })
    where
      ok_number : (g : Result (Unit {0}) Refusal) → is_ok g ≡ true → number_in g ≡ 0
      ok_number (Ok a) e = refl
      ok_number (Err r) e = cc

  pub new_refused : (words : ℕ) {at at' : ℕ} {out out' : List ℕ} → is_ok f ≡ false
      → Written out at (text_of (number_in f) (values_in (λ done. []) f) []) out' at' → at' ≤ at + 531 → words ≤ 16384 → words ≤ length pool → take words pool ≡ w
      → Replied (obey w (new k n)) pool out at (part ++ drop (32 * n) pool) out' words at'
  new_refused words z t r h m e =
      let no : (finished_as f (alone part)).number ≡ 0 → ⊥ = λ d. err_number f z (sym (answer_number _ f (alone part)) ∙ d) in
      let old : part ≡ take (32 * n) pool =
      sym (ap (λ (b : Buffers). b.pool) (answer_after _ f (alone part))) ∙ ap (λ (o : Outcome). o.after.pool) q.kept
      ∙ refusal_keeps (take (32 * n) pool) (format k) (λ d. no (ap (λ (o : Outcome). o.number) q.kept ∙ d)) in
      let whole : part ++ drop (32 * n) pool ≡ pool = ap (λ l. l ++ drop (32 * n) pool) old ∙ take-append-drop (32 * n) pool in
      let same : take words pool ≡ (renewed w (finished_as f (alone part))).pool =
      e ∙ ap (λ t. cond t (finished_as f (alone part)).after.pool w) (sym (ne_eqb (finished_as f (alone part)).number 0 no)) in
      rw (← new_same)
      (record {
        holds = whole ∙ laid_same words pool ∙ ap (sets pool 0) same;
        long = sym (length-take-le words pool m) ∙ ap length same;
        text = rw formatted_text t;
        room = r;
        within = h;
      })
    where
      err_number : (g : Result (Unit {0}) Refusal) → is_ok g ≡ false → number_in g ≡ 0 → ⊥
      err_number (Ok a) e d = cc
      err_number (Err PoolLength) e d = omega arith
      err_number (Err Domains) e d = omega arith
      err_number (Err BufferLength) e d = omega arith
      err_number (Err InfiniteKey) e d = omega arith
      err_number (Err WindowOrder) e d = omega arith
      err_number (Err Unsound) e d = omega arith
      err_number (Err Present) e d = omega arith
      err_number (Err Absent) e d = omega arith
      err_number (Err NoFreePage) e d = omega arith

-- a format leaves the work buffer
pub format_served : (k n : ℕ) (s : Store) {s' : Store} {o o' : Sink} {r : Reply} {text : List ℕ} → Replied r s.pool.now o.out.now o.at s'.pool.now o'.out.now s'.words o'.at → Puts o text o'
    → s'.pool.ghost_name ≡ s.pool.ghost_name → s'.work ≡ s.work → Served r (new k n) s o s' o'
format_served k n s q t x w =
    record { reply = record { replied = q; same_pool = x; same_work = ap (λ b. b.ghost_name) w; same_out = t.same }; work = ap (λ b. b.now) w }

-- the location is the last word, the point those before it
last_at : (p : List ℕ) (l : ℕ) → get_or (p ++ (l ∷ [])) (length p) 0 ≡ l
last_at [] l = refl
last_at (x ∷ p) l = last_at p l

pub place_split : (ws p : List ℕ) (l : ℕ) → ws ≡ p ++ (l ∷ []) → place_of ws ≡ call (λ work. place work p l)
place_split ws p l e = ap place_of e ∙ go p
  where
    go : (q : List ℕ) → place_of (q ++ (l ∷ [])) ≡ call (λ work. place work q l)
    go [] = refl
    go (x ∷ q) =
        let n : length (q ++ (l ∷ [])) ≡ suc (length q) = length-append q (l ∷ []) ∙ omega arith in
        ap (λ m. call (λ work. place work (take m (x ∷ q ++ (l ∷ []))) (get_or (x ∷ q ++ (l ∷ [])) m 0))) n
        ∙ ap₂ (λ t y. call (λ work. place work (x ∷ t) y)) (take_at q (l ∷ []) (length q) refl) (last_at q l)

-- any work buffer of the pool's length gives one reply
pub place_same : (w p work : List ℕ) (l : ℕ) → length work ≡ length w → answered (outcome w (place work p l)) ≡ obey w (call (λ v. place v p l))
place_same w p work l e = ap answered (place_work w p l work (replicate (length w) 0) (e ∙ sym (length-replicate (length w) 0)))

pub place_none : (ws : List ℕ) → length ws ≡ 0 → place_of ws ≡ unknown
place_none [] h = refl
place_none (x ∷ ws) h = absurd (omega arith)

-- the locations that fit the slots
pub shown_locations : (n : ℕ) (full : List ℕ) → length full ≡ 64 → take n full ≡ take (min n 64) full
shown_locations n full e = take_least n full ∙ ap (λ m. take (min n m) full) e

-- those of a list that is done; none after a refusal
pub shown_values : (n : ℕ) (full : List ℕ) → length full ≡ 64 → (r : Result Listed Refusal) → MatchResult r (λ (l : Listed). n ≡ min l.total 64) (λ (e : Refusal). n ≡ 0)
    → take (get_or (values_in (λ (l : Listed). l.total ∷ l.reads ∷ []) r) 0 0) full ≡ take n full
shown_values n full h (Ok l) e = rw e (shown_locations l.total full h)
shown_values n full h (Err x) e = rw e

-- place leaves in the work buffer what its outcome says; no other frame has one
pub place_worked : (f : Result (Unit {0}) Refusal) (words : ℕ) (pool part work after p : List ℕ) (l : ℕ) → Promise (take words pool) (place (take words work) p l) (finished_as f (working after part)) → length after ≡ length (take words work)
    → words ≤ length pool → after ++ drop words work ≡ work_after (take words pool) work (call (λ v. place v p l))
place_worked f words pool part work after p l q k fits =
    laid words work after k
    ∙ ap (sets work 0) (sym (ap (λ (b : Buffers). b.work) (answer_after _ f (working after part))) ∙ ap (λ (o : Outcome). o.after.work) q.kept)
    ∙ ap (λ n. sets work 0 (outcome (take words pool) (place (take n work) p l)).after.work) (sym (length-take-le words pool fits))

judge_work : (ts : List Test) (b : Buffers) (o : Outcome) → b.work ≡ [] → o.after.work ≡ [] → (judge ts b o).after.work ≡ []
judge_work [] b o h k = k
judge_work (t ∷ ts) b o h k = cases (λ s. (unless s t.refusal b (judge ts b o)).after.work ≡ []) t.holds (λ _. judge_work ts b o h k) (λ _. h)

removing_work : (e : End) (w p : List ℕ) → (removing e w p).after.work ≡ []
removing_work rootless w p = refl
removing_work bad w p = refl
removing_work (absent j) w p = refl
removing_work (here s) w p = refl

finding_work : (read : List ℕ) (e : End) (w : List ℕ) → (finding (record { read = read; end = e }) (alone w)).after.work ≡ []
finding_work read rootless w = refl
finding_work read bad w = refl
finding_work read (absent j) w = refl
finding_work read (here s) w = refl

-- of the words of a frame, where its call has no work buffer
worked : (g : List ℕ → Call) (w work : List ℕ) → ((ws : List ℕ) → (outcome w (g ws)).after.work ≡ []) → (o : Option (List ℕ)) → work ≡ work_after w work (with_words (λ ws. call (λ v. g ws)) o)
worked g w work h none = refl
worked g w work h (some ws) = ap (sets work 0) (sym (h ws))

remove_worked : (w work : List ℕ) (o : Option (List ℕ)) → work ≡ work_after w work (with_words remove_of o)
unfolding outcome
remove_worked w work =
    worked remove w work (λ p. judge_work (tests w (remove p)) (lent w (remove p)) (core w (remove p)) refl (removing_work (find_walk L w p).end w p))

find_worked : (w work : List ℕ) (o : Option (List ℕ)) → work ≡ work_after w work (with_words find_of o)
unfolding outcome
find_worked w work =
    worked find w work (λ p. judge_work (tests w (find p)) (lent w (find p)) (core w (find p)) refl (finding_work (find_walk L w p).read (find_walk L w p).end w))

list_worked : (w work : List ℕ) (o : Option (List ℕ)) → work ≡ work_after w work (with_words list_of o)
unfolding outcome
list_worked w work =
    worked (λ v. list v slots) w work
    (λ v. judge_work (tests w (list v slots)) (lent w (list v slots)) (core w (list v slots)) refl
    (cond_case (λ (o : Outcome). o.after.work ≡ []) (list_walk L w (window_of (domains w) v)).bad _ _ refl refl))

new_worked : (w work bytes : List ℕ) → work ≡ work_after w work (new_of bytes)
new_worked w work [] = refl
new_worked w work (k ∷ []) = refl
new_worked w work (k ∷ a ∷ []) = refl
new_worked w work (k ∷ a ∷ b ∷ []) = refl
new_worked w work (k ∷ a ∷ b ∷ c ∷ bytes) = refl

-- a first byte other than 1 leaves the work buffer
pub unplaced : (w work bytes rest : List ℕ) (k : ℕ) → bytes ≡ k ∷ rest → (k ≡ 1 → ⊥) → work ≡ work_after w work (framed (some bytes))
unplaced w work bytes rest k e h =
    let P : Frame → Type 0 = λ f. work ≡ work_after w work f in
    rw e
    (cond_case P (eqb k 0) _ _ (new_worked w work rest)
    (rw (ne_eqb k 1 h) (cond_case P (eqb k 2) _ _ (remove_worked w work (words_of rest))
    (cond_case P (eqb k 3) _ _ (find_worked w work (words_of rest))
    (cond_case P (eqb k 4) _ _ (list_worked w work (words_of rest)) refl)))))
