-- Demand 2: after any calls on a sound pool the pool is sound, its records are the live ones, and list and find answer by them; from an
-- accepted format in particular. Demand 3: what a walk reads.
use mathlib.Core.List.{List, [], ◌∷◌, ◌++◌, map}
use mathlib.Core.Path.{◌≡◌, refl, sym, ap, ◌∙◌, subst}
use Prim.Native.Nat.{ℕ, zero, suc, ◌-◌, ◌≤◌}
use native.Mathlib.Omega.{arith}
use lib.Dec.{T, eqb, eqb→eq}
use lib.ListN.{length, take, get_or}
use mathlib.Core.Logic.{◌↔◌}
use Rattle.kdb.specs.Lists.{tally, many}
use Rattle.kdb.specs.Box.{Key}
use Rattle.kdb.specs.Tree.{Rec, records_of}
use Rattle.kdb.specs.Pool.{domains, levels_at, pages_in, good_length, good_header, Sound, own_region}
use Rattle.kdb.specs.Print.{state_of}
use Rattle.kdb.specs.Walk.{bad, Search, find_walk, list_walk}
use Rattle.kdb.specs.Bad.{up_to_bad, find_trail, list_trail}
use Rattle.kdb.specs.Calls.{L, Call, format, find, list, Outcome, finite, lent, finding, outcome, window_of, walk_of, begins, Promise}
use Rattle.kdb.specs.History.{answer_of, unchanged, makes, changed, live, Keeps, over, next}
use Rattle.kdb.specs.Demands.{SameRecords, keyed, ListsExactly, FindsExactly, ByTheSteps, Built, unbuilt, onto, Demand2, good_window, Shares, Demand3, Bounded}
use Rattle.kdb.proofs.Walk.{walk_pages, walk_silent, walk_find, walk_list, list_returns, find_returns}
use Rattle.kdb.proofs.Tests.{and_l, and_r}
use Rattle.kdb.proofs.Stands.{Stands}
use Rattle.kdb.proofs.Views.{finite_whole}
use Rattle.kdb.proofs.Pool.{length_iff, Sound_stands}
use Rattle.kdb.proofs.Length.{big, four}
use Rattle.kdb.proofs.Remove.{key_once}
use Rattle.kdb.proofs.Reading.{list_reads, list_once, list_count, find_reads}
use Rattle.kdb.proofs.Windows.{good_meets, point_good, point_reads, point_path}
use Rattle.kdb.proofs.Bad.{find_levels, find_trail_lem, list_bound}
use Rattle.kdb.proofs.Calls.{done, goes_on}
use Rattle.kdb.proofs.Effects.{moves, emptied_after, does_after}
use Rattle.kdb.proofs.Lawful.{refusal_keeps, done_does, walk_bound}
use Rattle.kdb.proofs.History.{changed_same}
use Rattle.kdb.proofs.Answers.{list_begins, find_begins, list_answers, find_finds}

-- what one call makes of a sound pool
pub record After (w : List ℕ) (c : Call) : Type 0 where
  pub sound : Sound L (outcome w c).after.pool
  pub same : SameRecords (records_of (state_of L (outcome w c).after.pool)) (changed (outcome w c).number c (records_of (state_of L w)))

-- one call on a sound pool
pub call_after : (w : List ℕ) (c : Call) → Sound L w → After w c
call_after w c s = go (outcome w c).number refl
  where
    go : (n : ℕ) → (outcome w c).number ≡ n → After w c
    go zero e = let d = does_after w (makes c) (outcome w c).after.pool s (done_does w c e) in record { sound = d.0; same = rw e d.1 }
    go (suc n) e =
        let d = does_after w unchanged (outcome w c).after.pool s (refusal_keeps w c (λ z. omega arith)) in record { sound = d.0; same = rw e d.1 }

-- the live records are the pool's, and the pool stays sound, over any calls that keep their promises; rs holds the pool's records by counts
keeps_after : {w v : List ℕ} {cs : List Call} {os : List Outcome} → Keeps w cs os v → (rs : List Rec) → Sound L w → SameRecords (records_of (state_of L w)) rs
    → Sound L v × SameRecords (records_of (state_of L v)) (live rs cs (map answer_of os))
keeps_after over rs s e = (s, e)
keeps_after (next {w} {v} {c} {cs} {o} {os} p k) rs s e =
    let a = call_after w c s in
    let once : (p : Key) → tally (keyed p) (records_of (state_of L w)) ≤ 1 = λ p. key_once L (domains w) (pages_in L w) (state_of L w) p (Sound_stands L w s big).formed in
    let r = subst (λ x. Sound L x.after.pool × SameRecords (records_of (state_of L x.after.pool)) (changed x.number c rs)) (sym p.kept)
    (a.sound, λ g. a.same g ∙ changed_same (outcome w c).number c (records_of (state_of L w)) rs once e g) in
    keeps_after k (changed o.number c rs) r.0 r.1

-- the steps are Robinson's, for any outcome that keeps its promise
by_the_steps_of : (w : List ℕ) (c : Call) → ByTheSteps w c (outcome w c)
by_the_steps_of w c = record { done = λ z. moves w (makes c) (outcome w c).after.pool (done_does w c z); refused = refusal_keeps w c }

pub by_the_steps : (w : List ℕ) (c : Call) (o : Outcome) → Promise w c o → ByTheSteps w c o
by_the_steps w c o p = subst (ByTheSteps w c) (sym p.kept) (by_the_steps_of w c)

built_of : {w v : List ℕ} {cs : List Call} {os : List Outcome} → Keeps w cs os v → Built w cs os v
built_of over = unbuilt
built_of (next {w} {v} {c} {cs} {o} {os} p k) = onto (by_the_steps w c o p) (built_of k)

-- a pool that calls have built, sound and with the records rs, by counts
demand2_of : (w : List ℕ) (cs : List Call) (os : List Outcome) (v : List ℕ) (rs : List Rec) → Built w cs os v → Sound L v × SameRecords (records_of (state_of L v)) rs → Demand2 w cs os v rs
demand2_of w cs os v rs b r =
    let once : (p : Key) → tally (keyed p) rs ≤ 1 =
    λ p. omega (arith, r.1 (keyed p), key_once L (domains v) (pages_in L v) (state_of L v) p (Sound_stands L v r.0 big).formed) in
    record {
      built = b;
      sound = r.0;
      contents = r.1;
      once = once;
      lists = λ win slots o h p. subst (ListsExactly v rs win slots) (sym p.kept) (list_answers v r.0 rs r.1 win slots h);
      finds = λ p o h q. subst (FindsExactly rs p) (sym q.kept) (find_finds v r.0 rs r.1 once p h);
    }

-- Demand 2, from any sound pool, of any code whose calls keep their promises
pub demand2 : (w v : List ℕ) (cs : List Call) (os : List Outcome) → Sound L w → Keeps w cs os v → Demand2 w cs os v (live (records_of (state_of L w)) cs (map answer_of os))
demand2 w v cs os s k =
    demand2_of w cs os v (live (records_of (state_of L w)) cs (map answer_of os)) (built_of k) (keeps_after k (records_of (state_of L w)) s (λ g. refl))

-- from an accepted format, whatever the pool held before it
pub demand2_format : (w v : List ℕ) (k : ℕ) (o : Outcome) (cs : List Call) (os : List Outcome) → Promise w (format k) o → o.number ≡ 0 → Keeps o.after.pool cs os v
    → Demand2 w (format k ∷ cs) (o ∷ os) v (live [] cs (map answer_of os))
demand2_format w v k o cs os p z q =
    let f = emptied_after w k (outcome w (format k)).after.pool (done_does w (format k) (ap (λ x. x.number) (sym p.kept) ∙ z)) in
    let r = subst (λ x. Sound L x.after.pool × SameRecords (records_of (state_of L x.after.pool)) []) (sym p.kept) f in
    demand2_of w (format k ∷ cs) (o ∷ os) v (live [] cs (map answer_of os)) (built_of (next p q)) (keeps_after q [] r.0 r.1)

-- Demand 3, on a sound pool
module _ (w : List ℕ) (s : Sound L w) where
  st : Stands L w (state_of L w)
  st = Sound_stands L w s big

  walked_list : (v slots : List ℕ) → T (good_window (domains w) v) → walk_of w (list v slots) ≡ (list_walk L w (window_of (domains w) v)).read
  walked_list v slots h = walk_list w v slots (list_begins w s v slots h)

  returned : (v slots : List ℕ) → T (good_window (domains w) v) → get_or (outcome w (list v slots)).values 1 0 ≡ length (walk_of w (list v slots))
  returned v slots h = ap (λ l. get_or l 1 0) (list_returns w v slots (list_answers w s (records_of (state_of L w)) (λ g. refl) v slots h).done).1

  pub demand3 : Demand3 w
  demand3 =
      record {
        reads = λ v slots h j.
            subst (λ l. (1 ≤ many j l) ↔ Shares (window_of (domains w) v) (own_region L w j)) (sym (walked_list v slots h))
            (list_reads L w (window_of (domains w) v) (state_of L w) st (good_meets (domains w) v h) j);
        once = λ v slots h j. subst (λ l. many j l ≤ 1) (sym (walked_list v slots h)) (list_once L w (window_of (domains w) v) (state_of L w) st j);
        count = λ v slots h.
            returned v slots h ∙ (ap length (walked_list v slots h) ∙ list_count L w (window_of (domains w) v) (state_of L w) st (good_meets (domains w) v h));
        point = λ p slots h.
            let k = domains w in
            let e = eqb→eq (length p) k (and_l (eqb (length p) k) _ h) in
            returned (p ++ p) slots (point_good k p h) ∙ (ap length (walked_list (p ++ p) slots (point_good k p h))
            ∙ point_reads L w p (state_of L w) st e (and_r (eqb (length p) k) _ h));
        levelled = λ p z.
            let d = done w (find p) z in
            let t3 = and_r (good_header L w) _ (and_r (good_length L w) _ d.0) in
            let e = eqb→eq (length p) (domains w) (and_l (eqb (length p) (domains w)) _ t3) in
            let f = and_l (finite p) _ (and_r (eqb (length p) (domains w)) _ t3) in
            ap (λ l. get_or l 1 0) (find_returns w p z).2 ∙ (ap length (walk_find w p d.0)
            ∙ find_reads L w p (state_of L w) st (finite_whole (domains w) p e f));
        path = λ p slots h.
            let k = domains w in
            let e = eqb→eq (length p) k (and_l (eqb (length p) k) _ h) in
            walk_find w p (find_begins w s p h)
            ∙ (point_path L w p (state_of L w) st e (and_r (eqb (length p) k) _ h) ∙ sym (walked_list (p ++ p) slots (point_good k p h)));
      }

-- Demand 3, on any words
find_levelled : (w p : List ℕ) → T (begins w (find p)) → ((outcome w (find p)).number ≡ 6 → ⊥) → length (walk_of w (find p)) ≡ levels_at w
find_levelled w p h n =
    ap length (walk_find w p h)
    ∙ find_levels L w four p (λ e. n (ap (λ o. o.number) (goes_on w (find p) h) ∙ go (find_walk L w p) e))
  where
    go : (g : Search) → g.end ≡ bad → (finding g (lent w (find p))).number ≡ 6
    go g e = rw e

-- a call that begins has a good length
pub long_one : (w : List ℕ) → T (good_length L w) → 1 ≤ pages_in L w
long_one w t = omega (arith, (length_iff L w).0 t)

list_goes : (w v slots : List ℕ) → T (begins w (list v slots)) → walk_of w (list v slots) ≡ take (pages_in L w - 1) (up_to_bad L w (list_trail L w (window_of (domains w) v)))
list_goes w v slots h =
    walk_list w v slots h
    ∙ (list_bound L w four (long_one w (and_l (good_length L w) _ h)) (window_of (domains w) v)).reads

find_goes : (w p : List ℕ) → T (begins w (find p)) → walk_of w (find p) ≡ up_to_bad L w (find_trail L w p)
find_goes w p h = walk_find w p h ∙ find_trail_lem L w four p

pub bounded : (w : List ℕ) → Bounded w
bounded w =
    record {
      most = walk_bound w;
      pages = walk_pages w;
      silent = walk_silent w;
      levelled = find_levelled w;
      finds = find_goes w;
      lists = list_goes w;
      found = λ p z. ap (λ l. get_or l 1 0) (find_returns w p z).2;
      listed = λ v slots z. ap (λ l. get_or l 1 0) (list_returns w v slots z).1;
    }
