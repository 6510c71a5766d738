-- What a call that is done does to the pool, effect by effect; and what follows of it: the steps of demand 2, a sound pool with the changed
-- records, and the pool's size.
use mathlib.Core.Bool.{Bool, true, false, ◌&&◌, not}
use mathlib.Core.List.{List, [], ◌∷◌, ◌++◌}
use mathlib.Core.Option.{Option, none, some}
use mathlib.Core.Path.{◌≡◌, refl, sym, ap, ◌∙◌, subst}
use Prim.Native.Nat.{ℕ, ◌+◌, ◌≤◌}
use native.Mathlib.Omega.{arith}
use lib.Dec.{T, eqb, eqb→eq, T_not}
use lib.ListN.{length, get_or}
use Rattle.kdb.specs.Lists.{bit, tally, same}
use Rattle.kdb.specs.Box.{Key, whole, within}
use Rattle.kdb.specs.Tree.{Rec, State, Tree, records, records_of}
use Rattle.kdb.specs.Steps.{removed}
use Rattle.kdb.specs.Shape.{WellFormed}
use Rattle.kdb.specs.Header.{read_header}
use Rattle.kdb.specs.Pool.{domains, pages_in, good_length, good_header, Sound}
use Rattle.kdb.specs.Print.{printed, state_of, sound}
use Rattle.kdb.specs.Walk.{Spot, End, rootless, bad, absent, here, find_walk}
use Rattle.kdb.specs.Calls.{L, place, remove, good_domains, finite, present, formatted, placing, removing, stepped, begins}
use Rattle.kdb.specs.History.{Effect, unchanged, emptied, added, dropped, change}
use Rattle.kdb.specs.Demands.{SameRecords, keyed, Formatted, SameSize, Moves}
use Rattle.kdb.proofs.Tests.{and_l, and_r, and_i, bool, to_bit, no_bit}
use Rattle.kdb.proofs.Lists.{same_refl}
use Rattle.kdb.proofs.Counts.{tally_append, In}
use Rattle.kdb.proofs.Stands.{Stands}
use Rattle.kdb.proofs.Views.{finite_whole}
use Rattle.kdb.proofs.Print.{read_state, print_length, print_domains, print_says}
use Rattle.kdb.proofs.Pool.{length_iff, header_iff, print_sound, sound_iff, Sound_stands}
use Rattle.kdb.proofs.Format.{formatted_printed, none_formed, formatted_is}
use Rattle.kdb.proofs.Grow.{placed_formed, Placing, Placed}
use Rattle.kdb.proofs.Remove.{removed_formed, key_once}
use Rattle.kdb.proofs.Length.{big, roomy}
use Rattle.kdb.proofs.Reading.{Answers, find_rootless, find_answers}
use Rattle.kdb.proofs.History.{without_tally}

-- a printed state is sound
printed_sound : (k N : ℕ) (s : State) → WellFormed L k N s → Sound L (printed L k N s)
printed_sound k N s f = (sound_iff L big (printed L k N s)).0 (print_sound L k N s big f)

-- the tests that an accepted place and an accepted remove have passed
pub record Passed (w p : List ℕ) : Type 0 where
  pub long : length p ≡ domains w
  pub ends : T (finite p)
  pub well : Sound L w

pub passed_within : (w p : List ℕ) → Passed w p → T (within (whole (domains w)) p)
passed_within w p h = finite_whole (domains w) p h.long h.ends

-- a walk to a point that does not end at a record finds no record with its keys
not_there : (w p : List ℕ) → Passed w p → T (not (present (find_walk L w p).end)) → tally (keyed p) (records_of (state_of L w)) ≡ 0
not_there w p h n = go (state_of L w) (Sound_stands L w h.well big)
  where
    by_end : (t : Tree) (e : End) → T (not (present e)) → Answers (records t) p e → tally (keyed p) (records t) ≡ 0
    by_end t rootless n a = absurd a
    by_end t bad n a = absurd a
    by_end t (absent j) n a = a
    by_end t (here x) n a = absurd n

    go : (s : State) → Stands L w s → tally (keyed p) (records_of s) ≡ 0
    go none st = refl
    go (some t) st = by_end t (find_walk L w p).end n (find_answers L w p t st (passed_within w p h))

-- what place and remove have passed when they begin
pub place_passed : (w work p : List ℕ) (l : ℕ) → T (begins w (place work p l)) → Passed w p × T (not (present (find_walk L w p).end))
place_passed w work p l h =
    let i = eqb (length p) (domains w) in
    let j = eqb (length work) (length w) in
    let t3 = and_r (good_header L w) _ (and_r (good_length L w) _ h) in
    let t4 = and_r (i && j) _ t3 in
    let t6 = and_r (finite p) _ t4 in (
      record { long = eqb→eq (length p) (domains w) (and_l i j (and_l (i && j) _ t3)); ends = and_l (finite p) _ t4; well = (sound_iff L big w).0 (and_l (sound L w) _ t6) },
      and_l (not (present (find_walk L w p).end)) _ (and_r (sound L w) _ t6),
    )

pub remove_passed : (w p : List ℕ) → T (begins w (remove p)) → Passed w p
remove_passed w p h =
    let i = eqb (length p) (domains w) in
    let t3 = and_r (good_header L w) _ (and_r (good_length L w) _ h) in
    let t4 = and_r i _ t3 in
    record { long = eqb→eq (length p) (domains w) (and_l i _ t3); ends = and_l (finite p) _ t4; well = (sound_iff L big w).0 (and_l (sound L w) _ (and_r (finite p) _ t4)) }

-- so that the tree's laws of placing hold
pub place_placing : (w work p : List ℕ) (l : ℕ) → T (begins w (place work p l)) → Placing L (domains w) (pages_in L w) (state_of L w) (record { key = p; loc = l })
place_placing w work p l h =
    let c = place_passed w work p l h in
    let f = (Sound_stands L w c.0.well big).formed in
    record { roomy = roomy (domains w) f.domains.0 f.domains.1; formed = f; inside = passed_within w p c.0; new = not_there w p c.0 c.1 }

-- a record is placed in pool w, which becomes v: the step's state, well-formed and with one record more
pub record Adds (w : List ℕ) (q : Rec) (v : List ℕ) : Type 0 where
  pub well : Sound L w
  pub state : State
  pub is : stepped w q ≡ some state
  pub pool : v ≡ printed L (domains w) (pages_in L w) state
  pub placed : Placed L (domains w) (pages_in L w) (state_of L w) state q

-- the record with these keys, which is there, goes
pub record Drops (w : List ℕ) (p : Key) (v : List ℕ) : Type 0 where
  pub passed : Passed w p
  pub spot : Spot
  pub there : (find_walk L w p).end ≡ here spot
  pub pool : v ≡ printed L (domains w) (pages_in L w) (removed (state_of L w) p)

pub record Empties (w : List ℕ) (k : ℕ) (v : List ℕ) : Type 0 where
  pub long : T (good_length L w)
  pub good : T (good_domains k)
  pub pool : v ≡ formatted w k

abbrev pub Does : List ℕ → Effect → List ℕ → Type 0
Does w unchanged v = v ≡ w
Does w (emptied k) v = Empties w k v
Does w (added q) v = Adds w q v
Does w (dropped p) v = Drops w p v

-- what the three calls that write do
pub placing_does : (w p : List ℕ) (l : ℕ) → Sound L w → Placing L (domains w) (pages_in L w) (state_of L w) (record { key = p; loc = l }) → (o : Option State)
    → stepped w (record { key = p; loc = l }) ≡ o → (placing o w).number ≡ 0 → Adds w (record { key = p; loc = l }) (placing o w).after.pool
placing_does w p l s h none e z = absurd (omega arith)
placing_does w p l s h (some t) e z =
    record { well = s; state = t; is = e; pool = refl; placed = placed_formed L (domains w) (pages_in L w) (state_of L w) t (record { key = p; loc = l }) h e }

pub removing_does : (w p : List ℕ) → Passed w p → (e : End) → (find_walk L w p).end ≡ e → (removing e w p).number ≡ 0 → Drops w p (removing e w p).after.pool
removing_does w p h rootless q z = absurd (omega arith)
removing_does w p h bad q z = absurd (omega arith)
removing_does w p h (absent j) q z = absurd (omega arith)
removing_does w p h (here x) q z = record { passed = h; spot = x; there = q; pool = refl }

-- a formatted pool is sound and has no tree
emptied_state : (w v : List ℕ) (k : ℕ) → Empties w k v → Sound L v × (state_of L v ≡ none)
emptied_state w v k h =
    let formed = none_formed w k h.long h.good in
    let e : printed L k (pages_in L w) none ≡ v = sym (h.pool ∙ formatted_printed w k h.long) in
    (subst (Sound L) e (printed_sound k (pages_in L w) none formed), subst (λ u. state_of L u ≡ none) e (read_state L k (pages_in L w) none big formed))

-- the steps of demand 2
pub moves : (w : List ℕ) (e : Effect) (v : List ℕ) → Does w e v → Moves w e v
moves w unchanged v h = h
moves w (emptied k) v h = (subst (Formatted w k) (sym h.pool) (formatted_is w k h.long), (emptied_state w v k h).1)
moves w (added q) v h =
    (h.state, h.is, h.pool, ap (state_of L) h.pool ∙ read_state L (domains w) (pages_in L w) h.state big h.placed.formed)
moves w (dropped p) v h =
    let f = (Sound_stands L w h.passed.well big).formed in
    (h.pool, ap (state_of L) h.pool ∙ read_state L (domains w) (pages_in L w) (removed (state_of L w) p) big (removed_formed L (domains w) (pages_in L w) (state_of L w) p f).formed)

-- of the records with a key, those that pass a test and those that fail it
keyed_halves : (p : Key) (g : Rec → Bool) (rs : List Rec) → tally (λ r. same p r.key && g r) rs + tally (λ r. same p r.key && not (g r)) rs ≡ tally (keyed p) rs
keyed_halves p g [] = refl
keyed_halves p g (r ∷ rs) = omega (arith, keyed_halves p g rs, go (same p r.key) (g r))
  where
    go : (s t : Bool) → bit (s && t) + bit (s && not t) ≡ bit s
    go true true = refl
    go true false = refl
    go false t = refl

-- a key that stands once: its record passes the test exactly if a record with the key does
one_keyed : (p : Key) (g : Rec → Bool) (r : Rec) (rs : List Rec) → In r rs → r.key ≡ p → tally (keyed p) rs ≤ 1 → bit (g r) ≡ tally (λ q. same p q.key && g q) rs
one_keyed p g r rs i e once =
    let k : T (same p r.key) = rw e (same_refl p) in
    let h = keyed_halves p g rs in
    bool (g r)
    (λ t. omega (arith, to_bit (g r) t, i.counted (λ q. same p q.key && g q) (and_i (same p r.key) _ k t)))
    (λ n. omega (arith, no_bit (g r) (T_not (g r) n), i.counted (λ q. same p q.key && not (g q)) (and_i (same p r.key) _ k n)))

-- a sound pool stays sound, and its records are those that the effect makes of them
added_after : (w : List ℕ) (q : Rec) (v : List ℕ) → Adds w q v → Sound L v × SameRecords (records_of (state_of L v)) (records_of (state_of L w) ++ (q ∷ []))
added_after w q v h =
    let e = sym h.pool in (
      subst (Sound L) e (printed_sound (domains w) (pages_in L w) h.state h.placed.formed),
      subst (λ u. SameRecords (records_of (state_of L u)) (records_of (state_of L w) ++ (q ∷ []))) e
          (λ g. ap (λ t. tally g (records_of t)) (read_state L (domains w) (pages_in L w) h.state big h.placed.formed)
          ∙ omega (arith, h.placed.held g, tally_append g (records_of (state_of L w)) (q ∷ []))),
    )

dropped_after : (w p v : List ℕ) → Drops w p v → Sound L v × SameRecords (records_of (state_of L v)) (change (dropped p) (records_of (state_of L w)))
dropped_after w p v h =
    let k = domains w in
    let N = pages_in L w in
    let s = state_of L w in
    let r = h.spot.rec in
    let st = Sound_stands L w h.passed.well big in
    let f = removed_formed L k N s p st.formed in
    let e = sym h.pool in
    let once = key_once L k N s p st.formed in
    let i = gone s st (passed_within w p h.passed) h.spot h.there in (
      subst (Sound L) e (printed_sound k N (removed s p) f.formed),
      subst (λ u. SameRecords (records_of (state_of L u)) (change (dropped p) (records_of s))) e
          (λ g. ap (λ t. tally g (records_of t)) (read_state L k N (removed s p) big f.formed)
          ∙ omega (arith, f.less r i.1 i.0 g, without_tally p g (records_of s) once, one_keyed p g r (records_of s) i.1 i.0 once)),
    )
  where
    gone : (s : State) → Stands L w s → T (within (whole (domains w)) p) → (x : Spot) → (find_walk L w p).end ≡ here x → (x.rec.key ≡ p) × In x.rec (records_of s)
    gone none st i x e = absurd (let z : ◌≡◌ {A = ℕ} 0 1 = cc (find_rootless L w p st) in omega arith)
    gone (some t) st i x e = subst (Answers (records t) p) e (find_answers L w p t st i)

pub emptied_after : (w : List ℕ) (k : ℕ) (v : List ℕ) → Empties w k v → Sound L v × SameRecords (records_of (state_of L v)) []
emptied_after w k v h = let f = emptied_state w v k h in (f.0, λ g. ap (λ t. tally g (records_of t)) f.1)

pub does_after : (w : List ℕ) (e : Effect) (v : List ℕ) → Sound L w → Does w e v → Sound L v × SameRecords (records_of (state_of L v)) (change e (records_of (state_of L w)))
does_after w unchanged v s h = rw h (s, λ g. refl)
does_after w (emptied k) v s h = emptied_after w k v h
does_after w (added q) v s h = added_after w q v h
does_after w (dropped p) v s h = dropped_after w p v h

-- every effect but a format's keeps K, N and length
abbrev pub sized : Effect → Bool
sized unchanged = true
sized (emptied k) = false
sized (added q) = true
sized (dropped p) = true

pub kept_size : (w v : List ℕ) → v ≡ w → SameSize w v
kept_size w v e = record { long = ap length e; domains = ap (λ u. get_or u 0 0) e; pages = ap (λ u. get_or u 1 0) e }

printed_size : (w v : List ℕ) (s : State) → Sound L w → WellFormed L (domains w) (pages_in L w) s → v ≡ printed L (domains w) (pages_in L w) s → SameSize w v
printed_size w v s h f e =
    let k = domains w in
    let N = pages_in L w in
    record {
      long = ap length e ∙ (print_length L k N s big f ∙ sym ((length_iff L w).0 h.words).long);
      domains = ap domains e ∙ print_domains L k N s big f;
      pages = ap (λ u. (read_header u).pages) e ∙ (ap (λ h. h.pages) (print_says L k N s big f) ∙ sym ((header_iff L w).0 h.header).size);
    }

pub does_size : (w : List ℕ) (e : Effect) (v : List ℕ) → T (sized e) → Does w e v → SameSize w v
does_size w unchanged v t h = kept_size w v h
does_size w (emptied k) v t h = absurd t
does_size w (added q) v t h = printed_size w v h.state h.well h.placed.formed h.pool
does_size w (dropped p) v t h =
    let s = h.passed.well in
    printed_size w v (removed (state_of L w) p) s (removed_formed L (domains w) (pages_in L w) (state_of L w) p (Sound_stands L w s big).formed).formed h.pool
