-- Demand 1: each refusal exactly in its case. A refusal of the table is given exactly if its test fails and those before it hold
-- (`given`); what 6, 7, 8 and 9 mean follows by the laws of sound pools. And what a call leaves in its buffers.
use mathlib.Core.Bool.{Bool, true, false, ◌&&◌, not, cond}
use mathlib.Core.List.{List, [], ◌∷◌, ◌++◌, map}
use mathlib.Core.Option.{Option, none, some}
use mathlib.Core.Path.{◌≡◌, refl, sym, ap, ◌∙◌, subst}
use Prim.Native.Nat.{ℕ, zero, suc, ◌≤◌, ◌<◌}
use native.Mathlib.Omega.{arith}
use lib.Dec.{T, leb, ltb, eqb, leb→le, le→leb, eqb→eq, ltb→lt}
use lib.ListN.{length, take, replicate, length-append}
use mathlib.Core.Logic.{◌↔◌}
use borrow.Author.Tests.{eq-eqb, ne_eqb}
use Rattle.kdb.specs.Lists.{only, every, tally, up_from, same, last_or}
use Rattle.kdb.specs.Tree.{Rec, State, records, records_of, pages_of}
use Rattle.kdb.specs.Steps.{free_of}
use Rattle.kdb.specs.Pages.{regions_per, points_per, recs_in}
use Rattle.kdb.specs.Pool.{domains, pages_in, good_length, good_header, view, Sound}
use Rattle.kdb.specs.Print.{state_of, sound}
use Rattle.kdb.specs.Walk.{Spot, Tour, End, rootless, bad, absent, here, find_walk, list_walk}
use Rattle.kdb.specs.declared.Refusal.TheVariants.{PoolLength, Domains, BufferLength, InfiniteKey, WindowOrder, Unsound, Present}
use Rattle.kdb.specs.Calls.{L, Call, format, check, place, remove, find, list, Outcome, Buffers, Test, good_domains, finite, ordered, window_of, present, placing, removing, finding, listing, stepped, outcome, begins, walk_of, unless, judge, ◌or◌, lent, tests, core, all_hold, head_tests, number_of, row}
use Rattle.kdb.specs.History.{emptied, makes}
use Rattle.kdb.specs.Bad.{list_trail, find_stops, list_stops, list_records}
use Rattle.kdb.specs.Demands.{keyed, good_point, given_to, headed, fitting, ends_in, Headed, Taken, New, last_records, slotted, Demand1, SameSize, Leaves}
use Rattle.kdb.proofs.Tests.{and_l, and_r, and_i, is_true, of_true}
use Rattle.kdb.proofs.Lists.{same_refl}
use Rattle.kdb.proofs.Counts.{In, tally_imp, length_up_from}
use Rattle.kdb.proofs.Stands.{Stands}
use Rattle.kdb.proofs.Pool.{length_iff, header_iff, sound_iff, Sound_stands}
use Rattle.kdb.proofs.Walk.{walk_find}
use Rattle.kdb.proofs.Bad.{find_six, find_eight, find_done, find_located, list_six, list_done, list_told}
use Rattle.kdb.proofs.Grow.{Placing, claims, placed_none_iff}
use Rattle.kdb.proofs.Remove.{key_once}
use Rattle.kdb.proofs.Length.{big, roomy}
use Rattle.kdb.proofs.Wanting.{ample, wanting}
use Rattle.kdb.proofs.Reading.{Answers, find_rootless, find_answers}
use Rattle.kdb.proofs.Calls.{done, goes_on, judge_after, judge_past, judge_fails, avoids, all_held, given}
use Rattle.kdb.proofs.Effects.{Passed, passed_within, place_placing, moves, kept_size, does_size}
use Rattle.kdb.proofs.Lawful.{lawful, late, sizes, refusal_keeps, quiet, done_does}
use Rattle.kdb.proofs.Answers.{one_located}
use Rattle.kdb.proofs.Demands.{long_one}

-- 9 exactly if the steps would claim more pages than are free, once place has passed its tests
pub nine_iff : (w work p : List ℕ) (l : ℕ) → T (begins w (place work p l))
    → ((outcome w (place work p l)).number ≡ 9)
    ↔ (length (free_of (pages_in L w) (pages_of (state_of L w))) < claims (domains w) (regions_per L (domains w)) (points_per L (domains w)) (pages_in L w) (state_of L w) (record { key = p; loc = l }))
nine_iff w work p l h =
    let q : Rec = record { key = p; loc = l } in
    let o = goes_on w (place work p l) h in
    let i = placed_none_iff L (domains w) (pages_in L w) (state_of L w) q (place_placing w work p l h) in
    (λ z. i.0 (short (stepped w q) (sym (ap (λ x. x.number) o) ∙ z)), λ m. ap (λ x. x.number) o ∙ ap (λ s. (placing s w).number) (i.1 m))
  where
    short : (s : Option State) → (placing s w).number ≡ 9 → s ≡ none
    short none z = refl
    short (some s) z = absurd (omega arith)

-- Demand 1: what the refusals mean
module _ (w p : List ℕ) (h : Passed w p) where
  -- find's walk by the records of a sound pool
  by_records : (P : End → Type 0) → (tally (keyed p) (records_of (state_of L w)) ≡ 0 → P rootless) → ((j : ℕ) → tally (keyed p) (records_of (state_of L w)) ≡ 0 → P (absent j))
      → ((x : Spot) → x.rec.key ≡ p → In x.rec (records_of (state_of L w)) → P (here x)) → P (find_walk L w p).end
  by_records P r a x = go (state_of L w) (Sound_stands L w h.well big) r a x
    where
      by_end : (rs : List Rec) (e : End) → Answers rs p e → ((j : ℕ) → tally (keyed p) rs ≡ 0 → P (absent j)) → ((x : Spot) → x.rec.key ≡ p → In x.rec rs → P (here x)) → P e
      by_end rs rootless q a x = absurd q
      by_end rs bad q a x = absurd q
      by_end rs (absent j) q a x = a j q
      by_end rs (here y) q a x = x y q.0 q.1

      go : (s : State) → Stands L w s → (tally (keyed p) (records_of s) ≡ 0 → P rootless) → ((j : ℕ) → tally (keyed p) (records_of s) ≡ 0 → P (absent j))
          → ((x : Spot) → x.rec.key ≡ p → In x.rec (records_of s) → P (here x)) → P (find_walk L w p).end
      go none st r a x = subst P (sym (find_rootless L w p st)) (r refl)
      go (some t) st r a x = by_end (records t) (find_walk L w p).end (find_answers L w p t st (passed_within w p h)) a x

  counts : (r : Rec) → r.key ≡ p → In r (records_of (state_of L w)) → 1 ≤ tally (keyed p) (records_of (state_of L w))
  counts r e i = i.counted (keyed p) (rw e (same_refl p))

  present_iff : T (present (find_walk L w p).end) ↔ (1 ≤ tally (keyed p) (records_of (state_of L w)))
  present_iff =
      by_records (λ e. T (present e) ↔ (1 ≤ tally (keyed p) (records_of (state_of L w)))) (λ z. (λ t. absurd t, λ n. absurd (omega arith))) (λ j z. (λ t. absurd t, λ n. absurd (omega arith)))
      (λ x e i. (λ t. counts x.rec e i, λ n. tt))

good_passed : (w p : List ℕ) → Sound L w → T (good_point (domains w) p) → Passed w p
good_passed w p s h = record { long = eqb→eq (length p) (domains w) (and_l (eqb (length p) (domains w)) _ h); ends = and_r (eqb (length p) (domains w)) _ h; well = s }

remove_begins : (w p : List ℕ) → Sound L w → T (good_point (domains w) p) → T (begins w (remove p))
remove_begins w p s h =
    let i = eqb (length p) (domains w) in
    and_i (good_length L w) _ s.words (and_i (good_header L w) _ s.header (and_i i _ (and_l i _ h) (and_i (finite p) _ (and_r i _ h) (and_i (sound L w) true ((sound_iff L big w).1 s) tt))))

check_six : (w : List ℕ) → T (good_length L w) → ((outcome w check).number ≡ 6) ↔ (Sound L w → ⊥)
unfolding outcome
check_six w t = (
  λ z s. let e = goes_on w check (and_i (good_length L w) _ t (and_i (good_header L w) _ s.header (and_i (sound L w) true ((sound_iff L big w).1 s) tt))) in
      omega (arith, ap (λ o. o.number) e),
  λ n. go (good_length L w) (good_header L w) (sound L w) t (λ c. n ((sound_iff L big w).0 c)),
)
  where
    go : (a b c : Bool) → T a → (T c → ⊥) → (judge ((a or PoolLength) ∷ (b or Unsound) ∷ (true or BufferLength) ∷ (true or InfiniteKey) ∷ (c or Unsound) ∷ []) (lent w check) (core w check)).number ≡ 6
    go false b c t n = absurd t
    go true false c t n = refl
    go true true false t n = refl
    go true true true t n = absurd (n tt)

-- place's tests up to 7
place_seven : (w work p : List ℕ) (l : ℕ) → Sound L w → T (good_point (domains w) p) → length work ≡ length w
    → outcome w (place work p l) ≡ unless (not (present (find_walk L w p).end)) Present (lent w (place work p l)) (core w (place work p l))
unfolding outcome
place_seven w work p l s h e =
    let i = eqb (length p) (domains w) in
    let j = eqb (length work) (length w) in
    judge_past
    ((good_length L w or PoolLength) ∷ (good_header L w or Unsound) ∷ ((i && j) or BufferLength) ∷ (finite p or InfiniteKey) ∷ (sound L w or Unsound) ∷ [])
    ((not (present (find_walk L w p).end) or Present) ∷ []) (lent w (place work p l)) (core w (place work p l))
    (and_i (good_length L w) _ s.words (and_i (good_header L w) _ s.header (and_i (i && j) _ (and_i i j (and_l i _ h) (of_true j (eq-eqb (length work) (length w) e)))
    (and_i (finite p) _ (and_r i _ h) (and_i (sound L w) true ((sound_iff L big w).1 s) tt)))))

placing_number : (w : List ℕ) (o : Option State) → (placing o w).number ≡ 7 → ⊥
placing_number w none z = omega arith
placing_number w (some s) z = omega arith

unless_seven : (t : Bool) (b : Buffers) (o : Outcome) → (o.number ≡ 7 → ⊥) → ((unless (not t) Present b o).number ≡ 7) ↔ T t
unless_seven true b o n = (λ z. tt, λ t. refl)
unless_seven false b o n = (λ z. absurd (n z), λ t. absurd t)

-- remove's outcome by the records
module _ (w p : List ℕ) (s : Sound L w) (h : T (good_point (domains w) p)) where
  remove_is : outcome w (remove p) ≡ removing (find_walk L w p).end w p
  remove_is = goes_on w (remove p) (remove_begins w p s h)

  remove_eight : ((outcome w (remove p)).number ≡ 8) ↔ (tally (keyed p) (records_of (state_of L w)) ≡ 0)
  remove_eight =
      subst (λ o. (o.number ≡ 8) ↔ (tally (keyed p) (records_of (state_of L w)) ≡ 0)) (sym remove_is)
      (by_records w p (good_passed w p s h) (λ e. ((removing e w p).number ≡ 8) ↔ (tally (keyed p) (records_of (state_of L w)) ≡ 0)) (λ z. (λ _. z, λ _. refl)) (λ j z. (λ _. z, λ _. refl))
      (λ x e i. (λ z. absurd (omega arith), λ z. absurd (omega (arith, counts w p (good_passed w p s h) x.rec e i)))))

  remove_gone : (l : ℕ) → 1 ≤ tally (λ r. same p r.key && eqb l r.loc) (records_of (state_of L w)) → ((outcome w (remove p)).number ≡ 0) × ((outcome w (remove p)).values ≡ l ∷ [])
  remove_gone l n =
      let rs = records_of (state_of L w) in
      let some-keyed : 1 ≤ tally (keyed p) rs = omega (arith, tally_imp (λ r. same p r.key && eqb l r.loc) (keyed p) (λ r. and_l (same p r.key) (eqb l r.loc)) rs) in
      let once = key_once L (domains w) (pages_in L w) (state_of L w) p (Sound_stands L w s big).formed in
      subst (λ o. (o.number ≡ 0) × (o.values ≡ l ∷ [])) (sym remove_is)
      (by_records w p (good_passed w p s h) (λ e. ((removing e w p).number ≡ 0) × ((removing e w p).values ≡ l ∷ [])) (λ z. absurd (omega arith)) (λ j z. absurd (omega arith))
      (λ x e i. (refl, ap (λ m. m ∷ []) (one_located p l x.rec rs i e once n))))

-- the number alone decides between place's 0 and 9
placing_nine : (w : List ℕ) (o : Option State) → ((placing o w).number ≡ 9) ↔ (o ≡ none)
placing_nine w none = (λ z. refl, λ e. refl)
placing_nine w (some s) = (λ z. absurd (omega arith), λ e. absurd (let z : ◌≡◌ {A = ℕ} 0 1 = cc in omega arith))

placing_zero : (w : List ℕ) (o : Option State) → ((placing o w).number ≡ 9 → ⊥) → (placing o w).number ≡ 0
placing_zero w none n = absurd (n refl)
placing_zero w (some s) n = refl

-- the tests of a call that looks at the header, by what it is given
module _ (w : List ℕ) where
  abbrev rows : Call → List Test
  rows c = head_tests w (fitting w (given_to c)) (ends_in (given_to c)) ++ (row c).own w

  looks : (c : Call) → T (headed (given_to c)) → (row c).headed ≡ true
  looks c y = sym (ap (λ x. x.0) ((lawful c).takes w)) ∙ is_true (headed (given_to c)) y

  by_rows : (c : Call) → T (headed (given_to c)) → judge (rows c) (lent w c) (core w c) ≡ outcome w c
  unfolding outcome
  by_rows c y =
      ap (λ x. judge (head_tests w x.1.0 x.1.1 ++ (row c).own w) (lent w c) (core w c)) ((lawful c).takes w)
      ∙ ap (λ x. judge (cond x (head_tests w ((row c).fits w) (row c).ends) ((good_length L w or PoolLength) ∷ []) ++ (row c).own w) (lent w c) (core w c)) (sym (looks c y))

  -- a test among them, told the tests before and after it
  row_of : (c : Call) → T (headed (given_to c)) → (ts us : List Test) (t : Test) → ts ++ (t ∷ us) ≡ rows c → T (all_hold ts) → T (avoids (number_of t.refusal) us)
      → ((core w c).number ≡ number_of t.refusal → ⊥) → ((outcome w c).number ≡ number_of t.refusal) ↔ (T t.holds → ⊥)
  row_of c y ts us t e h a d =
      subst (λ o. (o.number ≡ number_of t.refusal) ↔ (T t.holds → ⊥)) (ap (λ l. judge l (lent w c) (core w c)) e ∙ by_rows c y) (given ts us t (lent w c) (core w c) h a d)

  -- a call's own tests give none of the numbers before theirs
  own_avoids : (c : Call) (n : ℕ) → n ≤ cond (row c).headed 4 1 → T (avoids n ((row c).own w))
  own_avoids c n m = go (cond (row c).headed 4 1) m ((row c).own w) (late w c)
    where
      go : (k : ℕ) → n ≤ k → (us : List Test) → T (every (λ u. ltb k (number_of u.refusal)) us) → T (avoids n us)
      go k m [] h = tt
      go k m (u ∷ us) h =
          and_i (not (eqb n (number_of u.refusal))) _
          (of_true (not (eqb n (number_of u.refusal))) (ap not (ne_eqb n (number_of u.refusal) (λ e. let l = ltb→lt k (number_of u.refusal) (and_l (ltb k (number_of u.refusal)) _ h) in omega arith))))
          (go k m us (and_r (ltb k (number_of u.refusal)) _ h))

  headed_avoids : (c : Call) → T (headed (given_to c)) → (n : ℕ) → n ≤ 4 → T (avoids n ((row c).own w))
  headed_avoids c y n m = own_avoids c n (subst (λ x. n ≤ cond x 4 1) (sym (looks c y)) m)

  one : (c : Call) → ((outcome w c).number ≡ 1) ↔ (T (good_length L w) → ⊥)
  unfolding outcome
  one c = go (row c).headed (own_avoids c 1)
    where
      go : (x : Bool) → (1 ≤ cond x 4 1 → T (avoids 1 ((row c).own w)))
          → ((judge (cond x (head_tests w ((row c).fits w) (row c).ends) ((good_length L w or PoolLength) ∷ []) ++ (row c).own w) (lent w c) (core w c)).number ≡ 1) ↔ (T (good_length L w) → ⊥)
      go true a =
          given [] ((good_header L w or Unsound) ∷ ((row c).fits w or BufferLength) ∷ (finite (row c).ends or InfiniteKey) ∷ (row c).own w) (good_length L w or PoolLength) (lent w c) (core w c) tt
          (a (omega arith)) (((lawful c).proper w).late 1 (omega arith) (omega arith))
      go false a = given [] ((row c).own w) (good_length L w or PoolLength) (lent w c) (core w c) tt (a (omega arith)) (((lawful c).proper w).late 1 (omega arith) (omega arith))

  two : (k : ℕ) → T (good_length L w) → ((outcome w (format k)).number ≡ 2) ↔ (T (good_domains k) → ⊥)
  unfolding outcome
  two k h = given ((good_length L w or PoolLength) ∷ []) [] (good_domains k or Domains) (lent w (format k)) (core w (format k)) (and_i (good_length L w) true h tt) tt (((lawful (format k)).proper w).late 2 (omega arith) (omega arith))

  header : (c : Call) → T (headed (given_to c)) → T (good_length L w) → (T (good_header L w) → ⊥) → (outcome w c).number ≡ 6
  header c y h n =
      sym (ap (λ o. o.number) (by_rows c y))
      ∙ ap (λ o. o.number) (judge_fails ((good_length L w or PoolLength) ∷ []) ((fitting w (given_to c) or BufferLength) ∷ (finite (ends_in (given_to c)) or InfiniteKey) ∷ (row c).own w) (good_header L w or Unsound) (lent w c) (core w c) (and_i (good_length L w) true h tt) n)

  three : (c : Call) → T (headed (given_to c)) → Headed w → ((outcome w c).number ≡ 3) ↔ (T (fitting w (given_to c)) → ⊥)
  three c y h =
      row_of c y ((good_length L w or PoolLength) ∷ (good_header L w or Unsound) ∷ []) ((finite (ends_in (given_to c)) or InfiniteKey) ∷ (row c).own w) (fitting w (given_to c) or BufferLength) refl
      (and_i (good_length L w) _ ((length_iff L w).1 h.long) (and_i (good_header L w) true ((header_iff L w).1 h.header) tt)) (headed_avoids c y 3 (omega arith)) (((lawful c).proper w).late 3 (omega arith) (omega arith))

  four : (c : Call) → T (headed (given_to c)) → Headed w → T (fitting w (given_to c)) → ((outcome w c).number ≡ 4) ↔ (T (finite (ends_in (given_to c))) → ⊥)
  four c y h f =
      row_of c y ((good_length L w or PoolLength) ∷ (good_header L w or Unsound) ∷ (fitting w (given_to c) or BufferLength) ∷ []) ((row c).own w) (finite (ends_in (given_to c)) or InfiniteKey) refl
      (and_i (good_length L w) _ ((length_iff L w).1 h.long) (and_i (good_header L w) _ ((header_iff L w).1 h.header) (and_i (fitting w (given_to c)) true f tt))) (headed_avoids c y 4 (omega arith)) (((lawful c).proper w).late 4 (omega arith) (omega arith))

  -- the four first rows hold
  four_held : (c : Call) → Taken w c → T (all_hold ((good_length L w or PoolLength) ∷ (good_header L w or Unsound) ∷ (fitting w (given_to c) or BufferLength) ∷ (finite (ends_in (given_to c)) or InfiniteKey) ∷ []))
  four_held c h =
      and_i (good_length L w) _ ((length_iff L w).1 h.headed.long) (and_i (good_header L w) _ ((header_iff L w).1 h.headed.header) (and_i (fitting w (given_to c)) _ h.fits (and_i (finite (ends_in (given_to c))) true h.ends tt)))

  five : (v answer : List ℕ) → Taken w (list v answer) → ((outcome w (list v answer)).number ≡ 5) ↔ (T (ordered (window_of (domains w) v)) → ⊥)
  five v answer h =
      let c = list v answer in
      row_of c tt ((good_length L w or PoolLength) ∷ (good_header L w or Unsound) ∷ (fitting w (given_to c) or BufferLength) ∷ (finite (ends_in (given_to c)) or InfiniteKey) ∷ []) [] (ordered (window_of (domains w) v) or WindowOrder) refl
      (four_held c h) tt (((lawful c).proper w).late 5 (omega arith) (omega arith))

  -- "not sound" by the test and by the sentences
  unsound : (n : ℕ) → (n ≡ 6) ↔ (T (sound L w) → ⊥) → (n ≡ 6) ↔ (Sound L w → ⊥)
  unsound n i = (λ z s. i.0 z ((sound_iff L big w).1 s), λ m. i.1 (λ t. m ((sound_iff L big w).0 t)))

  six_place_lem : (work p : List ℕ) (l : ℕ) → Taken w (place work p l) → ((outcome w (place work p l)).number ≡ 6) ↔ (Sound L w → ⊥)
  six_place_lem work p l h =
      let c = place work p l in
      unsound (outcome w c).number
      (row_of c tt ((good_length L w or PoolLength) ∷ (good_header L w or Unsound) ∷ (fitting w (given_to c) or BufferLength) ∷ (finite (ends_in (given_to c)) or InfiniteKey) ∷ []) ((not (present (find_walk L w p).end) or Present) ∷ []) (sound L w or Unsound) refl
      (four_held c h) tt (go (stepped w (record { key = p; loc = l }))))
    where
      go : (s : Option State) → (placing s w).number ≡ 6 → ⊥
      go none z = omega arith
      go (some s) z = omega arith

  -- remove: on a sound pool its walk meets no bad page
  six_remove_lem : (p : List ℕ) → Taken w (remove p) → ((outcome w (remove p)).number ≡ 6) ↔ (Sound L w → ⊥)
  six_remove_lem p h = (
    λ z s. by_records w p (good_passed w p s g) (λ e. (removing e w p).number ≡ 6 → ⊥) (λ _ y. omega arith) (λ j _ y. omega arith) (λ x _ _ y. omega arith)
        (sym (ap (λ o. o.number) (remove_is w p s g)) ∙ z),
    λ n. sym (ap (λ o. o.number) (by_rows (remove p) tt))
        ∙ ap (λ o. o.number) (judge_fails ((good_length L w or PoolLength) ∷ (good_header L w or Unsound) ∷ (fitting w (given_to (remove p)) or BufferLength) ∷ (finite p or InfiniteKey) ∷ []) [] (sound L w or Unsound) (lent w (remove p)) (core w (remove p))
        (four_held (remove p) h) (λ t. n ((sound_iff L big w).0 t))),
  )
    where
      g : T (good_point (domains w) p)
      g = and_i (eqb (length p) (domains w)) _ h.fits h.ends

  -- a new point: place does its steps
  new_placing : (work p : List ℕ) (l : ℕ) → New w work p → outcome w (place work p l) ≡ placing (stepped w (record { key = p; loc = l })) w
  new_placing work p l n =
      place_seven w work p l n.sound n.point n.long
      ∙ go (present (find_walk L w p).end) (λ t. let i = (present_iff w p (good_passed w p n.sound n.point)).0 t in omega (arith, n.absent))
    where
      go : (x : Bool) → (T x → ⊥) → unless (not x) Present (lent w (place work p l)) (core w (place work p l)) ≡ core w (place work p l)
      go true a = absurd (a tt)
      go false a = refl

  new_placed : (work p : List ℕ) (l : ℕ) → New w work p → Placing L (domains w) (pages_in L w) (state_of L w) (record { key = p; loc = l })
  new_placed work p l n =
      let f = (Sound_stands L w n.sound big).formed in
      record { roomy = roomy (domains w) f.domains.0 f.domains.1; formed = f; inside = passed_within w p (good_passed w p n.sound n.point); new = n.absent }

-- find and list on any pool, once their arguments are taken
module _ (w : List ℕ) where
  find_taken : (p : List ℕ) → Taken w (find p) → T (begins w (find p))
  find_taken p h = four_held w (find p) h

  list_taken : (v answer : List ℕ) → Taken w (list v answer) → T (ordered (window_of (domains w) v)) → T (begins w (list v answer))
  list_taken v answer h o =
      and_i (good_length L w) _ ((length_iff L w).1 h.headed.long) (and_i (good_header L w) _ ((header_iff L w).1 h.headed.header)
      (and_i (fitting w (given_to (list v answer))) _ h.fits (and_i (finite v) _ h.ends (and_i (ordered (window_of (domains w) v)) true o tt))))

  find_is : (p : List ℕ) → T (begins w (find p)) → outcome w (find p) ≡ finding (find_walk L w p) (lent w (find p))
  find_is p h = goes_on w (find p) h

  six_find_lem : (p : List ℕ) → Taken w (find p) → ((outcome w (find p)).number ≡ 6) ↔ T (find_stops L w p)
  six_find_lem p h = subst (λ o. (o.number ≡ 6) ↔ T (find_stops L w p)) (sym (find_is p (find_taken p h))) (find_six w p (lent w (find p)))

  eight_find_lem : (p : List ℕ) → Taken w (find p) → ((outcome w (find p)).number ≡ 8) ↔ (T (not (find_stops L w p)) × (tally (keyed p) (last_records w p) ≡ 0))
  eight_find_lem p h =
      subst (λ o. (o.number ≡ 8) ↔ (T (not (find_stops L w p)) × (tally (keyed p) (last_records w p) ≡ 0))) (sym (find_is p (find_taken p h)))
      (subst (λ l. ((finding (find_walk L w p) (lent w (find p))).number ≡ 8) ↔ (T (not (find_stops L w p)) × (tally (keyed p) (recs_in (view L w (last_or 0 l))) ≡ 0)))
      (sym (walk_find w p (find_taken p h))) (find_eight w p (lent w (find p))))

  done_find : (p : List ℕ) → Taken w (find p) → ((outcome w (find p)).number ≡ 0) ↔ (T (not (find_stops L w p)) × (1 ≤ tally (keyed p) (last_records w p)))
  done_find p h =
      subst (λ o. (o.number ≡ 0) ↔ (T (not (find_stops L w p)) × (1 ≤ tally (keyed p) (last_records w p)))) (sym (find_is p (find_taken p h)))
      (subst (λ l. ((finding (find_walk L w p) (lent w (find p))).number ≡ 0) ↔ (T (not (find_stops L w p)) × (1 ≤ tally (keyed p) (recs_in (view L w (last_or 0 l))))))
      (sym (walk_find w p (find_taken p h))) (find_done w p (lent w (find p))))

  located : (p : List ℕ) → (outcome w (find p)).number ≡ 0
      → (outcome w (find p)).values ≡ map (λ r. r.loc) (take 1 (only (keyed p) (last_records w p))) ++ (length (walk_of w (find p)) ∷ [])
  located p z =
      let d = done w (find p) z in
      ap (λ o. o.values) d.1
      ∙ subst (λ l. (finding (find_walk L w p) (lent w (find p))).values ≡ map (λ r. r.loc) (take 1 (only (keyed p) (recs_in (view L w (last_or 0 l))))) ++ (length l ∷ []))
      (sym (walk_find w p d.0)) (find_located w p (lent w (find p)) (sym (ap (λ o. o.number) d.1) ∙ z))

  good_pages : {c : Call} → Taken w c → 1 ≤ pages_in L w
  good_pages h = omega (arith, h.headed.long.least)

  six_list_lem : (v answer : List ℕ) → Taken w (list v answer) → T (ordered (window_of (domains w) v))
      → ((outcome w (list v answer)).number ≡ 6) ↔ T (list_stops L w (window_of (domains w) v))
  six_list_lem v answer h o =
      subst (λ x. (x.number ≡ 6) ↔ T (list_stops L w (window_of (domains w) v))) (sym (goes_on w (list v answer) (list_taken v answer h o))) (list_six w (good_pages h) (window_of (domains w) v) answer)

  done_list : (v answer : List ℕ) → Taken w (list v answer) → T (ordered (window_of (domains w) v))
      → ((outcome w (list v answer)).number ≡ 0) ↔ T (not (list_stops L w (window_of (domains w) v)))
  done_list v answer h o =
      subst (λ x. (x.number ≡ 0) ↔ T (not (list_stops L w (window_of (domains w) v)))) (sym (goes_on w (list v answer) (list_taken v answer h o))) (list_done w (good_pages h) (window_of (domains w) v) answer)

  listed : (v answer : List ℕ) → (outcome w (list v answer)).number ≡ 0
      → ((outcome w (list v answer)).values ≡ length (list_records L w (window_of (domains w) v)) ∷ length (list_trail L w (window_of (domains w) v)) ∷ [])
      × ((outcome w (list v answer)).after.answer ≡ slotted answer (map (λ r. r.loc) (list_records L w (window_of (domains w) v))))
  listed v answer z =
      let d = done w (list v answer) z in
      let n = long_one w (and_l (good_length L w) _ d.0) in
      let t = list_told w n (window_of (domains w) v) answer (sym (ap (λ o. o.number) d.1) ∙ z) in
      (ap (λ o. o.values) d.1 ∙ t.0, ap (λ o. o.after.answer) d.1 ∙ t.1)

-- not the one exactly if not the other
not_alike : {A B C : Type 0} → B ↔ C → A ↔ (B → ⊥) → A ↔ (C → ⊥)
not_alike i j = (λ a c. j.0 a (i.1 c), λ n. j.1 (λ b. n (i.0 b)))

domains_iff : (k : ℕ) → T (good_domains k) ↔ ((1 ≤ k) × (k ≤ 4))
domains_iff k = (λ t. (leb→le 1 k (and_l (leb 1 k) _ t), leb→le k 4 (and_r (leb 1 k) _ t)), λ h. and_i (leb 1 k) _ (le→leb 1 k h.0) (le→leb k 4 h.1))

pub demand1 : (w : List ℕ) → Demand1 w
demand1 w =
    record {
      one = λ c. not_alike (length_iff L w) (one w c);
      two = λ k h. not_alike (domains_iff k) (two w k ((length_iff L w).1 h));
      formats = λ k h a b. ap (λ o. o.number) (goes_on w (format k) (and_i (good_length L w) _ ((length_iff L w).1 h) (and_i (good_domains k) true ((domains_iff k).1 (a, b)) tt)));
      header = λ c y h n. header w c y ((length_iff L w).1 h) (λ t. n ((header_iff L w).0 t));
      three = three w;
      four = four w;
      five = five w;
      six = λ h. check_six w ((length_iff L w).1 h);
      checks = λ s. ap (λ o. o.number) (goes_on w check (and_i (good_length L w) _ s.words (and_i (good_header L w) _ s.header (and_i (sound L w) true ((sound_iff L big w).1 s) tt))));
      six_place = six_place_lem w;
      six_remove = six_remove_lem w;
      seven = λ work p l s h e.
          let u = unless_seven (present (find_walk L w p).end) (lent w (place work p l)) (core w (place work p l)) (placing_number w (stepped w (record { key = p; loc = l }))) in
          let q = place_seven w work p l s h e in
          let i = present_iff w p (good_passed w p s h) in
          (λ z. i.0 (u.0 (sym (ap (λ o. o.number) q) ∙ z)), λ n. ap (λ o. o.number) q ∙ u.1 (i.1 n));
      eight = λ p s h. remove_eight w p s h;
      gone = λ p l s h n. remove_gone w p s h l n;
      nine = λ work p l n.
          let e = ap (λ o. o.number) (new_placing w work p l n) in
          let i = placing_nine w (stepped w (record { key = p; loc = l })) in
          (λ z. i.0 (sym e ∙ z), λ s. e ∙ i.1 s);
      places = λ work p l n m.
          let e = ap (λ o. o.number) (new_placing w work p l n) in e ∙ placing_zero w (stepped w (record { key = p; loc = l })) (λ z. m (e ∙ z));
      wanting = λ work p l n.
          let m = ample (state_of L w) in
          let free = free_of (pages_in L w) (pages_of (state_of L w)) in
          let r = wanting L (domains w) (pages_in L w) (state_of L w) (record { key = p; loc = l }) (free ++ up_from m (pages_in L w)) (new_placed w work p l n)
          (omega (arith, length-append free (up_from m (pages_in L w)), length_up_from m (pages_in L w))) in
          (m, r.0, r.1);
      six_find = six_find_lem w;
      eight_find = eight_find_lem w;
      finds = done_find w;
      located = located w;
      six_list = six_list_lem w;
      lists = done_list w;
      listed = listed w;
      alone = quiet w;
    }

-- the size after a call
call_size : (w : List ℕ) (c : Call) → T (headed (given_to c)) → SameSize w (outcome w c).after.pool
call_size w c y = go (outcome w c).number refl
  where
    go : (n : ℕ) → (outcome w c).number ≡ n → SameSize w (outcome w c).after.pool
    go zero e = does_size w (makes c) (outcome w c).after.pool (sizes c (of_true (row c).headed (looks w c y))) (done_does w c e)
    go (suc n) e = kept_size w (outcome w c).after.pool (refusal_keeps w c (λ z. omega arith))

-- the buffers after a call
placing_work : (w work : List ℕ) (o : Option State) → ((placing o w).number ≡ 0 → ⊥) → ((placing o w).number ≡ 9 → ⊥) → (placing o w).after.work ≡ work
placing_work w work none a b = absurd (b refl)
placing_work w work (some s) a b = absurd (a refl)

placing_copy : (w : List ℕ) (o : Option State) → (placing o w).after.work ≡ w
placing_copy w none = refl
placing_copy w (some s) = refl

-- a test that fails leaves the buffers as they were
refused_keeps : (ts : List Test) (b : Buffers) (o : Outcome) → all_hold ts ≡ false → (judge ts b o).after ≡ b
refused_keeps [] b o e = absurd (let z : ◌≡◌ {A = ℕ} 0 1 = ap (λ x. cond x 0 1) e in omega arith)
refused_keeps (t ∷ ts) b o e = go t.holds e (refused_keeps ts b o)
  where
    go : (x : Bool) → x && all_hold ts ≡ false → (all_hold ts ≡ false → (judge ts b o).after ≡ b) → (unless x t.refusal b (judge ts b o)).after ≡ b
    go true e i = i e
    go false e i = refl

listing_bad : (t : Tour) (w answer : List ℕ) → ((listing t w answer).number ≡ 0 → ⊥) → (listing t w answer).after.answer ≡ replicate (length answer) 0
listing_bad t w answer n = go t.bad n
  where
    go : (m : Bool) → ((listing (record { read = t.read; bad = m; found = t.found }) w answer).number ≡ 0 → ⊥)
        → (listing (record { read = t.read; bad = m; found = t.found }) w answer).after.answer ≡ replicate (length answer) 0
    go true n = refl
    go false n = absurd (n refl)

pub leaves : (w : List ℕ) → Leaves w
unfolding outcome
leaves w =
    record {
      formats = λ k z. (moves w (emptied k) (outcome w (format k)).after.pool (done_does w (format k) z)).0;
      sizes = call_size w;
      pool = refusal_keeps w;
      done = λ work p l z. ap (λ o. o.after.work) (done w (place work p l) z).1 ∙ placing_copy w (stepped w (record { key = p; loc = l }));
      short = λ work p l z.
          let c = place work p l in
          ap (λ o. o.after.work) (goes_on w c (all_held 9 (tests w c) (lent w c) (core w c) tt z)) ∙ placing_copy w (stepped w (record { key = p; loc = l }));
      work = λ work p l a b.
          let c = place work p l in
          judge_after (λ o. (o.number ≡ 0 → ⊥) → (o.number ≡ 9 → ⊥) → o.after.work ≡ work) (tests w c) (lent w c) (core w c) (λ n a b. refl)
          (λ _. placing_work w work (stepped w (record { key = p; loc = l }))) a b;
      early = λ v answer e. ap (λ b. b.answer) (refused_keeps (tests w (list v answer)) (lent w (list v answer)) (core w (list v answer)) e);
      bad = λ v answer h n.
          let e = goes_on w (list v answer) h in
          ap (λ o. o.after.answer) e ∙ listing_bad (list_walk L w (window_of (domains w) v)) w answer (λ z. n (ap (λ o. o.number) e ∙ z));
    }
