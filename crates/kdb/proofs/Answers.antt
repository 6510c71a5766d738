-- What list and find answer on a sound pool whose records are, by counts, the records rs.
use mathlib.Core.Bool.{Bool, true, false, ◌&&◌, cond}
use mathlib.Core.List.{List, [], ◌∷◌, ◌++◌, map}
use mathlib.Core.Option.{none, some}
use mathlib.Core.Path.{◌≡◌, refl, sym, ap, ap₂, ◌∙◌, subst}
use Prim.Native.Nat.{ℕ, suc, ◌+◌, ◌*◌, ◌≤◌}
use native.Mathlib.Omega.{arith}
use lib.Dec.{T, eqb, eqb→eq, eqb_refl, T_not}
use lib.ListN.{length, take, drop, get_or, length-map}
use Rattle.kdb.specs.Lists.{bit, only, tally, same}
use Rattle.kdb.specs.Box.{Key, whole, within, in_window}
use Rattle.kdb.specs.Tree.{Rec, State, records, records_of}
use Rattle.kdb.specs.Pool.{domains, good_length, good_header, Sound}
use Rattle.kdb.specs.Print.{state_of}
use Rattle.kdb.specs.Walk.{Spot, Tour, list_walk, End, rootless, bad, absent, here, Search, find_walk}
use Rattle.kdb.specs.Calls.{L, find, list, lent, Buffers, finite, window_of, ordered, begins, finding, listing, filled, outcome}
use Rattle.kdb.specs.Demands.{SameRecords, keyed, inside, good_window, good_point, ListsExactly, FindsExactly}
use Rattle.kdb.proofs.Tests.{and_l, and_r, and_i, bool, bit_most}
use Rattle.kdb.proofs.Lists.{same_refl}
use Rattle.kdb.proofs.Counts.{In, length_only}
use Rattle.kdb.proofs.Stands.{Stands}
use Rattle.kdb.proofs.Views.{finite_whole}
use Rattle.kdb.proofs.Length.{big}
use Rattle.kdb.proofs.Pool.{Sound_stands}
use Rattle.kdb.proofs.Reading.{Answers, list_good, list_finds, find_rootless, find_answers}
use Rattle.kdb.proofs.Calls.{goes_on}
use Rattle.kdb.proofs.Windows.{fill_enough, fill_few}

-- counting what a test keeps
only_tally : (f g : Rec → Bool) (rs : List Rec) → tally g (only f rs) ≡ tally (λ r. f r && g r) rs
only_tally f g [] = refl
only_tally f g (r ∷ rs) = go (f r) (only_tally f g rs)
  where
    go : (t : Bool) → tally g (only f rs) ≡ tally (λ r. f r && g r) rs → tally g (cond t (r ∷ only f rs) (only f rs)) ≡ bit (t && g r) + tally (λ r. f r && g r) rs
    go true e = omega arith
    go false e = omega arith

same_only : (f : Rec → Bool) (a b : List Rec) → SameRecords a b → SameRecords (only f a) (only f b)
same_only f a b e = λ g. only_tally f g a ∙ (e (λ r. f r && g r) ∙ sym (only_tally f g b))

-- a list that met no bad page
listing_good : (t : Tour) (w slots : List ℕ) → t.bad ≡ false
    → ((listing t w slots).number ≡ 0) × (get_or (listing t w slots).values 0 0 ≡ length t.found) × ((listing t w slots).after.answer ≡ filled slots t.found)
listing_good t w slots e = rw e (refl, refl, refl)

pub map_loc : (ss : List Spot) → map (λ r. r.loc) (map (λ x. x.rec) ss) ≡ map (λ x. x.rec.loc) ss
map_loc [] = refl
map_loc (x ∷ ss) = ap (λ l. x.rec.loc ∷ l) (map_loc ss)

-- the tests of the arguments are all that a sound pool leaves
module _ (w : List ℕ) (sound : Sound L w) where
  pub list_begins : (v slots : List ℕ) → T (good_window (domains w) v) → T (begins w (list v slots))
  list_begins v slots h =
      let long = eqb (length v) (2 * domains w) in
      let order = ordered (window_of (domains w) v) in
      and_i (good_length L w) _ sound.words (and_i (good_header L w) _ sound.header (and_i long _ (and_l long _ (and_l (long && finite v) order h))
      (and_i (finite v) _ (and_r long _ (and_l (long && finite v) order h)) (and_i order true (and_r (long && finite v) order h) tt))))

  pub find_begins : (p : List ℕ) → T (good_point (domains w) p) → T (begins w (find p))
  find_begins p h =
      let long = eqb (length p) (domains w) in
      and_i (good_length L w) _ sound.words (and_i (good_header L w) _ sound.header (and_i long _ (and_l long _ h) (and_i (finite p) true (and_r long _ h) tt)))

module _ (w : List ℕ) (sound : Sound L w) (rs : List Rec) (same : SameRecords (records_of (state_of L w)) rs) where
  pub list_answers : (v slots : List ℕ) → T (good_window (domains w) v) → ListsExactly w rs v slots (outcome w (list v slots))
  list_answers v slots h =
      let window = window_of (domains w) v in
      let st = Sound_stands L w sound big in
      let t = list_walk L w window in
      let e = goes_on w (list v slots) (list_begins w sound v slots h) in
      let g = listing_good t w slots (list_good L w window (state_of L w) st) in
      let found : List Rec = map (λ x. x.rec) t.found in
      let is : found ≡ only (λ r. in_window window r.key) (records_of (state_of L w)) = list_finds L w window (state_of L w) st in
      let exact : SameRecords found (inside (domains w) v rs) =
      subst (λ l. SameRecords l (inside (domains w) v rs)) (sym is) (same_only (λ r. in_window window r.key) (records_of (state_of L w)) rs same) in
      let long : length found ≡ length t.found = length-map t.found (λ x. x.rec) in
      let answer : (outcome w (list v slots)).after.answer ≡ take (length slots) (map (λ r. r.loc) found) ++ drop (length found) slots =
      ap (λ o. o.after.answer) e ∙ (g.2 ∙ ap₂ (λ l n. take (length slots) l ++ drop n slots) (sym (map_loc t.found)) (sym long)) in
      record {
        done = ap (λ o. o.number) e ∙ g.0;
        exact = exact;
        order = is;
        total =
            ap (λ o. get_or o.values 0 0) e ∙ (g.1 ∙ (sym long ∙ (ap length is
            ∙ (length_only (λ r. in_window window r.key) (records_of (state_of L w)) ∙ (same (λ r. in_window window r.key) ∙ sym (length_only (λ r. in_window window r.key) rs))))));
        enough = λ h. answer ∙ fill_enough (λ r. r.loc) slots found h;
        few = λ h. answer ∙ fill_few (λ r. r.loc) slots found h;
      }

-- of the records with a key that stands once at the most, two that pass different tests are none
both_keyed : (p : Key) (l m : ℕ) → (l ≡ m → ⊥) → (rs : List Rec)
    → tally (λ r. same p r.key && eqb l r.loc) rs + tally (λ r. same p r.key && eqb m r.loc) rs ≤ tally (keyed p) rs
both_keyed p l m d [] = omega arith
both_keyed p l m d (r ∷ rs) = omega (arith, both_keyed p l m d rs, go (same p r.key))
  where
    apart : (a b : Bool) → (T a → T b → ⊥) → bit a + bit b ≤ 1
    apart true true f = absurd (f tt tt)
    apart true false f = omega arith
    apart false b f = omega (arith, bit_most b)

    go : (t : Bool) → bit (t && eqb l r.loc) + bit (t && eqb m r.loc) ≤ bit t
    go true = apart (eqb l r.loc) (eqb m r.loc) (λ a b. d (eqb→eq l r.loc a ∙ sym (eqb→eq m r.loc b)))
    go false = omega arith

-- the location of the one record with a key
pub one_located : (p : Key) (l : ℕ) (r : Rec) (rs : List Rec) → In r rs → r.key ≡ p → tally (keyed p) rs ≤ 1 → 1 ≤ tally (λ q. same p q.key && eqb l q.loc) rs → r.loc ≡ l
one_located p l r rs i e once h =
    bool (eqb r.loc l) (λ y. eqb→eq r.loc l y)
    (λ n. absurd (omega (
      arith,
      both_keyed p r.loc l (λ z. T_not (eqb r.loc l) n (rw z (eqb_refl l))) rs,
      i.counted (λ q. same p q.key && eqb r.loc q.loc) (and_i (same p r.key) _ (rw e (same_refl p)) (eqb_refl r.loc)),
    )))

-- find's outcome by how its walk ended
finding_here : (g : Search) (b : Buffers) (x : Spot) → g.end ≡ here x → ((finding g b).number ≡ 0) × (get_or (finding g b).values 0 0 ≡ x.rec.loc)
finding_here g b x e = rw e (refl, refl)

finding_absent : (g : Search) (b : Buffers) (j : ℕ) → g.end ≡ absent j → (finding g b).number ≡ 8
finding_absent g b j e = rw e

finding_rootless : (g : Search) (b : Buffers) → g.end ≡ rootless → (finding g b).number ≡ 8
finding_rootless g b e = rw e

module _ (w : List ℕ) (sound : Sound L w) (rs : List Rec) (same-recs : SameRecords (records_of (state_of L w)) rs) (once : (p : Key) → tally (keyed p) rs ≤ 1) where
  find_by : (p : List ℕ) (g : Search) → outcome w (find p) ≡ finding g (lent w (find p)) → Answers rs p g.end → FindsExactly rs p (outcome w (find p))
  find_by p g e a = go g.end refl a
    where
      go : (n : End) → g.end ≡ n → Answers rs p n → FindsExactly rs p (outcome w (find p))
      go rootless q a = absurd a
      go bad q a = absurd a
      go (absent j) q a =
          record {
            here = λ l h. absurd (omega (arith, both_keyed p l (suc l) (λ z. omega arith) rs));
            absent = λ z. ap (λ o. o.number) e ∙ finding_absent g (lent w (find p)) j q;
          }
      go (here x) q a =
          let t = finding_here g (lent w (find p)) x q in
          record {
            here = λ l h. (ap (λ o. o.number) e ∙ t.0, ap (λ o. get_or o.values 0 0) e ∙ (t.1 ∙ one_located p l x.rec rs a.1 a.0 (once p) h));
            absent = λ z. absurd (omega (arith, a.1.counted (keyed p) (rw a.0 (same_refl p))));
          }

  answers_same : (a : List Rec) (p : Key) (n : End) → SameRecords a rs → Answers a p n → Answers rs p n
  answers_same a p rootless e h = h
  answers_same a p bad e h = h
  answers_same a p (absent j) e h = sym (e (keyed p)) ∙ h
  answers_same a p (here x) e h = (h.0, record { counted = λ g t. omega (arith, h.1.counted g t, e g) })

  pub find_finds : (p : List ℕ) → T (good_point (domains w) p) → FindsExactly rs p (outcome w (find p))
  find_finds p h =
      let k = domains w in
      let long = eqb (length p) k in
      let i : T (within (whole k) p) = finite_whole k p (eqb→eq (length p) k (and_l long _ h)) (and_r long _ h) in
      go (state_of L w) (Sound_stands L w sound big) same-recs i (goes_on w (find p) (find_begins w sound p h))
    where
      go : (s : State) → Stands L w s → SameRecords (records_of s) rs → T (within (whole (domains w)) p)
          → outcome w (find p) ≡ finding (find_walk L w p) (lent w (find p)) → FindsExactly rs p (outcome w (find p))
      go none st e i o =
          record {
            here = λ l h. absurd (omega (arith, e (λ r. same p r.key && eqb l r.loc)));
            absent = λ z. ap (λ x. x.number) o ∙ finding_rootless (find_walk L w p) (lent w (find p)) (find_rootless L w p st);
          }
      go (some t) st e i o = find_by p (find_walk L w p) o (answers_same (records t) p (find_walk L w p).end e (find_answers L w p t st i))
