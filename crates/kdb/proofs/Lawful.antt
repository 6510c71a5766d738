-- That each row of the table is lawful: what the general statements about calls need of a call. A new call needs its row, its clause of
-- `makes`, and its clause of `lawful`.
use mathlib.Core.Bool.{Bool, true, false, ◌&&◌, ◌||◌, not, cond}
use mathlib.Core.List.{List, [], ◌∷◌, ◌++◌}
use mathlib.Core.Option.{Option, none, some}
use mathlib.Core.Path.{◌≡◌, refl, sym, ap, ◌∙◌, subst}
use Prim.Native.Nat.{ℕ, ◌-◌, ◌*◌, ◌≤◌}
use native.Mathlib.Omega.{arith}
use lib.Dec.{T, ltb, eqb, ltb→lt}
use lib.ListN.{length}
use Rattle.kdb.specs.Lists.{Each, every}
use Rattle.kdb.specs.Tree.{State}
use Rattle.kdb.specs.Pool.{domains, pages_in, good_length, good_header}
use Rattle.kdb.specs.Walk.{Spot, End, rootless, bad, absent, here, ends, find_walk, list_walk}
use Rattle.kdb.specs.declared.Refusal.{Refusal}
use Rattle.kdb.specs.declared.Refusal.TheVariants.{WindowOrder, Unsound, Absent, NoFreePage, PoolLength}
use Rattle.kdb.specs.Calls.{L, Call, format, check, place, remove, find, list, Buffers, alone, lent, Outcome, gives, refuses, number_of, Test, ◌or◌, all_hold, head_tests, tests, core, begins, good_domains, ordered, window_of, placing, stepped, removing, finding, listing, Route, no_walk, to_point, over_window, Row, row, read_on, walk_of, outcome}
use Rattle.kdb.specs.History.{Effect, makes}
use Rattle.kdb.specs.Demands.{given_to, headed, fitting, ends_in, walks, Told}
use Rattle.kdb.proofs.Tests.{and_l, and_r, cases}
use Rattle.kdb.proofs.Pool.{length_iff, header_iff}
use Rattle.kdb.proofs.Walk.{list_length, find_length, route_bound}
use Rattle.kdb.proofs.Fits.{Word, SitedEnd, find_sited, list_few}
use Rattle.kdb.proofs.Calls.{judge_after, done}
use Rattle.kdb.proofs.Effects.{Does, sized, place_passed, place_placing, remove_passed, placing_does, removing_does}

-- what a call does once its tests hold: it is refused with 6 or more, with the pool as it was and no values, or returns n values
pub record Proper (w : List ℕ) (n : ℕ) (o : Outcome) : Type 0 where
  pub late : (m : ℕ) → 1 ≤ m → m ≤ 5 → o.number ≡ m → ⊥
  pub kept : (o.number ≡ 0 → ⊥) → o.after.pool ≡ w
  pub quiet : (o.number ≡ 0 → ⊥) → o.values ≡ []
  pub told : o.number ≡ 0 → length o.values ≡ n

refuses_proper : (w : List ℕ) (n : ℕ) (r : Refusal) (b : Buffers) → T (ltb 5 (number_of r)) → b.pool ≡ w → Proper w n (refuses r b)
refuses_proper w n r b h e =
    let six = ltb→lt 5 (number_of r) h in
    record { late = λ m a z y. omega arith; kept = λ _. e; quiet = λ _. refl; told = λ y. absurd (omega arith) }

gives_proper : (w : List ℕ) (n : ℕ) (vs : List ℕ) (b : Buffers) → length vs ≡ n → Proper w n (gives vs b)
gives_proper w n vs b e = record { late = λ m a z y. omega arith; kept = λ h. absurd (h refl); quiet = λ h. absurd (h refl); told = λ _. e }

placing_proper : (w : List ℕ) (o : Option State) → Proper w 0 (placing o w)
placing_proper w none = refuses_proper w 0 NoFreePage _ tt refl
placing_proper w (some s) = gives_proper w 0 [] _ refl

removing_proper : (w p : List ℕ) (e : End) → Proper w 1 (removing e w p)
removing_proper w p rootless = refuses_proper w 1 Absent _ tt refl
removing_proper w p bad = refuses_proper w 1 Unsound _ tt refl
removing_proper w p (absent j) = refuses_proper w 1 Absent _ tt refl
removing_proper w p (here s) = gives_proper w 1 (s.rec.loc ∷ []) _ refl

finding_proper : (w read : List ℕ) (e : End) → Proper w 2 (finding (ends read e) (alone w))
finding_proper w read rootless = refuses_proper w 2 Absent _ tt refl
finding_proper w read bad = refuses_proper w 2 Unsound _ tt refl
finding_proper w read (absent j) = refuses_proper w 2 Absent _ tt refl
finding_proper w read (here s) = gives_proper w 2 (s.rec.loc ∷ length read ∷ []) _ refl

listing_proper : (w answer read : List ℕ) (m : Bool) (found : List Spot) → Proper w 2 (listing (record { read = read; bad = m; found = found }) w answer)
listing_proper w answer read true found = refuses_proper w 2 Unsound _ tt refl
listing_proper w answer read false found = gives_proper w 2 (length found ∷ length read ∷ []) _ refl

-- find and list keep the pool
finding_still : (w read : List ℕ) (e : End) → (finding (ends read e) (alone w)).after.pool ≡ w
finding_still w read rootless = refl
finding_still w read bad = refl
finding_still w read (absent j) = refl
finding_still w read (here s) = refl

listing_still : (w answer read : List ℕ) (m : Bool) (found : List Spot) → (listing (record { read = read; bad = m; found = found }) w answer).after.pool ≡ w
listing_still w answer read true found = refl
listing_still w answer read false found = refl

-- the values of what the calls return are words
removing_fits : (w p : List ℕ) (e : End) → SitedEnd e → Each Word (removing e w p).values
removing_fits w p rootless h = tt
removing_fits w p bad h = tt
removing_fits w p (absent j) h = tt
removing_fits w p (here s) h = (h, tt)

finding_fits : (b : Buffers) (read : List ℕ) (e : End) → SitedEnd e → Word (length read) → Each Word (finding (ends read e) b).values
finding_fits b read rootless h r = tt
finding_fits b read bad h r = tt
finding_fits b read (absent j) h r = tt
finding_fits b read (here s) h r = (h, (r, tt))

listing_fits : (w answer read : List ℕ) (m : Bool) (found : List Spot) → Word (length found) → Word (length read)
    → Each Word (listing (record { read = read; bad = m; found = found }) w answer).values
listing_fits w answer read true found f r = tt
listing_fits w answer read false found f r = (f, (r, tt))

placing_fits : (w : List ℕ) (o : Option State) → Each Word (placing o w).values
placing_fits w none = tt
placing_fits w (some s) = tt

-- the walk of a route is the same in both pools
abbrev pub SameWalk : List ℕ → List ℕ → Route → Type 0
SameWalk w w' no_walk = Unit {0}
SameWalk w w' (to_point p) = find_walk L w' p ≡ find_walk L w p
SameWalk w w' (over_window v) = list_walk L w' v ≡ list_walk L w v

-- a call with a walk, on two pools with as many domains: all but the walk is the same, and with the same walk so is what it tells
pub record SameRow (w w' : List ℕ) (r : Row) : Type 0 where
  pub fits : r.fits w' ≡ r.fits w
  pub own : r.own w' ≡ r.own w
  pub route : r.route w' ≡ r.route w
  pub answer : (r.lent w').answer ≡ (r.lent w).answer
  pub told : SameWalk w w' (r.route w) → Told (r.core w) (r.core w')

finding_told : (w w' read : List ℕ) (e : End) → Told (finding (ends read e) (alone w)) (finding (ends read e) (alone w'))
finding_told w w' read rootless = record { number = refl; values = refl; answer = refl }
finding_told w w' read bad = record { number = refl; values = refl; answer = refl }
finding_told w w' read (absent j) = record { number = refl; values = refl; answer = refl }
finding_told w w' read (here s) = record { number = refl; values = refl; answer = refl }

listing_told : (w w' answer read : List ℕ) (m : Bool) (found : List Spot)
    → Told (listing (record { read = read; bad = m; found = found }) w answer) (listing (record { read = read; bad = m; found = found }) w' answer)
listing_told w w' answer read true found = record { number = refl; values = refl; answer = refl }
listing_told w w' answer read false found = record { number = refl; values = refl; answer = refl }

find_alike : (w w' p : List ℕ) → domains w' ≡ domains w → SameRow w w' (row (find p))
find_alike w w' p e =
    record {
      fits = ap (eqb (length p)) e;
      own = refl;
      route = refl;
      answer = refl;
      told = λ s. subst (λ g. Told (finding (find_walk L w p) (alone w)) (finding g (alone w'))) (sym s) (finding_told w w' (find_walk L w p).read (find_walk L w p).end);
    }

list_alike : (w w' v answer : List ℕ) → domains w' ≡ domains w → SameRow w w' (row (list v answer))
list_alike w w' v answer e =
    record {
      fits = ap (λ k. eqb (length v) (2 * k)) e;
      own = ap (λ k. (ordered (window_of k v) or WindowOrder) ∷ []) e;
      route = ap (λ k. over_window (window_of k v)) e;
      answer = refl;
      told = λ s.
          let t = list_walk L w (window_of (domains w) v) in
          subst (λ u. Told (listing t w answer) (listing u w' answer)) (sym (ap (λ k. list_walk L w' (window_of k v)) e ∙ s)) (listing_told w w' answer t.read t.bad t.found);
    }

-- the numbers of a call's own refusals come after those of the tests before them, a walk needs a good header, and only a call that does not
-- look at the header changes the pool's size
abbrev later : Bool → List Test → Bool
later looks ts = every (λ t. ltb (cond looks 4 1) (number_of t.refusal)) ts

abbrev plain : List ℕ → Row → Effect → Bool
plain w r e = later r.headed (r.own w) && (not (walks (r.route w)) || r.headed) && (not r.headed || sized e)

pub record Lawful (c : Call) : Type 0 where
  -- the row says what the call is given, and that it is lent the pool
  pub takes : (w : List ℕ) → ◌≡◌ {A = Bool × (Bool × List ℕ)} (headed (given_to c), (fitting w (given_to c), ends_in (given_to c))) ((row c).headed, ((row c).fits w, (row c).ends))
  pub lends : (w : List ℕ) → (lent w c).pool ≡ w
  pub fair : (w : List ℕ) → T (plain w (row c) (makes c))
  -- what it returns, what it does to the pool, and what its answer depends on
  pub proper : (w : List ℕ) → Proper w (row c).returns (core w c)
  pub fits : (w : List ℕ) → Each Word w → T (begins w c) → Each Word (core w c).values
  pub does : (w : List ℕ) → T (begins w c) → (core w c).number ≡ 0 → Does w (makes c) (core w c).after.pool
  pub alike : (w w' : List ℕ) → T (walks ((row c).route w)) → domains w' ≡ domains w → SameRow w w' (row c)

-- find's and list's values are words, in a pool of good length
find_fits : (w p : List ℕ) → Each Word w → T (begins w (find p)) → Each Word (core w (find p)).values
find_fits w p h s =
    let long = (length_iff L w).0 (and_l (good_length L w) _ s) in
    let head = (header_iff L w).0 (and_l (good_header L w) _ (and_r (good_length L w) _ s)) in
    finding_fits (alone w) (find_walk L w p).read (find_walk L w p).end (find_sited w p h) (omega (arith, find_length L w p))

list_fits : (w v answer : List ℕ) → T (begins w (list v answer)) → Each Word (core w (list v answer)).values
list_fits w v answer s =
    let t = list_walk L w (window_of (domains w) v) in
    let long = (length_iff L w).0 (and_l (good_length L w) _ s) in
    let few = list_length L w (window_of (domains w) v) in
    listing_fits w answer t.read t.bad t.found (omega (arith, list_few w (window_of (domains w) v))) (omega arith)

pub lawful : (c : Call) → Lawful c
lawful (format k) =
    record {
      takes = λ w. refl;
      lends = λ w. refl;
      fair = λ w. tt;
      proper = λ w. gives_proper w 0 [] _ refl;
      fits = λ w h b. tt;
      does = λ w b z. record { long = and_l (good_length L w) _ b; good = and_l (good_domains k) _ (and_r (good_length L w) _ b); pool = refl };
      alike = λ w w' t e. absurd t;
    }
lawful check =
    record {
      takes = λ w. refl;
      lends = λ w. refl;
      fair = λ w. tt;
      proper = λ w. gives_proper w 0 [] _ refl;
      fits = λ w h b. tt;
      does = λ w b z. refl;
      alike = λ w w' t e. absurd t;
    }
lawful (place work p l) =
    record {
      takes = λ w. refl;
      lends = λ w. refl;
      fair = λ w. tt;
      proper = λ w. placing_proper w (stepped w (record { key = p; loc = l }));
      fits = λ w h b. placing_fits w (stepped w (record { key = p; loc = l }));
      does = λ w b z.
          placing_does w p l (place_passed w work p l b).0.well (place_placing w work p l b) (stepped w (record { key = p; loc = l })) refl z;
      alike = λ w w' t e. absurd t;
    }
lawful (remove p) =
    record {
      takes = λ w. refl;
      lends = λ w. refl;
      fair = λ w. tt;
      proper = λ w. removing_proper w p (find_walk L w p).end;
      fits = λ w h b. removing_fits w p (find_walk L w p).end (find_sited w p h);
      does = λ w b z. removing_does w p (remove_passed w p b) (find_walk L w p).end refl z;
      alike = λ w w' t e. absurd t;
    }
lawful (find p) =
    record {
      takes = λ w. refl;
      lends = λ w. refl;
      fair = λ w. tt;
      proper = λ w. finding_proper w (find_walk L w p).read (find_walk L w p).end;
      fits = λ w h b. find_fits w p h b;
      does = λ w b z. finding_still w (find_walk L w p).read (find_walk L w p).end;
      alike = λ w w' t e. find_alike w w' p e;
    }
lawful (list v answer) =
    record {
      takes = λ w. refl;
      lends = λ w. refl;
      fair = λ w. tt;
      proper = λ w. let t = list_walk L w (window_of (domains w) v) in listing_proper w answer t.read t.bad t.found;
      fits = λ w h b. list_fits w v answer b;
      does = λ w b z. let t = list_walk L w (window_of (domains w) v) in listing_still w answer t.read t.bad t.found;
      alike = λ w w' t e. list_alike w w' v answer e;
    }

or_r : (a b : Bool) → T (not a || b) → T a → T b
or_r true b h t = h
or_r false b h t = absurd t

pub late : (w : List ℕ) (c : Call) → T (later (row c).headed ((row c).own w))
late w c = and_l (later (row c).headed ((row c).own w)) _ (and_l (later (row c).headed ((row c).own w) && (not (walks ((row c).route w)) || (row c).headed)) _ ((lawful c).fair w))

walking : (w : List ℕ) (c : Call) → T (walks ((row c).route w)) → T (row c).headed
walking w c =
    or_r (walks ((row c).route w)) (row c).headed
    (and_r (later (row c).headed ((row c).own w)) _ (and_l (later (row c).headed ((row c).own w) && (not (walks ((row c).route w)) || (row c).headed)) _ ((lawful c).fair w)))

pub sizes : (c : Call) → T (row c).headed → T (sized (makes c))
sizes c =
    or_r (row c).headed (sized (makes c))
    (and_r (later (row c).headed ((row c).own []) && (not (walks ((row c).route [])) || (row c).headed)) _ ((lawful c).fair []))

-- So, of every call: the pool is unchanged after every refusal
pub refusal_keeps : (w : List ℕ) (c : Call) → ((outcome w c).number ≡ 0 → ⊥) → (outcome w c).after.pool ≡ w
unfolding outcome
refusal_keeps w c =
    judge_after (λ o. (o.number ≡ 0 → ⊥) → o.after.pool ≡ w) (tests w c) (lent w c) (core w c) (λ r _. (lawful c).lends w) (λ _. ((lawful c).proper w).kept)

-- a refusal returns its number and nothing else, and what is done returns as many values as the row says
pub quiet : (w : List ℕ) (c : Call) → ((outcome w c).number ≡ 0 → ⊥) → (outcome w c).values ≡ []
unfolding outcome
quiet w c = judge_after (λ o. (o.number ≡ 0 → ⊥) → o.values ≡ []) (tests w c) (lent w c) (core w c) (λ r _. refl) (λ _. ((lawful c).proper w).quiet)

pub returned : (w : List ℕ) (c : Call) → (outcome w c).number ≡ 0 → length (outcome w c).values ≡ (row c).returns
returned w c z =
    let d = done w c z in
    ap (λ o. length o.values) d.1 ∙ ((lawful c).proper w).told (sym (ap (λ o. o.number) d.1) ∙ z)

-- on words below 2 ^ 32 every value that is returned fits a word
pub outcome_fits : (w : List ℕ) (c : Call) → Each Word w → Each Word (outcome w c).values
unfolding outcome
outcome_fits w c h = judge_after (λ o. Each Word o.values) (tests w c) (lent w c) (core w c) (λ r. tt) ((lawful c).fits w h)

-- the effect of a call that is done
pub done_does : (w : List ℕ) (c : Call) → (outcome w c).number ≡ 0 → Does w (makes c) (outcome w c).after.pool
done_does w c z =
    let d = done w c z in
    subst (λ o. Does w (makes c) o.after.pool) (sym d.1) ((lawful c).does w d.0 (sym (ap (λ o. o.number) d.1) ∙ z))

-- a call that looks at the header and begins has a good one
pub begun_header : (w : List ℕ) (c : Call) → T (row c).headed → T (begins w c) → T (good_header L w)
begun_header w c y h = go (row c).headed ((row c).fits w) (row c).ends ((row c).own w) y h
  where
    go : (x f : Bool) (es : List ℕ) (us : List Test) → T x → T (all_hold (cond x (head_tests w f es) ((good_length L w or PoolLength) ∷ []) ++ us)) → T (good_header L w)
    go true f es us y h = and_l (good_header L w) _ (and_r (good_length L w) _ h)
    go false f es us y h = absurd y

-- no walk is longer than N − 1, on any words
pub walk_bound : (w : List ℕ) (c : Call) → length (walk_of w c) ≤ pages_in L w - 1
walk_bound w c =
    cases (λ b. (T b → length (read_on w ((row c).route w)) ≤ pages_in L w - 1) → length (cond b (read_on w ((row c).route w)) []) ≤ pages_in L w - 1) (begins w c)
    (λ _ f. f tt) (λ _ _. omega arith) (λ h. route_bound w ((row c).route w) (λ t. begun_header w c (walking w c t) h))
