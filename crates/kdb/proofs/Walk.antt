-- The walks of find and list over any words: no walk is longer than N − 1 and reads anything but pages of 1 to N − 1, and the count that
-- a call returns is its walk's length.
use mathlib.Core.Bool.{Bool, true, false, cond}
use mathlib.Core.List.{List, [], ◌∷◌, ◌++◌, append_assoc}
use mathlib.Core.Path.{◌≡◌, refl, sym, ap, ◌∙◌}
use Prim.Native.Nat.{ℕ, zero, suc, ◌+◌, ◌-◌, ◌<◌, ◌≤◌}
use native.Mathlib.Omega.{arith}
use lib.Dec.{T, leb, ltb, eqb, leb→le, ltb→lt, eqb→eq}
use lib.ListN.{length, take, get_or, length-take, length-append}
use lib.Seq.{get_or_at}
use Rattle.kdb.specs.Lists.{only, every, Each, many, same}
use Rattle.kdb.specs.Box.{Box, Key, within, in_window, meets}
use Rattle.kdb.specs.Tree.{Rec}
use Rattle.kdb.specs.Pages.{Ent, recs_in, ents_in}
use Rattle.kdb.specs.Pool.{domains, root_at, levels_at, pages_in, view, good_header, is_page}
use Rattle.kdb.specs.Walk.{Spot, Tour, still, astray, bad_at, read_at, follow, through, good_points, good_regions, tour, bounded, list_walk, End, rootless, bad, absent, here, Search, ends, after, into, seek, find_walk, spots, spot_of}
use Rattle.kdb.proofs.Calls.{done}
use Rattle.kdb.proofs.Pool.{header_iff}
use Rattle.kdb.specs.Calls.{L, Call, find, list, Buffers, finding, listing, filled, lent, outcome, window_of, begins, walk_of, Route, no_walk, to_point, over_window, row, read_on}
use Rattle.kdb.specs.Demands.{walks}
use Rattle.kdb.proofs.Tests.{and_l, and_r, and_i, cases, is_true, some_many}
use Rattle.kdb.proofs.Lists.{every_append, every_take, same_eq}
use Rattle.kdb.proofs.Counts.{every_many}

-- at a page of the pool and elsewhere; at a good page and at a bad one
at_page : {A : Type 0} (P : A → Type 0) (page good : Bool) (x y z : A) → (T page → T good → P x) → (T page → P y) → P z → P (cond page (cond good x y) z)
at_page P false good x y z f g h = h
at_page P true true x y z f g h = f tt tt
at_page P true false x y z f g h = g tt

-- what a property needs so that every search has it, n levels above the point pages: it holds where a search ends, and of a page with the search below it
pub record EverySearch (L : ℕ) (w : List ℕ) (p : Key) (P : ℕ → Search → Type 0) : Type 0 where
  pub lost : (n : ℕ) → P n (ends [] bad)
  pub spoilt : (n j : ℕ) → T (is_page L w j) → P n (ends (j ∷ []) bad)
  pub last : (j : ℕ) → T (is_page L w j) → P 0 (ends (j ∷ []) (spot_of j p (spots j 0 (recs_in (view L w j)))))
  pub down : (n j : ℕ) (s : Search) → T (is_page L w j) → P n s → P (suc n) (after j s)

-- likewise for tours: nothing read, no page, a bad page, a region page alone, a point page, and one tour with the next
pub record EveryTour (L : ℕ) (w : List ℕ) (v : Box) (P : Tour → Type 0) : Type 0 where
  pub none : P still
  pub lost : P astray
  pub spoilt : (j : ℕ) → T (is_page L w j) → P (bad_at j)
  pub page : (j : ℕ) → T (is_page L w j) → P (read_at j [])
  pub last : (j : ℕ) → T (is_page L w j) → T (good_points L w j) → P (read_at j (only (λ s. in_window v s.rec.key) (spots j 0 (recs_in (view L w j)))))
  pub both : (a b : Tour) → P a → P b → P (record { read = a.read ++ b.read; bad = b.bad; found = a.found ++ b.found })

module _ (L : ℕ) (w : List ℕ) where
  pub seek_all : (p : Key) (P : ℕ → Search → Type 0) → EverySearch L w p P → (n j : ℕ) → P n (seek L w p n j)
  seek_all p P h = go
    where
      under : (n : ℕ) → ((c : ℕ) → P n (seek L w p n c)) → (es : List Ent) → P n (into (seek L w p n) p es)
      under n i [] = h.lost n
      under n i (e ∷ es) = cases (λ b. P n (cond b (seek L w p n e.child) (into (seek L w p n) p es))) (within e.box p) (λ _. i e.child) (λ _. under n i es)

      go : (n j : ℕ) → P n (seek L w p n j)
      go zero j = at_page (P zero) (is_page L w j) (good_points L w j) _ _ _ (λ y _. h.last j y) (h.spoilt zero j) (h.lost zero)
      go (suc n) j =
          at_page (P (suc n)) (is_page L w j) (good_regions L w j) _ _ _ (λ y _. h.down n j _ y (under n (go n) (ents_in (view L w j)))) (h.spoilt (suc n) j) (h.lost (suc n))

  pub tour_all : (v : Box) (P : Tour → Type 0) → EveryTour L w v P → (n j : ℕ) → P (tour L w v n j)
  tour_all v P h = go
    where
      next : (a b : Tour) → P a → P b → P (follow a b)
      next a b s t = cases (λ z. P (cond z a (record { read = a.read ++ b.read; bad = b.bad; found = a.found ++ b.found }))) a.bad (λ _. s) (λ _. h.both a b s t)

      under : (n : ℕ) → ((c : ℕ) → P (tour L w v n c)) → (es : List Ent) → P (through (tour L w v n) v es)
      under n i [] = h.none
      under n i (e ∷ es) = next _ _ (cases (λ b. P (cond b (tour L w v n e.child) still)) (meets e.box v) (λ _. i e.child) (λ _. h.none)) (under n i es)

      go : (n j : ℕ) → P (tour L w v n j)
      go zero j = at_page P (is_page L w j) (good_points L w j) _ _ _ (h.last j) (h.spoilt j) h.lost
      go (suc n) j =
          at_page P (is_page L w j) (good_regions L w j) _ _ _ (λ y _. next (read_at j []) _ (h.page j y) (under n (go n) (ents_in (view L w j)))) (h.spoilt j) h.lost

  -- a walk of find: with no root, or a search from it
  pub find_all : (p : Key) (P : Search → Type 0) → (levels_at w ≡ 0 → P (ends [] rootless)) → (1 ≤ levels_at w → P (seek L w p (levels_at w - 1) (root_at w))) → P (find_walk L w p)
  find_all p P r s =
      cases (λ b. P (cond b (ends [] rootless) (seek L w p (levels_at w - 1) (root_at w)))) (eqb (levels_at w) 0) (λ h. r (eqb→eq (levels_at w) 0 h)) (λ h. s (some_many (levels_at w) h))

  -- a walk of list: with no root, within its bound, or stopped
  pub list_all : (v : Box) (P : Tour → Type 0) → P still → (let t = tour L w v (levels_at w - 1) (root_at w) in (length t.read < pages_in L w → P t)
      → P (record { read = take (pages_in L w - 1) t.read; bad = true; found = [] }) → P (list_walk L w v))
  list_all v P n f g =
      let N = pages_in L w in
      let t = tour L w v (levels_at w - 1) (root_at w) in
      cases (λ b. P (cond b still (bounded N t))) (eqb (levels_at w) 0) (λ _. n)
      (λ _. cases (λ b. P (cond b t (record { read = take (N - 1) t.read; bad = true; found = [] }))) (ltb (length t.read) N) (λ h. f (ltb→lt (length t.read) N h)) (λ _. g))

  pub list_length : (v : Box) → length (list_walk L w v).read ≤ pages_in L w - 1
  list_length v =
      list_all v (λ t. length t.read ≤ pages_in L w - 1) (omega arith) (λ h. omega arith) (omega (arith, length-take (pages_in L w - 1) (tour L w v (levels_at w - 1) (root_at w)).read))

  pub seek_length : (p : Key) (n j : ℕ) → length (seek L w p n j).read ≤ n + 1
  seek_length p =
      seek_all p (λ n s. length s.read ≤ n + 1)
      (record { lost = λ n. omega arith; spoilt = λ n j y. omega arith; last = λ j y. omega arith; down = λ n j s y h. omega arith })

  pub find_length : (p : Key) → length (find_walk L w p).read ≤ levels_at w
  find_length p = find_all p (λ s. length s.read ≤ levels_at w) (λ _. omega arith) (λ h. omega (arith, seek_length p (levels_at w - 1) (root_at w)))

  -- a walk reads nothing but pages
  one_page : (j : ℕ) → T (is_page L w j) → T (every (is_page L w) (j ∷ []))
  one_page j h = and_i (is_page L w j) true h tt

  pub list_pages : (v : Box) → T (every (is_page L w) (list_walk L w v).read)
  list_pages v =
      let h = tour_all v (λ t. T (every (is_page L w) t.read))
      (record { none = tt; lost = tt; spoilt = one_page; page = one_page; last = λ j y _. one_page j y; both = λ a b. every_append (is_page L w) a.read b.read })
      (levels_at w - 1) (root_at w) in
      list_all v (λ t. T (every (is_page L w) t.read)) tt (λ _. h) (every_take (is_page L w) (pages_in L w - 1) (tour L w v (levels_at w - 1) (root_at w)).read h)

  find_pages : (p : Key) → T (every (is_page L w) (find_walk L w p).read)
  find_pages p =
      find_all p (λ s. T (every (is_page L w) s.read)) (λ _. tt)
      (λ _. seek_all p (λ n s. T (every (is_page L w) s.read))
      (record { lost = λ n. tt; spoilt = λ n. one_page; last = one_page; down = λ n j s y h. and_i (is_page L w j) _ y h }) (levels_at w - 1) (root_at w))

-- no walk is longer than N − 1: find's in a pool with a good header, list's on any words
pub route_bound : (w : List ℕ) (r : Route) → (T (walks r) → T (good_header L w)) → length (read_on w r) ≤ pages_in L w - 1
route_bound w no_walk h = omega arith
route_bound w (to_point p) h = omega (arith, find_length L w p, (header_iff L w).0 (h tt))
route_bound w (over_window v) h = list_length L w v

-- every number on a walk is a page's
route_every : (w : List ℕ) (r : Route) → T (every (is_page L w) (read_on w r))
route_every w no_walk = tt
route_every w (to_point p) = find_pages L w p
route_every w (over_window v) = list_pages L w v

pub page_e : (L : ℕ) (w : List ℕ) (j : ℕ) → T (is_page L w j) → (1 ≤ j) × (j < pages_in L w)
page_e L w j h = (leb→le 1 j (and_l (leb 1 j) _ h), ltb→lt j (pages_in L w) (and_r (leb 1 j) _ h))

pub walk_pages : (w : List ℕ) (c : Call) (j : ℕ) → 1 ≤ many j (walk_of w c) → (1 ≤ j) × (j < pages_in L w)
walk_pages w c j h =
    page_e L w j (every_many (is_page L w) (walk_of w c)
    (cases (λ b. T (every (is_page L w) (cond b (read_on w ((row c).route w)) []))) (begins w c) (λ _. route_every w ((row c).route w)) (λ _. tt)) j h)

-- a call refused before its walk begins reads nothing
pub walk_silent : (w : List ℕ) (c : Call) → begins w c ≡ false → walk_of w c ≡ []
walk_silent w c e = rw e

-- the walk of a call that begins
pub walk_begun : (w : List ℕ) (c : Call) → T (begins w c) → walk_of w c ≡ read_on w ((row c).route w)
walk_begun w c h = ap (λ b. cond b (read_on w ((row c).route w)) []) (is_true (begins w c) h)

pub walk_find : (w p : List ℕ) → T (begins w (find p)) → walk_of w (find p) ≡ (find_walk L w p).read
walk_find w p h = walk_begun w (find p) h

pub walk_list : (w v slots : List ℕ) → T (begins w (list v slots)) → walk_of w (list v slots) ≡ (list_walk L w (window_of (domains w) v)).read
walk_list w v slots h = walk_begun w (list v slots) h

-- a find that is done has found a record, and returns its location and the walk's length
pub find_returns : (w p : List ℕ) → (outcome w (find p)).number ≡ 0
    → (x : Spot) × ((find_walk L w p).end ≡ here x) × ((outcome w (find p)).values ≡ x.rec.loc ∷ length (walk_of w (find p)) ∷ [])
unfolding outcome
find_returns w p z =
    let d = done w (find p) z in
    let g = find_walk L w p in
    let told : (finding g (lent w (find p))).number ≡ 0 = sym (ap (λ o. o.number) d.1) ∙ z in
    let r = go g.read g.end (lent w (find p)) told in
    (r.0, r.1, ap (λ o. o.values) d.1 ∙ (r.2 ∙ ap (λ l. r.0.rec.loc ∷ length l ∷ []) (sym (walk_find w p d.0))))
  where
    go : (read : List ℕ) (e : End) (b : Buffers) → (finding (ends read e) b).number ≡ 0
        → (x : Spot) × (e ≡ here x) × ((finding (ends read e) b).values ≡ x.rec.loc ∷ length read ∷ [])
    go read rootless b z = absurd (omega arith)
    go read bad b z = absurd (omega arith)
    go read (absent j) b z = absurd (omega arith)
    go read (here x) b z = (x, refl, refl)

-- a list that is done met no bad page, and returns the total found and the walk's length
pub list_returns : (w v answer : List ℕ) → (outcome w (list v answer)).number ≡ 0
    → ((list_walk L w (window_of (domains w) v)).bad ≡ false)
    × ((outcome w (list v answer)).values ≡ length (list_walk L w (window_of (domains w) v)).found ∷ length (walk_of w (list v answer)) ∷ [])
    × ((outcome w (list v answer)).after.answer ≡ filled answer (list_walk L w (window_of (domains w) v)).found)
unfolding outcome
list_returns w v answer z =
    let d = done w (list v answer) z in
    let t = list_walk L w (window_of (domains w) v) in
    let told : (listing t w answer).number ≡ 0 = sym (ap (λ o. o.number) d.1) ∙ z in
    let r = go t.read t.bad t.found told in (
      r.0,
      ap (λ o. o.values) d.1 ∙ (r.1 ∙ ap (λ l. length t.found ∷ length l ∷ []) (sym (walk_list w v answer d.0))),
      ap (λ o. o.after.answer) d.1 ∙ r.2,
    )
  where
    go : (read : List ℕ) (m : Bool) (found : List Spot) → (listing (record { read = read; bad = m; found = found }) w answer).number ≡ 0
        → (m ≡ false)
        × ((listing (record { read = read; bad = m; found = found }) w answer).values ≡ length found ∷ length read ∷ [])
        × ((listing (record { read = read; bad = m; found = found }) w answer).after.answer ≡ filled answer found)
    go read true found z = absurd (omega arith)
    go read false found z = (refl, refl, refl)

-- the spot's page holds the record in the spot's slot
pub record Named (L : ℕ) (w : List ℕ) (x : Spot) : Type 0 where
  pub slot : x.slot < length (recs_in (view L w x.page))
  pub holds : (d : Rec) → get_or (recs_in (view L w x.page)) x.slot d ≡ x.rec

-- the walk's end, if it is at a record, is at one with the property
abbrev pub Ends : (Spot → Type 0) → End → Type 0
Ends P rootless = Unit {0}
Ends P bad = Unit {0}
Ends P (absent j) = Unit {0}
Ends P (here x) = P x

spots_named : (L : ℕ) (w : List ℕ) (j i : ℕ) (pre rs : List Rec) → length pre ≡ i → pre ++ rs ≡ recs_in (view L w j) → Each (Named L w) (spots j i rs)
spots_named L w j i pre [] h e = tt
spots_named L w j i pre (r ∷ rs) h e = (
  record { slot = omega (arith, ap length e, length-append pre (r ∷ rs)); holds = λ d. ap (λ l. get_or l i d) (sym e) ∙ get_or_at pre r rs d i h },
  spots_named L w j (suc i) (pre ++ (r ∷ [])) rs (omega (arith, length-append pre (r ∷ []))) (append_assoc pre (r ∷ []) rs ∙ e),
)

-- where find ends at a record, that is among those of a page and has the point's keys
spot_ends : (P Q : Spot → Type 0) (j : ℕ) (p : Key) → ((x : Spot) → P x → x.rec.key ≡ p → Q x) → (ss : List Spot) → Each P ss → Ends Q (spot_of j p ss)
spot_ends P Q j p f [] h = tt
spot_ends P Q j p f (s ∷ ss) h =
    cases (λ b. Ends Q (cond b (here s) (spot_of j p ss))) (same p s.rec.key) (λ t. f s h.0 (sym (same_eq p s.rec.key t))) (λ _. spot_ends P Q j p f ss h.1)

pub find_ends : (L : ℕ) (w : List ℕ) (p : Key) (P Q : Spot → Type 0) → ((x : Spot) → P x → x.rec.key ≡ p → Q x) → ((j : ℕ) → Each P (spots j 0 (recs_in (view L w j))))
    → Ends Q (find_walk L w p).end
find_ends L w p P Q f h =
    find_all L w p (λ s. Ends Q s.end) (λ _. tt)
    (λ _. seek_all L w p (λ n s. Ends Q s.end)
    (record { lost = λ n. tt; spoilt = λ n j y. tt; last = λ j y. spot_ends P Q j p f (spots j 0 (recs_in (view L w j))) (h j); down = λ n j s y i. i }) (levels_at w - 1) (root_at w))

-- what find finds stands where it says, on any words
pub find_named : (L : ℕ) (w : List ℕ) (p : Key) → Ends (λ x. Named L w x × (x.rec.key ≡ p)) (find_walk L w p).end
find_named L w p =
    find_ends L w p (Named L w) (λ x. Named L w x × (x.rec.key ≡ p)) (λ x a b. (a, b)) (λ j. spots_named L w j 0 [] (recs_in (view L w j)) refl refl)
