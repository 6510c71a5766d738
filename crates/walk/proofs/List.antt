-- List's walk as code makes it is the definition's: a state that goes through two tours in turn ends as after both joined, stopped at the bound.
use mathlib.Core.Bool.{Bool, true, false, cond}
use mathlib.Core.List.{List, [], ◌∷◌, ◌++◌, append_assoc}
use mathlib.Core.Path.{◌≡◌, refl, sym, ap, ◌∙◌}
use Prim.Native.Nat.{ℕ, suc, ◌+◌, ◌-◌, ◌*◌, ◌<◌}
use native.Mathlib.Omega.{arith}
use native.Mathlib.Numerals.{add-one}
use native.Mathlib.Nat.{add-zero}
use lib.Dec.{ltb}
use lib.ListN.{length, take, drop, get_or, set, length-append, length-map}
use lib.Seq.{sets, drop-cons, take-suc-set, take-set-le}
use borrow.Author.Tests.{lt-ltb, le-ltb, ltb-false}
use Rattle.kdb.specs.Lists.{bit}
use Rattle.kdb.specs.Box.{Box, in_window, meets}
use Rattle.kdb.specs.Pages.{Ent}
use Rattle.kdb.specs.Pool.{domains, pages_in, is_page}
use Rattle.kdb.specs.Walk.{Spot, Tour, still, astray, bad_at, read_at, follow, through, tour}
use Rattle.kdb.specs.Calls.{L}
use Rattle.kdb.proofs.Stores.{sets_append}
use Rattle.std.specs.Int.{from_bool}
use Rattle.std.specs.Prelude.{Result, Ok, Err}
use Rattle.words.specs.declared.Kind.{Kind}
use Rattle.words.specs.declared.Kind.TheVariants.{Region, Point}
use Rattle.words.specs.Words.{word_at, point_location, keys_of, region_at}
use Rattle.words.proofs.Slots.{records_turn}
use Rattle.walk.specs.declared.Stopped.{Stopped}
use Rattle.walk.specs.declared.Tally.{Tally}
use Rattle.walk.specs.Pages.{region_words, point_words, kind_words, entry_place, entries_from}
use Rattle.walk.specs.List.{St, stopped, going, seen, Kept, entered, locations, noted, held, found_in, children_met, each, moved_by, toured}
use Rattle.walk.proofs.Pages.{regions_good, points_good, entries_seen, records_seen, entries_turn}

locations_append : (a b : List Spot) → locations (a ++ b) ≡ locations a ++ locations b
locations_append [] b = refl
locations_append (s ∷ a) b = ap (λ l. s.rec.loc ∷ l) (locations_append a b)

abbrev made : List ℕ → Bool → List Spot → Tour
made rs bad fs = record { read = rs; bad = bad; found = fs }

module _ (N r m : ℕ) (out ra : List ℕ) (fa : List Spot) where
  -- a first tour that met a bad page ends the walk
  moved_bad : (ends : Bool) → ltb (r + length ra) N ≡ ends → (b : Tour) → moved_by N (going r m out) (made ra true fa) ≡ moved_by N (moved_by N (going r m out) (made ra true fa)) b
  moved_bad true e b = rw e
  moved_bad false e b = rw e

  -- and one that met none is gone on from
  moved_good : (rb : List ℕ) (bb : Bool) (fb : List Spot) (ends : Bool) → ltb (r + length ra) N ≡ ends
      → moved_by N (going r m out) (follow (made ra false fa) (made rb bb fb)) ≡ moved_by N (moved_by N (going r m out) (made ra false fa)) (made rb bb fb)
  moved_good rb bb fb true e =
      let reads : r + length (ra ++ rb) ≡ r + length ra + length rb = omega (arith, length-append ra rb) in
      let total : m + length (fa ++ fb) ≡ m + length fa + length fb = omega (arith, length-append fa fb) in
      let slots : sets out m (locations (fa ++ fb)) ≡ sets (sets out m (locations fa)) (m + length fa) (locations fb)
      = rw (locations_append fa fb, ← sets_append out m (locations fa) (locations fb), length-map fa (λ s. s.rec.loc)) in
      rw (reads, total, slots, e)
  moved_good rb bb fb false e =
      let reads : r + length (ra ++ rb) ≡ r + length ra + length rb = omega (arith, length-append ra rb) in
      let over : ltb (r + length ra + length rb) N ≡ false = le-ltb (r + length ra + length rb) N (omega (arith, ltb-false (r + length ra) N e)) in
      rw (reads, over, e)

pub moved_follow : (N : ℕ) (s : St) (a b : Tour) → moved_by N s (follow a b) ≡ moved_by N (moved_by N s a) b
moved_follow N (stopped r) a b = refl
moved_follow N (going r m out) a b = go a.bad
  where
    go : (bad : Bool) → moved_by N (going r m out) (follow (made a.read bad a.found) b) ≡ moved_by N (moved_by N (going r m out) (made a.read bad a.found)) b
    go true = moved_bad N r m out a.read a.found (ltb (r + length a.read) N) refl b
    go false = moved_good N r m out a.read a.found b.read b.bad b.found (ltb (r + length a.read) N) refl

-- what is found in a page
abbrev finds : List Spot → Tour
finds found = made [] false found

notes : (N : ℕ) (t : Tally) (out : List ℕ) (ss : List Spot) → Kept N t → moved_by N (seen (Ok t) out) (finds ss) ≡ going t.reads (noted t.total out ss).0 (noted t.total out ss).1
notes N t out ss g = rw (add-zero t.reads, lt-ltb _ _ g.few)

-- total and slots after a record
module _ (w : List ℕ) (k : ℕ) (v : Box) (j c e t : ℕ) (out : List ℕ) (x : ℕ × List ℕ) where
  abbrev sees : Bool
  sees = in_window v (keys_of k w j e)

  abbrev rest : List Spot
  rest = held w k v j c (e + 1)

  abbrev spot : Spot
  spot = record { page = j; slot = e; rec = record { key = keys_of k w j e; loc = point_location w k j e } }

  pub note_next : noted t out (held w k v j c e) ≡ x → e < c
      → noted (cond sees (t + 1) t) (cond sees (set out t (point_location w k j e)) out) rest ≡ x
  note_next q h = go sees ∙ (rw (records_turn k w j c e h, ← add-one e) at q)
    where
      go : (b : Bool) → noted (cond b (t + 1) t) (cond b (set out t (point_location w k j e)) out) rest ≡ noted t out (cond b (spot ∷ rest) rest)
      go true = let z : t + 1 + length rest ≡ t + suc (length rest) = omega arith in rw (z, add-one t)
      go false = refl

-- the walk over entries is the walk over the children of those that meet
through_met : (below : ℕ → Tour) (v : Box) (es : List Ent) → through below v es ≡ each below (children_met v es)
through_met below v [] = refl
through_met below v (e ∷ es) = go (meets e.box v) (through_met below v es)
  where
    go : (b : Bool) → through below v es ≡ each below (children_met v es)
        → follow (cond b (below e.child) still) (through below v es) ≡ each below (cond b (e.child ∷ children_met v es) (children_met v es))
    go true i = ap (follow (below e.child)) i
    go false i = i

-- a page of a kind alone, and the tours of a page of either kind by the words' test in place of the view's
abbrev stepped : List ℕ → Kind → ℕ → Tour
stepped w kind j = cond (is_page L w j) (cond (kind_words w (domains w) kind j) (read_at j []) (bad_at j)) astray

module _ (w : List ℕ) (v : Box) (j : ℕ) where
  abbrev found : Tour
  found = finds (held w (domains w) v j (word_at w j 1) 0)

  tour_leaf : tour L w v 0 j ≡ follow (stepped w Point j) found
  tour_leaf = go (is_page L w j) refl (point_words w (domains w) j) refl
    where
      go : (is : Bool) → is_page L w j ≡ is → (ok : Bool) → point_words w (domains w) j ≡ ok → tour L w v 0 j ≡ follow (stepped w Point j) found
      go false h ok t = rw h
      go true h true t = rw (points_good w j h ∙ t, records_seen w j h t, t, h)
      go true h false t = rw (points_good w j h ∙ t, t, h)

  module _ (l : ℕ) where
    abbrev below : Tour
    below = each (tour L w v l) (children_met v (entries_from (domains w) w j (word_at w j 1) 0))

    tour_page : tour L w v (suc l) j ≡ follow (stepped w Region j) below
    tour_page = go (is_page L w j) refl (region_words w (domains w) j) refl
      where
        go : (is : Bool) → is_page L w j ≡ is → (ok : Bool) → region_words w (domains w) j ≡ ok → tour L w v (suc l) j ≡ follow (stepped w Region j) below
        go false h ok t = rw h
        go true h true t = rw (regions_good w j h ∙ t, entries_seen w j h t, through_met (tour L w v l) v (entries_from (domains w) w j (word_at w j 1) 0), t, h)
        go true h false t = rw (regions_good w j h ∙ t, t, h)

-- the state at page j, which is to be of the kind
module _ (w : List ℕ) (kind : Kind) (j : ℕ) (s : Tally) (out : List ℕ) (g : Kept (pages_in L w) s) where
  stepped_lem : moved_by (pages_in L w) (going s.reads s.total out) (stepped w kind j) ≡ seen (entered w kind j s) out
  stepped_lem = go (is_page L w j) refl (kind_words w (domains w) kind j) refl (ltb (s.reads + 1) (pages_in L w)) refl
    where
      go : (is : Bool) → is_page L w j ≡ is → (ok : Bool) → kind_words w (domains w) kind j ≡ ok → (more : Bool) → ltb (s.reads + 1) (pages_in L w) ≡ more
          → moved_by (pages_in L w) (going s.reads s.total out) (stepped w kind j) ≡ seen (entered w kind j s) out
      go true h true t true m = rw (h, t, m, add-zero s.total)
      go true h false t true m = rw (h, t, m)
      go true h true t false m = let last : pages_in L w - 1 ≡ s.reads = omega (arith, ltb-false (s.reads + 1) (pages_in L w) m, g.few) in rw (h, t, m, last)
      go true h false t false m = let last : pages_in L w - 1 ≡ s.reads = omega (arith, ltb-false (s.reads + 1) (pages_in L w) m, g.few) in rw (h, t, m, last)
      go false h ok t true m = rw (h, m, add-zero s.reads, lt-ltb _ _ g.few)
      go false h ok t false m = rw (h, m, add-zero s.reads, lt-ltb _ _ g.few)

  -- the tours that begin with it, from what the walk makes of it
  module _ (v : Box) (r : Result Tally Stopped) (q : r ≡ entered w kind j s) where
    onward : (a b : Tour) → a ≡ follow (stepped w kind j) b → moved_by (pages_in L w) (seen r out) b ≡ moved_by (pages_in L w) (going s.reads s.total out) a
    onward a b e = rw q (ap (λ z. moved_by (pages_in L w) z b) (sym stepped_lem) ∙ sym (moved_follow (pages_in L w) (going s.reads s.total out) (stepped w kind j) b) ∙ ap (moved_by (pages_in L w) (going s.reads s.total out)) (sym e))

module _ (w : List ℕ) (v : Box) (j : ℕ) (s : Tally) (out : List ℕ) (g : Kept (pages_in L w) s) where
  -- a page of the last level
  module _ (r : Result Tally Stopped) (q : r ≡ entered w Point j s) where
    leaf : moved_by (pages_in L w) (seen r out) (found w v j) ≡ toured w v s out 0 j
    leaf = onward w Point j s out g v r q (tour L w v 0 j) (found w v j) (tour_leaf w v j)

  pub leaf_bad : (e : Stopped) → Err e ≡ entered w Point j s → stopped e.reads ≡ toured w v s out 0 j
  leaf_bad e q = leaf (Err e) q

  pub leaf_good : (t : Tally) → Ok t ≡ entered w Point j s → Kept (pages_in L w) t → (total : ℕ) (out' : List ℕ) → (total, out') ≡ found_in w (domains w) v j t.total out
      → going t.reads total out' ≡ toured w v s out 0 j
  leaf_good t q k total out' z = ap (λ p. going t.reads p.0 p.1) z ∙ sym (notes (pages_in L w) t out (held w (domains w) v j (word_at w j 1) 0) k) ∙ leaf (Ok t) q

  -- a region page, l levels from it on
  module _ (l : ℕ) (h : 1 < l) where
    page : (r : Result Tally Stopped) → r ≡ entered w Region j s → moved_by (pages_in L w) (seen r out) (below w v j (l - 1 - 1)) ≡ toured w v s out (l - 1) j
    page r q =
        let z : l - 1 ≡ suc (l - 1 - 1) = omega arith in
        onward w Region j s out g v r q (tour L w v (l - 1) j) (below w v j (l - 1 - 1)) (ap (λ (i : ℕ). tour L w v i j) z ∙ tour_page w v j (l - 1 - 1))

    pub page_bad : (e : Stopped) → Err e ≡ entered w Region j s → stopped e.reads ≡ toured w v s out (l - 1) j
    page_bad e q = page (Err e) q

    pub page_good : (t : Tally) → Ok t ≡ entered w Region j s → (js : List ℕ) → js ≡ children_met v (entries_from (domains w) w j (word_at w j 1) 0)
        → moved_by (pages_in L w) (going t.reads t.total out) (each (tour L w v (l - 1 - 1)) js) ≡ toured w v s out (l - 1) j
    page_good t q js z = rw z (page (Ok t) q)

-- a record's words, as code reads them
pub record_words : (k : ℕ) (w : List ℕ) (j e n : ℕ) (x : List ℕ) → n ≡ k → x ≡ w
    → (take (32 * j + 4 + e * (n + 1) + n - (32 * j + 4 + e * (n + 1))) (drop (32 * j + 4 + e * (n + 1)) x) ≡ keys_of k w j e) × (get_or x (32 * j + 4 + e * (n + 1) + n) 0 ≡ point_location w k j e)
record_words k w j e n x p q =
    let z : 32 * j + 4 + e * (k + 1) + k - (32 * j + 4 + e * (k + 1)) ≡ k = omega arith in
    let a : 32 * j + 4 + e * (k + 1) ≡ 32 * j + 4 + e * (k + 1) + 0 = omega arith in
    rw (p, q) (rw z (ap (λ (i : ℕ). take k (drop i w)) a), refl)

-- 1 or 0 more
pub one : (b : Bool) → from_bool b ≡ bit b
one true = refl
one false = refl

-- the children of the entries from entry e on, behind those that are there
module _ (k : ℕ) (w : List ℕ) (v : Box) (j c e m : ℕ) (ch x : List ℕ) (q : take m ch ++ children_met v (entries_from k w j c e) ≡ x) where
  abbrev entry : ℕ
  entry = get_or w (entry_place k j e + 2 * k) 0

  abbrev others : List ℕ
  others = children_met v (entries_from k w j c (e + 1))

  pub children_next : e < c → m < length ch → take (m + bit (meets (region_at k w (entry_place k j e)) v)) (set ch m entry) ++ others ≡ x
  children_next h l = go (meets (region_at k w (entry_place k j e)) v) ∙ (rw (entries_turn k w j c e h) at q)
    where
      go : (b : Bool) → take (m + bit b) (set ch m entry) ++ others ≡ take m ch ++ cond b (entry ∷ others) others
      go true = rw (add-one m, take-suc-set ch m entry l) (append_assoc (take m ch) (entry ∷ []) others)
      go false = rw (add-zero m, take-set-le m ch m entry (omega arith))

-- of these pages, n levels above the point pages, those after i others
module _ (w : List ℕ) (v : Box) (n : ℕ) (js : List ℕ) (i : ℕ) (t : Tally) (out : List ℕ) (x : St)
    (q : moved_by (pages_in L w) (going t.reads t.total out) (each (tour L w v n) (drop i js)) ≡ x) where
  pub each_next : i < length js → (z : St) → z ≡ toured w v t out n (get_or js i 0) → moved_by (pages_in L w) z (each (tour L w v n) (drop (i + 1) js)) ≡ x
  each_next h z e =
      let y : drop i js ≡ get_or js i 0 ∷ drop (i + 1) js = rw (drop-cons js i 0 h, add-one i) in
      rw e (sym (moved_follow (pages_in L w) (going t.reads t.total out) (tour L w v n (get_or js i 0)) (each (tour L w v n) (drop (i + 1) js))) ∙ (rw y at q))
