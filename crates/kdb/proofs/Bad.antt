-- When find and list are refused, what they read and what list finds, on any words: the walks of Walk.antt go by the trails of
-- specs/Bad.antt, and a find that is not refused ends in the last page on its list.
use mathlib.Core.Bool.{Bool, true, false, ◌&&◌, ◌||◌, not, cond}
use mathlib.Core.List.{List, [], ◌∷◌, ◌++◌, map, map-append, append-nil}
use mathlib.Core.Logic.{◌↔◌}
use mathlib.Core.Path.{◌≡◌, refl, sym, ap, ap₂, ◌∙◌, subst}
use Prim.Native.Nat.{ℕ, zero, suc, ◌+◌, ◌-◌, ◌≤◌}
use native.Mathlib.Omega.{arith}
use lib.Dec.{T, leb, ltb, eqb, leb→le, nleb→lt, nltb→le, ltb→lt, le→leb, lt→ltb, eqb→eq, T_not, not_T}
use lib.ListN.{length, take, drop, length-map}
use lib.Seq.{take_all, take-nil}
use borrow.Author.Tests.{lt-leb, le-leb}
use Rattle.kdb.specs.Lists.{bit, only, tally, any_of, gather, last_or, same}
use Rattle.kdb.specs.Box.{Box, Key, within, in_window, meets}
use Rattle.kdb.specs.Tree.{Rec}
use Rattle.kdb.specs.Pages.{Ent, Page, blank, points, regions, regions_per, points_per, recs_in, ents_in, is_regions}
use Rattle.kdb.specs.Pool.{domains, root_at, levels_at, pages_in, is_page, view}
use Rattle.kdb.specs.Walk.{Spot, Tour, still, follow, through, good_points, good_regions, tour, bounded, list_walk, End, rootless, bad, absent, here, Search, ends, after, into, seek, find_walk, spots, spot_of}
use Rattle.kdb.specs.Bad.{Stop, spoilt, kind_at, size_at, bad_page, bad_for, trail, find_trail, list_trail, up_to_bad, find_stops, list_stops, list_records}
use Rattle.kdb.specs.Calls.{L, Buffers, finding, listing}
use Rattle.kdb.specs.Demands.{keyed, slotted}
use Rattle.kdb.proofs.Length.{four}
use Rattle.kdb.proofs.Tests.{cases, and_l, is_true, is_false, some_many}
use Rattle.kdb.proofs.Lists.{gather_append}
use Rattle.kdb.proofs.Counts.{length_only}
use Rattle.kdb.proofs.Pages.{word_at_lem}
use Rattle.kdb.proofs.Walk.{seek_all, find_all}
use Rattle.kdb.proofs.Reading.{spots_only}
use Rattle.kdb.proofs.Answers.{map_loc}
use Rattle.kdb.proofs.Words.{kind, count, good_points_lem, good_regions_lem}

-- tests and their opposites
opposite : (a b : Bool) → (T a → T b → ⊥) → ((T a → ⊥) → T b) → not a ≡ b
opposite true true f g = absurd (f tt tt)
opposite true false f g = refl
opposite false true f g = refl
opposite false false f g = absurd (g (λ t. t))

not_zero : (j : ℕ) → not (eqb j 0) ≡ leb 1 j
not_zero j = opposite (eqb j 0) (leb 1 j) (λ a b. omega (arith, eqb→eq j 0 a, leb→le 1 j b)) (λ n. le→leb 1 j (some_many j (not_T (eqb j 0) n)))

not_least : (a b : ℕ) → not (leb a b) ≡ ltb b a
not_least a b = opposite (leb a b) (ltb b a) (λ x y. omega (arith, leb→le a b x, ltb→lt b a y)) (λ n. lt→ltb b a (nleb→lt a b (not_T (leb a b) n)))

not_below : (a b : ℕ) → not (ltb a b) ≡ leb b a
not_below a b = opposite (ltb a b) (leb b a) (λ x y. omega (arith, ltb→lt a b x, leb→le b a y)) (λ n. le→leb b a (omega (arith, nleb→lt (suc a) b (not_T (leb (suc a) b) n))))

-- four tests, or five, of which one holds
not_four : (a b c d : Bool) → a || b || not c || d ≡ not (not a && not b && (c && not d))
not_four true b c d = refl
not_four false true c d = refl
not_four false false true true = refl
not_four false false true false = refl
not_four false false false d = refl

not_five : (a b c d e : Bool) → a || b || not c || d || e ≡ not (not a && not b && (c && not e && not d))
not_five true b c d e = refl
not_five false true c d e = refl
not_five false false true true true = refl
not_five false false true true false = refl
not_five false false true false true = refl
not_five false false true false false = refl
not_five false false false d e = refl

-- tests in place of equal ones
like_four : {a b c d e f g h : Bool} → a ≡ e → b ≡ f → c ≡ g → d ≡ h → not (a && b && (c && d)) ≡ not (e && f && (g && h))
like_four p q r s = rw (p, q, r, s) refl

like_five : {a b c d i e f g h j : Bool} → a ≡ e → b ≡ f → c ≡ g → d ≡ h → i ≡ j → not (a && b && (c && d && i)) ≡ not (e && f && (g && h && j))
like_five p q r s t = rw (p, q, r, s, t) refl

-- both tests of a page as one
page_and : (p g h : Bool) → (p ≡ true → g ≡ h) → p && g ≡ p && h
page_and true g h e = e refl
page_and false g h e = refl

-- a page by the walk's tests and by the words: good, bad, or no page
by_tests : {A : Type 0} (Q : A → Bool → Type 0) (p g : Bool) (x y z : A) → (T p → T g → Q x false) → (p ≡ true → Q y true) → (p ≡ false → Q z true) → Q (cond p (cond g x y) z) (not (p && g))
by_tests Q true true x y z f a b = f tt tt
by_tests Q true false x y z f a b = a refl
by_tests Q false g x y z f a b = b refl

-- one trail after another
spoilt_append : (a b : List Stop) → spoilt (a ++ b) ≡ spoilt a || spoilt b
spoilt_append [] b = refl
spoilt_append (s ∷ a) b = go s.bad (spoilt_append a b)
  where
    go : (t : Bool) → spoilt (a ++ b) ≡ spoilt a || spoilt b → t || spoilt (a ++ b) ≡ t || spoilt a || spoilt b
    go true e = refl
    go false e = e

module _ (L : ℕ) (w : List ℕ) where
  read_stops : (a b : List Stop) → spoilt a ≡ true → up_to_bad L w (a ++ b) ≡ up_to_bad L w a
  read_stops [] b e = absurd (let z : ◌≡◌ {A = ℕ} 0 1 = cc in omega arith)
  read_stops (s ∷ a) b e = go s.bad e (read_stops a b)
    where
      go : (t : Bool) → t || spoilt a ≡ true → (spoilt a ≡ true → up_to_bad L w (a ++ b) ≡ up_to_bad L w a)
          → cond t (cond (is_page L w s.page) (s.page ∷ []) []) (s.page ∷ up_to_bad L w (a ++ b)) ≡ cond t (cond (is_page L w s.page) (s.page ∷ []) []) (s.page ∷ up_to_bad L w a)
      go true e i = refl
      go false e i = ap (λ l. s.page ∷ l) (i e)

  read_goes : (a b : List Stop) → spoilt a ≡ false → up_to_bad L w (a ++ b) ≡ up_to_bad L w a ++ up_to_bad L w b
  read_goes [] b e = refl
  read_goes (s ∷ a) b e = go s.bad e (read_goes a b)
    where
      go : (t : Bool) → t || spoilt a ≡ false → (spoilt a ≡ false → up_to_bad L w (a ++ b) ≡ up_to_bad L w a ++ up_to_bad L w b)
          → cond t (cond (is_page L w s.page) (s.page ∷ []) []) (s.page ∷ up_to_bad L w (a ++ b)) ≡ cond t (cond (is_page L w s.page) (s.page ∷ []) []) (s.page ∷ up_to_bad L w a) ++ up_to_bad L w b
      go true e i = absurd (let z : ◌≡◌ {A = ℕ} 0 1 = cc in omega arith)
      go false e i = ap (λ l. s.page ∷ l) (i e)

  -- no more is read than the trail has, and all of it where none is bad
  read_most : (ss : List Stop) → length (up_to_bad L w ss) ≤ length ss
  read_most [] = omega arith
  read_most (s ∷ ss) = go s.bad (is_page L w s.page) (read_most ss)
    where
      go : (t p : Bool) → length (up_to_bad L w ss) ≤ length ss → length (cond t (cond p (s.page ∷ []) []) (s.page ∷ up_to_bad L w ss)) ≤ suc (length ss)
      go true true i = omega arith
      go true false i = omega arith
      go false p i = omega arith

  read_all : (ss : List Stop) → spoilt ss ≡ false → length (up_to_bad L w ss) ≡ length ss
  read_all [] e = refl
  read_all (s ∷ ss) e = go s.bad e (read_all ss)
    where
      go : (t : Bool) → t || spoilt ss ≡ false → (spoilt ss ≡ false → length (up_to_bad L w ss) ≡ length ss)
          → length (cond t (cond (is_page L w s.page) (s.page ∷ []) []) (s.page ∷ up_to_bad L w ss)) ≡ suc (length ss)
      go true e i = absurd (let z : ◌≡◌ {A = ℕ} 0 1 = cc in omega arith)
      go false e i = ap suc (i e)

  -- a bad page is read if it is one
  read_bad : (j : ℕ) → is_page L w j ≡ true → j ∷ [] ≡ up_to_bad L w (record { page = j; bad = true } ∷ [])
  read_bad j e = rw e refl

  read_none : (j : ℕ) → is_page L w j ≡ false → [] ≡ up_to_bad L w (record { page = j; bad = true } ∷ [])
  read_none j e = rw e refl

  -- the records of a trail that the window holds
  abbrev pub records_on : Box → List Stop → List Rec
  records_on v ss = gather (λ s. only (λ r. in_window v r.key) (recs_in (view L w s.page))) ss

  -- a walk of list by its trail
  record Toured (v : Box) (t : Tour) (ss : List Stop) : Type 0 where
    stops : t.bad ≡ spoilt ss
    reads : t.read ≡ up_to_bad L w ss
    finds : spoilt ss ≡ false → map (λ x. x.rec) t.found ≡ records_on v ss

  followed : (v : Box) (a c : Tour) (xs ys : List Stop) → Toured v a xs → Toured v c ys → Toured v (follow a c) (xs ++ ys)
  followed v a c xs ys x y = go (spoilt xs) refl
    where
      go : (b : Bool) → spoilt xs ≡ b → Toured v (follow a c) (xs ++ ys)
      go true e =
          let q : a.bad ≡ true = x.stops ∙ e in
          let s : spoilt (xs ++ ys) ≡ true = spoilt_append xs ys ∙ ap (λ b. b || spoilt ys) e in
          subst (λ t. Toured v t (xs ++ ys)) (sym (ap (λ b. cond b a (record { read = a.read ++ c.read; bad = c.bad; found = a.found ++ c.found })) q))
          (record { stops = q ∙ sym s; reads = x.reads ∙ sym (read_stops xs ys e); finds = λ n. absurd (let z : ◌≡◌ {A = ℕ} 0 1 = ap (λ b. cond b 1 0) (sym n ∙ s) in omega arith) })
      go false e =
          let q : a.bad ≡ false = x.stops ∙ e in
          let s : spoilt (xs ++ ys) ≡ spoilt ys = spoilt_append xs ys ∙ ap (λ b. b || spoilt ys) e in
          subst (λ t. Toured v t (xs ++ ys)) (sym (ap (λ b. cond b a (record { read = a.read ++ c.read; bad = c.bad; found = a.found ++ c.found })) q))
          (record {
            stops = y.stops ∙ sym s;
            reads = ap₂ ◌++◌ x.reads y.reads ∙ sym (read_goes xs ys e);
            finds = λ n.
                map-append (λ x. x.rec) a.found c.found ∙ (ap₂ ◌++◌ (x.finds e) (y.finds (sym s ∙ n)) ∙ sym (gather_append (λ s. only (λ r. in_window v r.key) (recs_in (view L w s.page))) xs ys));
          })

  through_toured : (v : Box) (below : ℕ → Tour) (ss : ℕ → List Stop) → ((c : ℕ) → Toured v (below c) (ss c)) → (es : List Ent)
      → Toured v (through below v es) (gather (λ e. ss e.child) (only (λ e. meets e.box v) es))
  through_toured v below ss h [] = record { stops = refl; reads = refl; finds = λ n. refl }
  through_toured v below ss h (e ∷ es) = go (meets e.box v) (through_toured v below ss h es)
    where
      go : (t : Bool) → Toured v (through below v es) (gather (λ e. ss e.child) (only (λ e. meets e.box v) es))
          → Toured v (follow (cond t (below e.child) still) (through below v es)) (gather (λ e. ss e.child) (cond t (e ∷ only (λ e. meets e.box v) es) (only (λ e. meets e.box v) es)))
      go true i = followed v (below e.child) (through below v es) (ss e.child) (gather (λ e. ss e.child) (only (λ e. meets e.box v) es)) (h e.child) i
      go false i = followed v still (through below v es) [] (gather (λ e. ss e.child) (only (λ e. meets e.box v) es)) (record { stops = refl; reads = refl; finds = λ n. refl }) i

-- a region page has no records
no_records : (v : Page) → T (is_regions v) → recs_in v ≡ []
no_records blank t = absurd t
no_records (points d rs) t = absurd t
no_records (regions d es) t = refl

-- how find's walk ended, by a test b for bad pages and by the records that the pages have
abbrev EndsAt : (ℕ → List Rec) → Key → List ℕ → Bool → End → Type 0
EndsAt recs p read b rootless = ⊥
EndsAt recs p read b bad = T b
EndsAt recs p read b (absent i) = T (not b) × ((d : ℕ) → last_or d read ≡ i) × (tally (keyed p) (recs i) ≡ 0)
EndsAt recs p read b (here x) = T (not b) × ((d : ℕ) → last_or d read ≡ x.page) × (take 1 (only (keyed p) (recs x.page)) ≡ x.rec ∷ [])

-- the first record with the keys among the records from slot i on
first_spot : (p : Key) (j i : ℕ) (rs : List Rec) (P : End → Type 0) → (tally (keyed p) rs ≡ 0 → P (absent j))
    → ((x : Spot) → x.page ≡ j → take 1 (only (keyed p) rs) ≡ x.rec ∷ [] → P (here x)) → P (spot_of j p (spots j i rs))
first_spot p j i [] P a h = a refl
first_spot p j i (r ∷ rs) P a h = go (same p r.key) a h (first_spot p j (suc i) rs P)
  where
    go : (t : Bool) → (bit t + tally (keyed p) rs ≡ 0 → P (absent j))
        → ((x : Spot) → x.page ≡ j → take 1 (cond t (r ∷ only (keyed p) rs) (only (keyed p) rs)) ≡ x.rec ∷ [] → P (here x))
        → ((tally (keyed p) rs ≡ 0 → P (absent j)) → ((x : Spot) → x.page ≡ j → take 1 (only (keyed p) rs) ≡ x.rec ∷ [] → P (here x)) → P (spot_of j p (spots j (suc i) rs)))
        → P (cond t (here (record { page = j; slot = i; rec = r })) (spot_of j p (spots j (suc i) rs)))
    go true a h later = h (record { page = j; slot = i; rec = r }) refl refl
    go false a h later = later (λ z. a (omega (arith, z))) h

module _ (L : ℕ) (w : List ℕ) where
  -- a walk of find by its trail
  record Ended (p : Key) (g : Search) (ss : List Stop) : Type 0 where
    ended : EndsAt (λ i. recs_in (view L w i)) p g.read (spoilt ss) g.end
    reads : g.read ≡ up_to_bad L w ss

  -- into the first entry that holds the point, where one does
  into_ended : (p : Key) (below : ℕ → Search) (ss : ℕ → List Stop) → ((c : ℕ) → Ended p (below c) (ss c)) → (es : List Ent) → T (any_of (λ e. within e.box p) es)
      → Ended p (into below p es) (gather (λ e. ss e.child) (take 1 (only (λ e. within e.box p) es)))
  into_ended p below ss h [] t = absurd t
  into_ended p below ss h (e ∷ es) t = go (within e.box p) t (into_ended p below ss h es)
    where
      go : (b : Bool) → T (b || any_of (λ e. within e.box p) es)
          → (T (any_of (λ e. within e.box p) es) → Ended p (into below p es) (gather (λ e. ss e.child) (take 1 (only (λ e. within e.box p) es))))
          → Ended p (cond b (below e.child) (into below p es)) (gather (λ e. ss e.child) (take 1 (cond b (e ∷ only (λ e. within e.box p) es) (only (λ e. within e.box p) es))))
      go true t i = subst (Ended p (below e.child)) (sym (append-nil (ss e.child))) (h e.child)
      go false t i = i t

  -- where none does, the walk ends
  into_none : (p : Key) (below : ℕ → Search) (es : List Ent) → any_of (λ e. within e.box p) es ≡ false → into below p es ≡ ends [] bad
  into_none p below [] e = refl
  into_none p below (a ∷ es) e = go (within a.box p) e (into_none p below es)
    where
      go : (b : Bool) → b || any_of (λ e. within e.box p) es ≡ false → (any_of (λ e. within e.box p) es ≡ false → into below p es ≡ ends [] bad)
          → cond b (below a.child) (into below p es) ≡ ends [] bad
      go true e i = absurd (let z : ◌≡◌ {A = ℕ} 0 1 = cc in omega arith)
      go false e i = i e

  after_ended : (p : Key) (j : ℕ) (g : Search) (ss : List Stop) → Ended p g ss → Ended p (after j g) (record { page = j; bad = false } ∷ ss)
  after_ended p j g ss h = record { ended = go g.end h.ended; reads = ap (λ l. j ∷ l) h.reads }
    where
      go : (e : End) → EndsAt (λ i. recs_in (view L w i)) p g.read (spoilt ss) e → EndsAt (λ i. recs_in (view L w i)) p (j ∷ g.read) (spoilt ss) e
      go rootless a = a
      go bad a = a
      go (absent i) a = (a.0, λ d. a.1 j, a.2)
      go (here x) a = (a.0, λ d. a.1 j, a.2)

module _ (L : ℕ) (w : List ℕ) (room : 4 ≤ L) where
  bad_points : (j : ℕ) → bad_page L w zero j ≡ not (is_page L w j && good_points L w j)
  bad_points j =
      let P = points_per L (domains w) in
      not_four (eqb j 0) (leb (pages_in L w) j) (eqb (kind_at L w j) 2) (ltb P (size_at L w j))
      ∙ (like_four (not_zero j) (not_least (pages_in L w) j) (ap (λ a. eqb a 2) (word_at_lem L w j 0 (omega arith))) (not_below P (size_at L w j) ∙ ap (λ a. leb a P) (word_at_lem L w j 1 (omega arith)))
      ∙ ap not (page_and (is_page L w j) (eqb (kind L w j) 2 && leb (count L w j) P) (good_points L w j) (λ h. sym (good_points_lem L w j room h))))

  bad_regions : (n j : ℕ) → bad_page L w (suc n) j ≡ not (is_page L w j && good_regions L w j)
  bad_regions n j =
      let R = regions_per L (domains w) in
      let size = word_at_lem L w j 1 (omega arith) in
      not_five (eqb j 0) (leb (pages_in L w) j) (eqb (kind_at L w j) 1) (ltb R (size_at L w j)) (eqb (size_at L w j) 0)
      ∙ (like_five (not_zero j) (not_least (pages_in L w) j) (ap (λ a. eqb a 1) (word_at_lem L w j 0 (omega arith))) (not_zero (size_at L w j) ∙ ap (λ a. leb 1 a) size)
      (not_below R (size_at L w j) ∙ ap (λ a. leb a R) size)
      ∙ ap not (page_and (is_page L w j) (eqb (kind L w j) 1 && leb 1 (count L w j) && leb (count L w j) R) (good_regions L w j) (λ h. sym (good_regions_lem L w j room h))))

  at_points : {A : Type 0} (Q : A → Bool → Type 0) (j : ℕ) (x y z : A) → Q x false → (is_page L w j ≡ true → Q y true) → (is_page L w j ≡ false → Q z true)
      → Q (cond (is_page L w j) (cond (good_points L w j) x y) z) (bad_page L w zero j)
  at_points Q j x y z f a b =
      subst (Q (cond (is_page L w j) (cond (good_points L w j) x y) z)) (sym (bad_points j)) (by_tests Q (is_page L w j) (good_points L w j) x y z (λ _ _. f) a b)

  at_regions : {A : Type 0} (Q : A → Bool → Type 0) (n j : ℕ) (x y z : A) → (T (is_page L w j) → T (good_regions L w j) → Q x false) → (is_page L w j ≡ true → Q y true)
      → (is_page L w j ≡ false → Q z true) → Q (cond (is_page L w j) (cond (good_regions L w j) x y) z) (bad_page L w (suc n) j)
  at_regions Q n j x y z f a b =
      subst (Q (cond (is_page L w j) (cond (good_regions L w j) x y) z)) (sym (bad_regions n j)) (by_tests Q (is_page L w j) (good_regions L w j) x y z f a b)

  -- a region page has no records
  regions_bare : (j : ℕ) → T (good_regions L w j) → recs_in (view L w j) ≡ []
  regions_bare j g = no_records (view L w j) (and_l (is_regions (view L w j)) _ (and_l (is_regions (view L w j) && leb 1 (length (ents_in (view L w j)))) _ g))

  -- list goes by its trail
  abbrev list_from : Box → ℕ → ℕ → List Stop
  list_from v n j = trail L w (bad_page L w) (λ es. only (λ e. meets e.box v) es) n j

  toured : (v : Box) (n j : ℕ) → Toured L w v (tour L w v n j) (list_from v n j)
  toured v zero j =
      at_points (λ t b. Toured L w v t (record { page = j; bad = b } ∷ [])) j _ _ _
      (record { stops = refl; reads = refl; finds = λ n. spots_only (in_window v) j 0 (recs_in (view L w j)) ∙ sym (append-nil (only (λ r. in_window v r.key) (recs_in (view L w j)))) })
      (λ e. record { stops = refl; reads = read_bad L w j e; finds = λ n. absurd (let z : ◌≡◌ {A = ℕ} 0 1 = cc in omega arith) })
      (λ e. record { stops = refl; reads = read_none L w j e; finds = λ n. absurd (let z : ◌≡◌ {A = ℕ} 0 1 = cc in omega arith) })
  toured v (suc n) j =
      let es = ents_in (view L w j) in
      let ss = gather (λ e. list_from v n e.child) (only (λ e. meets e.box v) es) in
      let i = through_toured L w v (tour L w v n) (list_from v n) (toured v n) es in
      at_regions (λ t b. Toured L w v t (record { page = j; bad = b } ∷ cond b [] ss)) n j _ _ _
      (λ p g. record {
        stops = i.stops;
        reads = ap (λ l. j ∷ l) i.reads;
        finds = λ n. i.finds n ∙ ap (λ rs. only (λ r. in_window v r.key) rs ++ records_on L w v ss) (sym (regions_bare j g));
      })
      (λ e. record { stops = refl; reads = read_bad L w j e; finds = λ n. absurd (let z : ◌≡◌ {A = ℕ} 0 1 = cc in omega arith) })
      (λ e. record { stops = refl; reads = read_none L w j e; finds = λ n. absurd (let z : ◌≡◌ {A = ℕ} 0 1 = cc in omega arith) })

  -- with its bound
  pub record Bound (v : Box) (N : ℕ) (t : Tour) (ss : List Stop) : Type 0 where
    pub stops : t.bad ≡ spoilt ss || leb N (length ss)
    pub reads : t.read ≡ take (N - 1) (up_to_bad L w ss)
    pub finds : t.bad ≡ false → (map (λ x. x.rec) t.found ≡ records_on L w v ss) × (length t.read ≡ length ss)

  bound : (v : Box) (N : ℕ) (t : Tour) (ss : List Stop) → Toured L w v t ss → Bound v N (bounded N t) ss
  bound v N t ss h =
      cases (λ x. Bound v N (cond x t (record { read = take (N - 1) t.read; bad = true; found = [] })) ss) (ltb (length t.read) N)
      (λ y. let l = ltb→lt (length t.read) N y in
      record {
        stops = within_bound (spoilt ss) refl (omega (arith, ap length h.reads));
        reads = h.reads ∙ sym (take_all (N - 1) (up_to_bad L w ss) (omega (arith, ap length h.reads)));
        finds = λ e. let n : spoilt ss ≡ false = sym h.stops ∙ e in (h.finds n, ap length h.reads ∙ read_all L w ss n);
      })
      (λ y. let l = nltb→le (length t.read) N y in
      record {
        stops = sym (past_bound (spoilt ss) (omega (arith, ap length h.reads, read_most L w ss)));
        reads = ap (take (N - 1)) h.reads;
        finds = λ e. absurd (let z : ◌≡◌ {A = ℕ} 0 1 = cc in omega arith);
      })
    where
      within_bound : (b : Bool) → spoilt ss ≡ b → suc (length (up_to_bad L w ss)) ≤ N → t.bad ≡ b || leb N (length ss)
      within_bound true e l = h.stops ∙ e
      within_bound false e l = h.stops ∙ (e ∙ sym (lt-leb N (length ss) (omega (arith, read_all L w ss e))))

      past_bound : (b : Bool) → N ≤ length ss → b || leb N (length ss) ≡ true
      past_bound true l = refl
      past_bound false l = le-leb N (length ss) l

  pub list_bound : 1 ≤ pages_in L w → (v : Box) → Bound v (pages_in L w) (list_walk L w v) (list_trail L w v)
  list_bound n v =
      let m = levels_at w - 1 in
      cases (λ z. Bound v (pages_in L w) (cond z still (bounded (pages_in L w) (tour L w v m (root_at w)))) (cond z [] (list_from v m (root_at w)))) (eqb (levels_at w) 0)
      (λ _. record { stops = sym (lt-leb (pages_in L w) 0 (omega arith)); reads = sym (take-nil (pages_in L w - 1)); finds = λ e. (refl, refl) })
      (λ _. bound v (pages_in L w) (tour L w v m (root_at w)) (list_from v m (root_at w)) (toured v m (root_at w)))

  -- find goes by its trail
  abbrev find_from : Key → ℕ → ℕ → List Stop
  find_from p n j = trail L w (bad_for L w p) (λ es. take 1 (only (λ e. within e.box p) es)) n j

  sought : (p : Key) (n j : ℕ) → Ended L w p (seek L w p n j) (find_from p n j)
  sought p zero j =
      let recs : ℕ → List Rec = λ i. recs_in (view L w i) in
      at_points (λ g b. Ended L w p g (record { page = j; bad = b } ∷ [])) j _ _ _
      (record {
        ended = first_spot p j 0 (recs j) (λ e. EndsAt recs p (j ∷ []) false e) (λ z. (tt, λ d. refl, z)) (λ x e q. (tt, λ d. sym e, ap (λ i. take 1 (only (keyed p) (recs i))) e ∙ q));
        reads = refl;
      })
      (λ e. record { ended = tt; reads = read_bad L w j e }) (λ e. record { ended = tt; reads = read_none L w j e })
  sought p (suc n) j =
      let es = ents_in (view L w j) in
      let ss = gather (λ e. find_from p n e.child) (take 1 (only (λ e. within e.box p) es)) in
      let held = any_of (λ e. within e.box p) es in
      at_regions (λ g b. Ended L w p g (record { page = j; bad = b || not held } ∷ cond (b || not held) [] ss)) n j _ _ _
      (λ y _. cases (λ b. held ≡ b → Ended L w p (after j (into (seek L w p n) p es)) (record { page = j; bad = not b } ∷ cond (not b) [] ss)) held
      (λ t e. after_ended L w p j (into (seek L w p n) p es) ss (into_ended L w p (seek L w p n) (find_from p n) (sought p n) es t))
      (λ t e. subst (λ g. Ended L w p (after j g) (record { page = j; bad = true } ∷ [])) (sym (into_none L w p (seek L w p n) es e))
      (record { ended = tt; reads = read_bad L w j (is_true (is_page L w j) y) })) refl)
      (λ e. record { ended = tt; reads = read_bad L w j e }) (λ e. record { ended = tt; reads = read_none L w j e })

  -- a find that meets no bad page reads one page of each level
  pub find_levels : (p : Key) → ((find_walk L w p).end ≡ bad → ⊥) → length (find_walk L w p).read ≡ levels_at w
  find_levels p =
      let i = seek_all L w p (λ n s. (s.end ≡ bad → ⊥) → length s.read ≡ n + 1)
      (record { lost = λ n b. absurd (b refl); spoilt = λ n j y b. absurd (b refl); last = λ j y b. refl; down = λ n j s y h b. omega (arith, h b) })
      (levels_at w - 1) (root_at w) in
      find_all L w p (λ s. (s.end ≡ bad → ⊥) → length s.read ≡ levels_at w) (λ e _. sym e) (λ l b. omega (arith, i b))

  -- a property of a find with no root, and of one whose walk ended as it must, holds of every find
  find_cases : (p : Key) (C : Search → List Stop → Type 0) → C (ends [] rootless) []
      → ((read : List ℕ) (e : End) (ss : List Stop) → EndsAt (λ i. recs_in (view L w i)) p read (spoilt ss) e → read ≡ up_to_bad L w ss → C (ends read e) ss) → C (find_walk L w p) (find_trail L w p)
  find_cases p C r s =
      let n = levels_at w - 1 in
      let g = seek L w p n (root_at w) in
      cases (λ z. C (cond z (ends [] rootless) g) (cond z [] (find_from p n (root_at w)))) (eqb (levels_at w) 0) (λ _. r)
      (λ _. let h = sought p n (root_at w) in s g.read g.end (find_from p n (root_at w)) h.ended h.reads)

  pub find_trail_lem : (p : Key) → (find_walk L w p).read ≡ up_to_bad L w (find_trail L w p)
  find_trail_lem p = find_cases p (λ g ss. g.read ≡ up_to_bad L w ss) refl (λ read e ss a r. r)

-- one that is first among those that pass a test is one of them
first_counts : (g : Rec → Bool) (rs : List Rec) (r : Rec) → take 1 (only g rs) ≡ r ∷ [] → 1 ≤ tally g rs
first_counts g rs r e = omega (arith, length_only g rs, go (only g rs) e)
  where
    go : (l : List Rec) → take 1 l ≡ r ∷ [] → 1 ≤ length l
    go [] e = absurd (let z : ◌≡◌ {A = ℕ} 0 1 = ap length e in omega arith)
    go (a ∷ l) e = omega arith

both : (b : Bool) → T b → T (not b) → ⊥
both b t n = T_not b n t

-- what find answers, by the bad pages and the last page read
module _ (w : List ℕ) (p : Key) (buffers : Buffers) where
  abbrev last_of : List ℕ → List Rec
  last_of read = recs_in (view L w (last_or 0 read))

  pub find_six : ((finding (find_walk L w p) buffers).number ≡ 6) ↔ T (find_stops L w p)
  find_six = find_cases L w four p (λ g ss. ((finding g buffers).number ≡ 6) ↔ T (spoilt ss)) (λ z. absurd (omega arith), λ t. absurd t) go
    where
      go : (read : List ℕ) (e : End) (ss : List Stop) → EndsAt (λ i. recs_in (view L w i)) p read (spoilt ss) e → read ≡ up_to_bad L w ss → ((finding (ends read e) buffers).number ≡ 6) ↔ T (spoilt ss)
      go read rootless ss a r = absurd a
      go read bad ss a r = (λ z. a, λ t. refl)
      go read (absent i) ss a r = (λ z. absurd (omega arith), λ t. absurd (both (spoilt ss) t a.0))
      go read (here x) ss a r = (λ z. absurd (omega arith), λ t. absurd (both (spoilt ss) t a.0))

  pub find_eight : ((finding (find_walk L w p) buffers).number ≡ 8) ↔ (T (not (find_stops L w p)) × (tally (keyed p) (last_of (find_walk L w p).read) ≡ 0))
  find_eight =
      find_cases L w four p (λ g ss. ((finding g buffers).number ≡ 8) ↔ (T (not (spoilt ss)) × (tally (keyed p) (last_of g.read) ≡ 0))) (λ z. (tt, refl), λ q. refl) go
    where
      go : (read : List ℕ) (e : End) (ss : List Stop) → EndsAt (λ i. recs_in (view L w i)) p read (spoilt ss) e → read ≡ up_to_bad L w ss
          → ((finding (ends read e) buffers).number ≡ 8) ↔ (T (not (spoilt ss)) × (tally (keyed p) (last_of read) ≡ 0))
      go read rootless ss a r = absurd a
      go read bad ss a r = (λ z. absurd (omega arith), λ q. absurd (both (spoilt ss) a q.0))
      go read (absent i) ss a r = (λ z. (a.0, ap (λ j. tally (keyed p) (recs_in (view L w j))) (a.1 0) ∙ a.2), λ q. refl)
      go read (here x) ss a r = (
        λ z. absurd (omega arith),
        λ q. absurd (omega (arith, q.1, ap (λ j. tally (keyed p) (recs_in (view L w j))) (a.1 0), first_counts (keyed p) (recs_in (view L w x.page)) x.rec a.2)),
      )

  pub find_done : ((finding (find_walk L w p) buffers).number ≡ 0) ↔ (T (not (find_stops L w p)) × (1 ≤ tally (keyed p) (last_of (find_walk L w p).read)))
  find_done =
      find_cases L w four p (λ g ss. ((finding g buffers).number ≡ 0) ↔ (T (not (spoilt ss)) × (1 ≤ tally (keyed p) (last_of g.read))))
      (λ z. absurd (omega arith), λ q. absurd (let z : 1 ≤ 0 = q.1 in omega arith)) go
    where
      go : (read : List ℕ) (e : End) (ss : List Stop) → EndsAt (λ i. recs_in (view L w i)) p read (spoilt ss) e → read ≡ up_to_bad L w ss
          → ((finding (ends read e) buffers).number ≡ 0) ↔ (T (not (spoilt ss)) × (1 ≤ tally (keyed p) (last_of read)))
      go read rootless ss a r = absurd a
      go read bad ss a r = (λ z. absurd (omega arith), λ q. absurd (both (spoilt ss) a q.0))
      go read (absent i) ss a r = (λ z. absurd (omega arith), λ q. absurd (omega (arith, q.1, ap (λ j. tally (keyed p) (recs_in (view L w j))) (a.1 0), a.2)))
      go read (here x) ss a r = (
        λ z. (a.0, omega (arith, ap (λ j. tally (keyed p) (recs_in (view L w j))) (a.1 0), first_counts (keyed p) (recs_in (view L w x.page)) x.rec a.2)),
        λ q. refl,
      )

  pub find_located : (finding (find_walk L w p) buffers).number ≡ 0
      → (finding (find_walk L w p) buffers).values ≡ map (λ r. r.loc) (take 1 (only (keyed p) (last_of (find_walk L w p).read))) ++ (length (find_walk L w p).read ∷ [])
  find_located =
      find_cases L w four p
      (λ g ss. (finding g buffers).number ≡ 0 → (finding g buffers).values ≡ map (λ r. r.loc) (take 1 (only (keyed p) (last_of g.read))) ++ (length g.read ∷ []))
      (λ z. absurd (omega arith)) go
    where
      go : (read : List ℕ) (e : End) (ss : List Stop) → EndsAt (λ i. recs_in (view L w i)) p read (spoilt ss) e → read ≡ up_to_bad L w ss → (finding (ends read e) buffers).number ≡ 0
          → (finding (ends read e) buffers).values ≡ map (λ r. r.loc) (take 1 (only (keyed p) (last_of read))) ++ (length read ∷ [])
      go read rootless ss a r z = absurd a
      go read bad ss a r z = absurd (omega arith)
      go read (absent i) ss a r z = absurd (omega arith)
      go read (here x) ss a r z =
          ap (λ l. map (λ r. r.loc) l ++ (length read ∷ [])) (sym (ap (λ j. take 1 (only (keyed p) (recs_in (view L w j)))) (a.1 0) ∙ a.2))

-- what list answers, by the bad pages and the bound
listing_six : (t : Tour) (w answer : List ℕ) (b : Bool) → t.bad ≡ b → ((listing t w answer).number ≡ 6) ↔ T b
listing_six t w answer true e = rw e (λ z. tt, λ t. refl)
listing_six t w answer false e = rw e (λ z. absurd (omega arith), λ t. absurd t)

listing_done : (t : Tour) (w answer : List ℕ) (b : Bool) → t.bad ≡ b → ((listing t w answer).number ≡ 0) ↔ T (not b)
listing_done t w answer true e = rw e (λ z. absurd (omega arith), λ t. absurd t)
listing_done t w answer false e = rw e (λ z. tt, λ t. refl)

-- a list that is done gives what its walk found and read
listing_told : (t : Tour) (w answer : List ℕ) (rs : List Rec) (n : ℕ) → t.bad ≡ false → map (λ x. x.rec) t.found ≡ rs → length t.read ≡ n
    → ((listing t w answer).values ≡ length rs ∷ n ∷ []) × ((listing t w answer).after.answer ≡ slotted answer (map (λ r. r.loc) rs))
listing_told t w answer rs n e f l =
    let m : length t.found ≡ length rs = sym (length-map t.found (λ x. x.rec)) ∙ ap length f in
    let locs : map (λ x. x.rec.loc) t.found ≡ map (λ r. r.loc) rs = sym (map_loc t.found) ∙ ap (map (λ r. r.loc)) f in
    rw e (ap₂ (λ a b. a ∷ b ∷ []) m l, ap₂ (λ ls k. take (length answer) ls ++ drop k answer) locs (m ∙ sym (length-map rs (λ r. r.loc))))

module _ (w : List ℕ) (pages : 1 ≤ pages_in L w) (v : Box) (answer : List ℕ) where
  pub list_six : ((listing (list_walk L w v) w answer).number ≡ 6) ↔ T (list_stops L w v)
  list_six = listing_six (list_walk L w v) w answer (list_stops L w v) (list_bound L w four pages v).stops

  pub list_done : ((listing (list_walk L w v) w answer).number ≡ 0) ↔ T (not (list_stops L w v))
  list_done = listing_done (list_walk L w v) w answer (list_stops L w v) (list_bound L w four pages v).stops

  pub list_told : (listing (list_walk L w v) w answer).number ≡ 0
      → ((listing (list_walk L w v) w answer).values ≡ length (list_records L w v) ∷ length (list_trail L w v) ∷ [])
      × ((listing (list_walk L w v) w answer).after.answer ≡ slotted answer (map (λ r. r.loc) (list_records L w v)))
  list_told z =
      let b = list_bound L w four pages v in
      let e : (list_walk L w v).bad ≡ false = b.stops ∙ is_false (list_stops L w v) (list_done.0 z) in
      let f = b.finds e in
      listing_told (list_walk L w v) w answer (list_records L w v) (length (list_trail L w v)) e f.0 f.1
