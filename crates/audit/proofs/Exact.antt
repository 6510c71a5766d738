-- The audit is exact: with a good length and a good header it says yes exactly on the sound pools, `audit_iff` and `audit_is`.
use mathlib.Core.Bool.{Bool, true, false, ◌&&◌}
use mathlib.Core.List.{List, [], ◌∷◌, map}
use mathlib.Core.Logic.{◌↔◌, ◌⊎◌, inl, inr}
use mathlib.Core.Option.{some}
use Rattle.std.specs.Prelude.{Option, Some, None}
use mathlib.Core.Path.{◌≡◌, refl, sym, ap, ap₂, ◌∙◌, subst}
use Prim.Native.Nat.{ℕ, zero, suc, ◌+◌, ◌-◌, ◌<◌, ◌≤◌}
use native.Mathlib.Omega.{arith}
use lib.Dec.{T, leb, ltb, eqb, leb→le, le→leb, ltb→lt, lt→ltb, eqb→eq, T_not, not_T}
use lib.ListN.{length, get_or, length-map, get_or-replicate, get_or-eq_default}
use borrow.Author.Tests.{ne_eqb, ltb-true, ltb-false, eqb-true, eqb-false}
use Rattle.kdb.specs.Lists.{bit, every, Each, gather, many}
use Rattle.kdb.specs.Box.{∞, Box, whole, within, solid}
use Rattle.kdb.specs.Tiling.{Apart, Together}
use Rattle.kdb.specs.Pages.{Ent, Page, blank, points, regions, regions_per, points_per, domain, recs_in, ents_in, boxes_in, is_points, is_regions, in_use, print_page, read_page, page}
use Rattle.kdb.specs.Shape.{differ, Shaped, ShapedF}
use Rattle.kdb.specs.Pool.{domains, root_at, levels_at, count_at, pages_in, good_length, good_header, view, reached_from, reached, Paths, Sound}
use Rattle.kdb.specs.Print.{forest, tree_at, sound}
use Rattle.kdb.specs.Calls as Calls
use Rattle.kdb.specs.declared.Form.{Form}
use Rattle.kdb.proofs.Length.{big}
use Rattle.words.specs.Words.{Fit}
use Rattle.words.proofs.Laws.{pages}
use Rattle.kdb.proofs.Tests.{and_l, and_r, and_i, bool, is_true, is_false, of_true, of_bit, to_bit, no_bit, bit_most, bool_eq}
use Rattle.kdb.proofs.Lists.{each_map, each_every, every_each}
use Rattle.kdb.proofs.Counts.{many_append, every_up, up_every, sum_once}
use Rattle.kdb.proofs.Stores.{zeros_pad, pad_zeros}
use Rattle.kdb.proofs.Pages.{FitsPage, read_page_lem, page_full}
use Rattle.kdb.proofs.Views.{Under, whole_under, tiles_under, whole_finite, among}
use Rattle.kdb.proofs.Stands.{Stands}
use Rattle.kdb.proofs.Pool.{length_iff, header_iff, boxes_at_page, used_number, Sound_stands, sound_iff}
use Rattle.audit.specs.Walk.{Way, root_walk, all_found, cleared_of, rest_of, unmarked, audited}
use Rattle.pages.proofs.Here.{PointsHere, RegionsHere, points_say, say_points, regions_say, say_regions}
use Rattle.audit.proofs.Marks.{Marks, done, marks_nil, adds, marks_inside, marks}
use Rattle.pages.proofs.Bits.{case}
use Rattle.audit.proofs.Walks.{some_is, no_recs, Shown, recs_at, points_on, Good, page_shows, page_runs}

-- a page of one kind has nothing of the other
no_ents : (v : Page) → T (is_points v) → ents_in v ≡ []
no_ents blank t = absurd t
no_ents (points d rs) t = refl
no_ents (regions d es) t = absurd t

not_both : (v : Page) → T (is_points v) → T (is_regions v) → ⊥
not_both blank t u = t
not_both (points d rs) t u = u
not_both (regions d es) t u = t

points_used : (v : Page) → T (is_points v) → T (in_use v)
points_used blank t = t
points_used (points d rs) t = tt
points_used (regions d es) t = tt

regions_used : (v : Page) → T (is_regions v) → T (in_use v)
regions_used blank t = t
regions_used (points d rs) t = tt
regions_used (regions d es) t = tt

not_used : (v : Page) → (T (in_use v) → ⊥) → v ≡ blank
not_used blank f = refl
not_used (points d rs) f = absurd (f tt)
not_used (regions d es) f = absurd (f tt)

module _ (L : ℕ) (w : List ℕ) where
  -- page j is a good page of region r; page j is good, and so are the pages that its entries name
  abbrev Held : ℕ → Box → Type 0
  Held j r = PointsHere L w j r ⊎ RegionsHere L w j r

  record Met (j : ℕ) : Type 0 where
    region : Box
    under : Under (domains w) region
    held : Held j region
    below : Each (λ e. Held e.child e.box) (ents_in (view L w j))

  good_held : (l j : ℕ) (r : Box) → Good L w l j r → Held j r
  good_held zero j r g = inl (points_say L w j r g)
  good_held (suc l) j r g = inr (regions_say L w j r g.0)

  -- what is said of each of a list of regions is said of the entries
  each_box : (P : Box → Type 0) (es : List Ent) → Each P (map (λ e. e.box) es) → Each (λ e. P e.box) es
  each_box P [] h = tt
  each_box P (e ∷ es) h = (h.0, each_box P es h.1)

  good_own : (l j : ℕ) (r : Box) → Under (domains w) r → Good L w l j r → Met j
  good_own zero j r u g =
      let p = points_say L w j r g in
      record { region = r; under = u; held = inl p; below = rw (no_ents (view L w j) p.is) tt }
  good_own (suc l) j r u g =
      record {
        region = r;
        under = u;
        held = inr (regions_say L w j r g.0);
        below = each_map (λ e. Good L w l e.child e.box) (λ e. Held e.child e.box) (ents_in (view L w j)) (λ e. good_held l e.child e.box) g.1;
      }

  -- every page reached is good
  abbrev Reaches : ℕ → Type 0
  Reaches l = (j : ℕ) (r : Box) → Under (domains w) r → Good L w l j r → (i : ℕ) → 1 ≤ many i (reached_from L w l j) → Met i

  entries_met : (l : ℕ) → Reaches l → (es : List Ent) → Each (λ e. Under (domains w) e.box) es → Each (λ e. Good L w l e.child e.box) es → (i : ℕ)
      → 1 ≤ many i (gather (λ e. reached_from L w l e.child) es) → Met i
  entries_met l f [] u g i h = absurd (omega arith)
  entries_met l f (e ∷ es) u g i h =
      let xs = reached_from L w l e.child in
      let ys = gather (λ d. reached_from L w l d.child) es in
      among i xs (f e.child e.box u.0 g.0 i) (λ z. entries_met l f es u.1 g.1 i (omega (arith, many_append i xs ys)))

  -- the page itself, or one below it
  here_or : (l j i : ℕ) (r : Box) → Under (domains w) r → Good L w l j r → (bit (eqb i j) ≡ 0 → Met i) → Met i
  here_or l j i r u g f = bool (eqb i j) (λ t. let e : i ≡ j = eqb→eq i j t in rw e (good_own l j r u g)) (λ n. f (no_bit (eqb i j) (T_not (eqb i j) n)))

  good_met : (l : ℕ) → Reaches l
  good_met zero j r u g i h = here_or zero j i r u g (λ z. absurd (omega arith))
  good_met (suc l) j r u g i h =
      here_or (suc l) j i r u g (λ z. entries_met l (good_met l) (ents_in (view L w j))
      (each_box (Under (domains w)) (ents_in (view L w j)) (tiles_under (domains w) r (boxes_in (view L w j)) u (regions_say L w j r g.0).shape.tiled))
      g.1 i (omega arith))

  good_paths : (l j : ℕ) (r : Box) → Good L w l j r → Paths L w l j
  good_paths zero j r g = (points_say L w j r g).is
  good_paths (suc l) j r g = (
    (regions_say L w j r g.0).is,
    each_map (λ e. Good L w l e.child e.box) (λ e. Paths L w l e.child) (ents_in (view L w j)) (λ e. good_paths l e.child e.box) g.1,
  )

-- with a good length and a good header
module _ (L : ℕ) (w : List ℕ) (long : T (good_length L w)) (head : T (good_header L w)) where
  -- a page that is not in use is all zero
  record Blank (j : ℕ) : Type 0 where
    is : view L w j ≡ blank
    laid : 1 ≤ j → j < pages_in L w → page L w j ≡ print_page L (view L w j)

  zero_page : (j : ℕ) → j < pages_in L w → T (every (eqb 0) (page L w j)) → page L w j ≡ print_page L blank
  zero_page j h z = zeros_pad (page L w j) L (page_full L w (pages_in L w) j ((length_iff L w).0 long).long h) z

  blank_fits : FitsPage L (domains w) blank
  blank_fits = record { keys = tt; ends = tt; point_room = omega arith; region_room = omega arith }

  blank_page : (j : ℕ) → (1 ≤ j → j < pages_in L w → T (every (eqb 0) (page L w j))) → Blank j
  blank_page j f =
      let v = read_page (domains w) (page L w j) in
      bool (leb 1 j && ltb j (pages_in L w))
      (λ t. let h = leb→le 1 j (and_l (leb 1 j) _ t) in
      let k = ltb→lt j (pages_in L w) (and_r (leb 1 j) _ t) in
      let z = zero_page j k (f h k) in
      let e : view L w j ≡ blank = rw (is_true (leb 1 j && ltb j (pages_in L w)) t) (ap (read_page (domains w)) z ∙ read_page_lem L (domains w) blank blank_fits) in
      record { is = e; laid = λ a b. z ∙ ap (print_page L) (sym e) })
      (λ t. record { is = rw (is_false (leb 1 j && ltb j (pages_in L w)) t); laid = λ a b. absurd (T_not (leb 1 j && ltb j (pages_in L w)) t (and_i (leb 1 j) _ (le→leb 1 j a) (lt→ltb j (pages_in L w) b))) })

  -- what the audit has shown when it says yes
  record Passed : Type 0 where
    good : (levels_at w ≡ 0 → ⊥) → Good L w (levels_at w - 1) (root_at w) (whole (domains w))
    inside : (y : ℕ) → 1 ≤ many y (reached L w) → (1 ≤ y) × (y < pages_in L w)
    once : (y : ℕ) → many y (reached L w) ≤ 1
    count : count_at w ≡ points_on L w (reached L w)
    free : (j : ℕ) → 1 ≤ j → j < pages_in L w → many j (reached L w) ≡ 0 → T (every (eqb 0) (page L w j))

  module _ (P : Passed) where
    met : (i : ℕ) → 1 ≤ many i (reached L w) → Met L w i
    met i h =
        case (eqb (levels_at w) 0)
        (λ e. absurd (let z : 1 ≤ 0 = rw e at h in omega arith))
        (λ e. good_met L w (levels_at w - 1) (root_at w) (whole (domains w)) (whole_under (domains w)) (P.good (eqb-false (levels_at w) 0 e)) i (rw e at h))

    free_page : (i : ℕ) → many i (reached L w) ≡ 0 → Blank i
    free_page i z = blank_page i (λ a b. P.free i a b z)

    -- by cases on page i
    page_case : (Q : Page → Type 0) → Q blank
        → ((i : ℕ) (r : Box) → Under (domains w) r → PointsHere L w i r → Q (view L w i))
        → ((i : ℕ) (r : Box) → Under (domains w) r → RegionsHere L w i r → Each (λ e. Held L w e.child e.box) (ents_in (view L w i)) → Q (view L w i))
        → (i : ℕ) → Q (view L w i)
    page_case Q free f g i =
        among i (reached L w)
        (λ h. let m = met i h in elim m.held [ inl p ↦ f i m.region m.under p | inr p ↦ g i m.region m.under p m.below ])
        (λ z. subst Q (sym (free_page i z).is) free)

    no_level : root_at w ≡ 0 → levels_at w ≡ 0
    no_level z =
        let b : bit (eqb (root_at w) 0) ≡ bit (eqb (levels_at w) 0) = ((header_iff L w).0 head).both in
        eqb→eq (levels_at w) 0 (of_bit (eqb (levels_at w) 0) (let e : bit (eqb (root_at w) 0) ≡ 1 = rw z in omega arith))

    none_reached : root_at w ≡ 0 → reached L w ≡ []
    none_reached z = rw (no_level z)

    root_held : T (in_use (view L w (root_at w))) → Held L w (root_at w) (whole (domains w))
    root_held u =
        let r = used_number L w (root_at w) u in
        good_held L w (levels_at w - 1) (root_at w) (whole (domains w)) (P.good (λ z.
        let b : bit (eqb (root_at w) 0) ≡ bit (eqb (levels_at w) 0) = ((header_iff L w).0 head).both in
        let e : root_at w ≡ 0 = eqb→eq (root_at w) 0 (of_bit (eqb (root_at w) 0) (let e : bit (eqb (levels_at w) 0) ≡ 1 = rw z in omega arith)) in omega arith))

    held_together : (j : ℕ) (r : Box) → Held L w j r → T (is_regions (view L w j)) → Together r (boxes_in (view L w j))
    held_together j r h t = elim h [ inl p ↦ absurd (not_both (view L w j) p.is t) | inr p ↦ p.shape.tiled.together ]

    held_inside : (j : ℕ) (r : Box) → Held L w j r → T (every (λ q. within r q.key) (recs_in (view L w j)))
    held_inside j r h = elim h [ inl p ↦ p.shape.inside | inr p ↦ rw (no_recs (view L w j) p.is) tt ]

    boxes_length : (i : ℕ) → length (boxes_in (view L w i)) ≡ length (ents_in (view L w i))
    boxes_length i = length-map (ents_in (view L w i)) (λ e. e.box)

    passed_sound : Sound L w
    passed_sound =
        let hd = (header_iff L w).0 head in
        record {
          words = long;
          header = head;
          laid = λ j a b. among j (reached L w) (λ h. elim (met j h).held [ inl p ↦ p.laid | inr p ↦ p.laid ]) (λ z. (free_page j z).laid a b);
          region_room = page_case (λ v. length (ents_in v) ≤ regions_per L (domains w)) (omega arith) (λ i r u p. rw (no_ents (view L w i) p.is) (omega arith))
              (λ i r u p b. omega (arith, p.shape.room, boxes_length i));
          point_room = page_case (λ v. length (recs_in v) ≤ points_per L (domains w)) (omega arith) (λ i r u p. p.shape.room)
              (λ i r u p b. rw (no_recs (view L w i) p.is) (omega arith));
          splitting = page_case (λ v. domain v < domains w) hd.least (λ i r u p. p.shape.domain) (λ i r u p b. p.shape.domain);
          used = λ j. (
            λ u. among j (reached L w) (λ h. h) (λ z. absurd (subst (λ (v : Page). T (in_use v)) (free_page j z).is u)),
            λ h. elim (met j h).held [ inl p ↦ points_used (view L w j) p.is | inr p ↦ regions_used (view L w j) p.is ],
          );
          once = P.once;
          filled = page_case (λ v. T (is_regions v) → 1 ≤ length (ents_in v)) (λ t. absurd t) (λ i r u p t. absurd (not_both (view L w i) p.is t))
              (λ i r u p b t. omega (arith, p.shape.filled, boxes_length i));
          paths = λ z. good_paths L w (levels_at w - 1) (root_at w) (whole (domains w)) (P.good z);
          apart = page_case (λ v. Apart (boxes_in v)) tt (λ i r u p. rw (no_ents (view L w i) p.is) tt) (λ i r u p b. p.shape.tiled.apart);
          solids = page_case (λ v. T (every solid (boxes_in v))) tt (λ i r u p. rw (no_ents (view L w i) p.is) tt) (λ i r u p b. p.shape.tiled.solids);
          space = λ t. held_together (root_at w) (whole (domains w)) (root_held (regions_used (view L w (root_at w)) t)) t;
          nested = page_case (λ v. Each (λ e. T (is_regions (view L w e.child)) → Together e.box (boxes_in (view L w e.child))) (ents_in v)) tt
              (λ i r u p. rw (no_ents (view L w i) p.is) tt)
              (λ i r u p b. each_map (λ e. Held L w e.child e.box) (λ e. T (is_regions (view L w e.child)) → Together e.box (boxes_in (view L w e.child))) (ents_in (view L w i))
              (λ e. held_together e.child e.box) b);
          inside = page_case (λ v. Each (λ e. T (every (λ q. within e.box q.key) (recs_in (view L w e.child)))) (ents_in v)) tt
              (λ i r u p. rw (no_ents (view L w i) p.is) tt)
              (λ i r u p b. each_map (λ e. Held L w e.child e.box) (λ e. T (every (λ q. within e.box q.key) (recs_in (view L w e.child)))) (ents_in (view L w i))
              (λ e. held_inside e.child e.box) b);
          distinct = page_case (λ v. T (differ (recs_in v))) tt (λ i r u p. p.shape.distinct) (λ i r u p b. rw (no_recs (view L w i) p.is) tt);
          finite = page_case (λ v. T (every (λ q. every (λ x. ltb x ∞) q.key) (recs_in v))) tt
              (λ i r u p. every_each (λ q. T (within r q.key)) (λ q. every (λ x. ltb x ∞) q.key) (recs_in (view L w i)) (λ q h. whole_finite (domains w) q.key (u.keys q.key h))
              (each_every (λ q. T (within r q.key)) (λ q. within r q.key) (recs_in (view L w i)) (λ q h. h) p.shape.inside))
              (λ i r u p b. rw (no_recs (view L w i) p.is) tt);
          counted = P.count ∙ sum_once (recs_at L w) (reached L w) (pages_in L w - 1) 1 (record { is = λ c h. let i = P.inside c h in (i.0, omega arith) }) P.once
              (λ c z. rw (free_page c z).is);
          rootless = λ z. (P.count ∙ rw (none_reached z), λ j. (free_page j (rw (none_reached z))).is);
        }

  -- the marks before a walk
  clear : (y : ℕ) → get_or unmarked y false ≡ false
  clear y = case (ltb y 512) (λ e. get_or-replicate 512 y false false (ltb-true y 512 e)) (λ e. get_or-eq_default unmarked false (ltb-false y 512 e))

  room : pages_in L w ≤ length unmarked
  room = ((length_iff L w).0 long).most

  walk_shows : (left' : ℕ) (m m' : List Bool) → root_walk L w m ≡ (Some left', m')
      → Shown (pages_in L w) ((levels_at w ≡ 0 → ⊥) → Good L w (levels_at w - 1) (root_at w) (whole (domains w))) (reached L w) (points_on L w (reached L w)) (count_at w) left' m m'
  unfolding root_walk
  walk_shows left' m m' h =
      case (eqb (levels_at w) 0)
      (λ e. let k : ◌≡◌ {A = Way} (Some (count_at w), m) (Some left', m') = rw e at h in
      let i : count_at w ≡ left' = some_is (ap (λ t. t.0) k) in
      rw (e, ← ap (λ t. t.1) k) (record { good = λ z. absurd (z (eqb-true (levels_at w) 0 e)); marks = done; count = omega arith }))
      (λ e. let s = page_shows L w (levels_at w - 1) (root_at w) (whole (domains w)) (count_at w) left' m m' (rw e at h) in
      rw e (record { good = λ z. s.good; marks = s.marks; count = s.count }))

  walk_runs : (m m' : List Bool) → ((levels_at w ≡ 0 → ⊥) → Good L w (levels_at w - 1) (root_at w) (whole (domains w))) → Marks (pages_in L w) (reached L w) m m'
      → count_at w ≡ points_on L w (reached L w) → root_walk L w m ≡ (Some 0, m')
  unfolding root_walk
  walk_runs m m' g r c =
      case (eqb (levels_at w) 0)
      (λ e. let r' : Marks (pages_in L w) [] m m' = rw e at r in let c' : count_at w ≡ 0 = rw e at c in
      rw e (ap₂ (λ x y. (Some x, y)) c' (marks_nil r')))
      (λ e. let r' : Marks (pages_in L w) (reached_from L w (levels_at w - 1) (root_at w)) m m' = rw e at r in
      let c' : count_at w ≡ points_on L w (reached_from L w (levels_at w - 1) (root_at w)) = rw e at c in
      rw e (page_runs L w (levels_at w - 1) (root_at w) (whole (domains w)) (count_at w) 0 m m' (g (eqb-false (levels_at w) 0 e)) r' (omega arith)))

  free_says : (m : List Bool) (j : ℕ) → T (cleared_of L w m j) → get_or m j false ≡ false → T (every (eqb 0) (page L w j))
  unfolding cleared_of
  free_says m j h z = rw z at h

  says_free : (m : List Bool) (j : ℕ) → (get_or m j false ≡ false → T (every (eqb 0) (page L w j))) → T (cleared_of L w m j)
  unfolding cleared_of
  says_free m j f = case (get_or m j false) (λ e. rw e tt) (λ e. rw e (f e))

  -- a mark of a page that was not reached
  no_mark : (m : List Bool) (j : ℕ) → bit (get_or m j false) ≡ many j (reached L w) + bit (get_or unmarked j false) → many j (reached L w) ≡ 0 → get_or m j false ≡ false
  no_mark m j a z = is_false (get_or m j false) (not_T (get_or m j false) (λ t. absurd (omega (arith, to_bit (get_or m j false) t, ap bit (clear j)))))

  found : (o : Option ℕ) → T (all_found o) → o ≡ Some 0
  found None h = absurd h
  found (Some left) h = ap Some (eqb→eq left 0 h)

  audit_passed : T (audited L w) → Passed
  unfolding audited rest_of
  audit_passed h =
      let t = root_walk L w unmarked in
      let q : t ≡ (Some 0, t.1) = ap (λ o. (o, t.1)) (found t.0 (and_l (all_found t.0) _ h)) in
      let s = walk_shows 0 unmarked t.1 q in
      let a : (y : ℕ) → bit (get_or t.1 y false) ≡ many y (reached L w) + bit (get_or unmarked y false) = λ y. adds (pages_in L w) y (reached L w) unmarked t.1 s.marks room in
      record {
        good = s.good;
        inside = λ y i. marks_inside (pages_in L w) y (reached L w) unmarked t.1 s.marks i;
        once = λ y. omega (arith, a y, bit_most (get_or t.1 y false));
        count = omega (arith, s.count);
        free = λ j x y o. free_says t.1 j (every_up (cleared_of L w t.1) (pages_in L w - 1) 1 (and_r (all_found t.0) _ h) j x (omega arith)) (no_mark t.1 j (a j) o);
      }

  passed_audit : Passed → T (audited L w)
  unfolding audited rest_of
  passed_audit p =
      let m = marks (pages_in L w) (reached L w) unmarked room p.inside (λ y. omega (arith, p.once y, ap bit (clear y))) in
      let e : root_walk L w unmarked ≡ (Some 0, m.0) = walk_runs unmarked m.0 p.good m.1 p.count in
      let a : (y : ℕ) → bit (get_or m.0 y false) ≡ many y (reached L w) + bit (get_or unmarked y false) = λ y. adds (pages_in L w) y (reached L w) unmarked m.0 m.1 room in
      rw e (up_every (cleared_of L w m.0) (pages_in L w - 1) 1
      (λ j x y. says_free m.0 j (λ o. p.free j x (omega arith) (omega (arith, a j, ap bit o)))))

module _ (L : ℕ) (w : List ℕ) (S : Sound L w) where
  abbrev ShapedGood : ℕ → Type 0
  ShapedGood l = (j : ℕ) (r : Box) → Paths L w l j → Shaped (domains w) (regions_per L (domains w)) (points_per L (domains w)) (tree_at L w l j) l r → Good L w l j r

  forest_good : (l : ℕ) → ShapedGood l → (es : List Ent) → Each (λ e. Paths L w l e.child) es
      → ShapedF (domains w) (regions_per L (domains w)) (points_per L (domains w)) (forest (tree_at L w l) es) l → Each (λ e. Good L w l e.child e.box) es
  forest_good l f [] p s = tt
  forest_good l f (e ∷ es) p s = (f e.child e.box p.0 s.0, forest_good l f es p.1 s.1)

  laid_used : (j : ℕ) → T (in_use (view L w j)) → page L w j ≡ print_page L (view L w j)
  laid_used j u = let i = used_number L w j u in S.laid j i.0 i.1

  shaped_good : (l : ℕ) → ShapedGood l
  shaped_good zero j r p s = say_points L w j r (record { laid = laid_used j (points_used (view L w j) p); is = p; shape = s.1 })
  shaped_good (suc l) j r p s = (
    say_regions L w j r (record {
      laid = laid_used j (regions_used (view L w j) p.0);
      is = p.0;
      shape = rw (sym (boxes_at_page L w l (ents_in (view L w j)))) s.0;
    }),
    forest_good l (shaped_good l) (ents_in (view L w j)) p.1 s.1,
  )

  unreached : (j : ℕ) → many j (reached L w) ≡ 0 → view L w j ≡ blank
  unreached j z = not_used (view L w j) (λ u. let i = (S.used j).0 u in omega arith)

  reached_inside : (y : ℕ) → 1 ≤ many y (reached L w) → (1 ≤ y) × (y < pages_in L w)
  reached_inside y h = used_number L w y ((S.used y).1 h)

  sound_passed : 5 ≤ L → Passed L w S.words S.header
  sound_passed big =
      record {
        good = λ z.
            let e = ne_eqb (levels_at w) 0 z in
            let s : Stands L w (some (tree_at L w (levels_at w - 1) (root_at w))) = rw e at (Sound_stands L w S big) in
            shaped_good (levels_at w - 1) (root_at w) (whole (domains w)) (S.paths z)
            (subst (λ n. Shaped (domains w) (regions_per L (domains w)) (points_per L (domains w)) (tree_at L w (levels_at w - 1) (root_at w)) (n - 1) (whole (domains w))) (sym s.levels) s.formed.shape);
        inside = reached_inside;
        once = S.once;
        count = S.counted ∙ sym (sum_once (recs_at L w) (reached L w) (pages_in L w - 1) 1 (record { is = λ c h. let i = reached_inside c h in (i.0, omega arith) }) S.once
            (λ c z. rw (unreached c z)));
        free = λ j x y z. rw (S.laid j x y, unreached j z) (pad_zeros L);
      }

-- the audit says yes exactly on the sound pools
pub audit_iff : (L : ℕ) → 5 ≤ L → (w : List ℕ) → T (good_length L w) → T (good_header L w) → T (audited L w) ↔ Sound L w
audit_iff L big w long head = (
  λ h. passed_sound L w long head (audit_passed L w long head h),
  λ s. passed_audit L w s.words s.header (sound_passed L w s big),
)

pub audit_is : (L : ℕ) → 5 ≤ L → (w : List ℕ) → T (good_length L w) → T (good_header L w) → audited L w ≡ sound L w
audit_is L big w long head =
    let a = audit_iff L big w long head in
    let s = sound_iff L big w in
    bool_eq (audited L w) (sound L w) (λ h. s.1 (a.0 h)) (λ h. a.1 (s.0 h))

-- the same of a pool that is fit, as code has it
pub audit_says : (w : List ℕ) (f : Form) → Fit w f → good_header Calls.L w ≡ true → audited Calls.L w ≡ sound Calls.L w
audit_says w f h e =
    let g = h.formed in
    let p = pages w f g in
    audit_is Calls.L big w ((length_iff Calls.L w).1 (record { long = omega (arith, g.words, p); least = omega (arith, g.least, p); most = omega (arith, g.most, p) }))
    (of_true (good_header Calls.L w) e)
