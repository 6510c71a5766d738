-- The walk with marks, said without them. `page_shows`: a walk that met no bad page has shown that all it reached is good, each page once,
-- and counted the points. `page_runs`: where that holds, the walk meets no bad page.
use mathlib.Core.Bool.{Bool, true, false, ◌&&◌, not}
use mathlib.Core.List.{List, [], ◌∷◌, map}
use mathlib.Core.Path.{◌≡◌, refl, ap, ap₂, ◌∙◌}
use Prim.Native.Nat.{ℕ, zero, suc, ◌+◌, ◌-◌, ◌<◌, ◌≤◌}
use native.Mathlib.Omega.{arith}
use lib.Dec.{T, ltb, eqb, ltb→lt, T_not}
use lib.ListN.{length, get_or, set}
use borrow.Author.Tests.{ne_eqb, eq-eqb, lt-ltb, le-ltb, ltb-false}
use Rattle.std.specs.Prelude.{Some, None}
use Rattle.kdb.specs.Lists.{Each, gather, sum}
use Rattle.kdb.specs.Box.{Box}
use Rattle.kdb.specs.Pages.{Ent, Page, blank, points, regions, recs_in, ents_in, is_regions}
use Rattle.kdb.specs.Pool.{pages_in, view, reached_from}
use Rattle.kdb.proofs.Tests.{and_l, and_r, is_true, is_false, of_true}
use Rattle.kdb.proofs.Counts.{sum_append}
use Rattle.pages.specs.Kinds.{sound_points, sound_regions}
use Rattle.pages.proofs.Here.{regions_say}
use Rattle.pages.proofs.Bits.{case}
use Rattle.audit.specs.Walk.{Way, onward, entry_by_entry, fresh, leaf_of, page_walk}
use Rattle.audit.proofs.Marks.{Marks, done, next, marks_append, marks_nil, marks_split, first}

pub no_recs : (v : Page) → T (is_regions v) → recs_in v ≡ []
no_recs blank t = absurd t
no_recs (points d rs) t = absurd t
no_recs (regions d es) t = refl

-- what a walk says by its first part
pub some_is : {x y : ℕ} → Some x ≡ Some y → x ≡ y
some_is e = cc

no_way {ℓ} : {C : Type ℓ} {x : ℕ} {m m' : List Bool} → ◌≡◌ {A = Way} (None, m) (Some x, m') → C
no_way {x = x} e = absurd (let z : None ≡ Some x = ap (λ t. t.0) e in cc)

-- what a walk that met no bad page has shown: what is said of the pages, that each is marked once, and what was counted
pub record Shown (n : ℕ) (G : Type 0) (xs : List ℕ) (c left left' : ℕ) (m m' : List Bool) : Type 0 where
  pub good : G
  pub marks : Marks n xs m m'
  pub count : left ≡ c + left'

module _ (L : ℕ) (w : List ℕ) where
  -- the points on a list of pages
  abbrev pub recs_at : ℕ → ℕ
  recs_at j = length (recs_in (view L w j))

  abbrev pub points_on : List ℕ → ℕ
  points_on xs = sum (map recs_at xs)

  -- page j and all below it are as they must be
  abbrev pub Good : ℕ → ℕ → Box → Type 0
  Good zero j r = T (sound_points L w j r)
  Good (suc l) j r = T (sound_regions L w j r) × Each (λ e. Good l e.child e.box) (ents_in (view L w j))

  pub regions_are : (j : ℕ) (r : Box) → T (sound_regions L w j r) → T (is_regions (view L w j))
  regions_are j r t = (regions_say L w j r t).is

  record Fresh (j : ℕ) (m : List Bool) : Type 0 where
    some : 1 ≤ j
    page : j < pages_in L w
    clear : get_or m j false ≡ false

  fresh_says : (j : ℕ) (m : List Bool) → fresh L w j m ≡ true → Fresh j m
  fresh_says j m e =
      let b = not (eqb j 0) in
      let c = ltb j (pages_in L w) in
      let t = of_true (fresh L w j m) e in
      let u = and_l (b && c) _ t in
      let z : j ≡ 0 → ⊥ = λ z. T_not (eqb j 0) (and_l b _ u) (of_true (eqb j 0) (eq-eqb j 0 z)) in
      record {
        some = omega arith;
        page = ltb→lt j (pages_in L w) (and_r b _ u);
        clear = is_false (get_or m j false) (and_r (b && c) _ t);
      }

  abbrev PageShows : ℕ → Type 0
  PageShows l = (j : ℕ) (r : Box) (left left' : ℕ) (m m' : List Bool) → page_walk L w l j r left m ≡ (Some left', m')
      → Shown (pages_in L w) (Good l j r) (reached_from L w l j) (points_on (reached_from L w l j)) left left' m m'

  entries_show : (l : ℕ) → PageShows l → (es : List Ent) (left left' : ℕ) (m m' : List Bool) → entry_by_entry (λ e. page_walk L w l e.child e.box) es left m ≡ (Some left', m')
      → Shown (pages_in L w) (Each (λ e. Good l e.child e.box) es) (gather (λ e. reached_from L w l e.child) es)
      (points_on (gather (λ e. reached_from L w l e.child) es)) left left' m m'
  unfolding entry_by_entry
  entries_show l f [] left left' m m' h =
      let p : left ≡ left' = some_is (ap (λ t. t.0) h) in
      rw (← ap (λ t. t.1) h) (record { good = tt; marks = done; count = omega arith })
  entries_show l f (e ∷ es) left left' m m' h =
      go (page_walk L w l e.child e.box left m) refl h (λ x m₁. entries_show l f es x left' m₁ m')
    where
      go : (t : Way) → page_walk L w l e.child e.box left m ≡ t → onward t.0 t.1 (entry_by_entry (λ d. page_walk L w l d.child d.box) es) ≡ (Some left', m')
          → ((x : ℕ) (m₁ : List Bool) → entry_by_entry (λ d. page_walk L w l d.child d.box) es x m₁ ≡ (Some left', m')
          → Shown (pages_in L w) (Each (λ d. Good l d.child d.box) es) (gather (λ d. reached_from L w l d.child) es)
          (points_on (gather (λ d. reached_from L w l d.child) es)) x left' m₁ m')
          → Shown (pages_in L w) (Each (λ d. Good l d.child d.box) (e ∷ es)) (gather (λ d. reached_from L w l d.child) (e ∷ es))
          (points_on (gather (λ d. reached_from L w l d.child) (e ∷ es))) left left' m m'
      go (None, m₁) q h more = no_way h
      go (Some x, m₁) q h more =
          let r = more x m₁ h in
          let v = f e.child e.box left x m m₁ q in
          record {
            good = (v.good, r.good);
            marks = marks_append v.marks r.marks;
            count = omega (arith, v.count, r.count, sum_append recs_at (reached_from L w l e.child) (gather (λ d. reached_from L w l d.child) es));
          }

  leaf_shows : (j : ℕ) (r : Box) (left left' : ℕ) → leaf_of L w j r left ≡ Some left' → T (sound_points L w j r) × (left ≡ recs_at j + left')
  unfolding leaf_of
  leaf_shows j r left left' h =
      case (sound_points L w j r)
      (λ e. case (ltb left (recs_at j))
      (λ g. absurd (let z : None ≡ Some left' = rw (e, g) at h in cc))
      (λ g. let k : recs_at j ≤ left = ltb-false left (recs_at j) g in
      let i : left - recs_at j ≡ left' = some_is (rw (e, g) at h) in (of_true (sound_points L w j r) e, omega arith)))
      (λ e. absurd (let z : None ≡ Some left' = rw e at h in cc))

  pub page_shows : (l : ℕ) → PageShows l
  unfolding page_walk
  page_shows zero j r left left' m m' h =
      case (fresh L w j m)
      (λ e. let f = fresh_says j m e in
      let k : (leaf_of L w j r left, set m j true) ≡ (Some left', m') = rw e at h in
      let g = leaf_shows j r left left' (ap (λ t. t.0) k) in
      rw (← ap (λ t. t.1) k) (record { good = g.0; marks = next f.some f.page f.clear done; count = omega (arith, g.1) }))
      (λ e. no_way (rw e at h))
  page_shows (suc l) j r left left' m m' h =
      case (fresh L w j m)
      (λ e. let f = fresh_says j m e in
      case (sound_regions L w j r)
      (λ d. let g = entries_show l (page_shows l) (ents_in (view L w j)) left left' (set m j true) m' (rw (e, d) at h) in
      let t = of_true (sound_regions L w j r) d in
      record {
        good = (t, g.good);
        marks = next f.some f.page f.clear g.marks;
        count = omega (arith, g.count, ap length (no_recs (view L w j) (regions_are j r t)));
      })
      (λ d. no_way (rw (e, d) at h)))
      (λ e. no_way (rw e at h))

  fresh_is : (j : ℕ) (m : List Bool) → 1 ≤ j → j < pages_in L w → get_or m j false ≡ false → fresh L w j m ≡ true
  fresh_is j m z h g = rw (ne_eqb j 0 (λ e. omega arith), lt-ltb j (pages_in L w) h, g)

  abbrev PageRuns : ℕ → Type 0
  PageRuns l = (j : ℕ) (r : Box) (left left' : ℕ) (m m' : List Bool) → Good l j r → Marks (pages_in L w) (reached_from L w l j) m m'
      → left ≡ points_on (reached_from L w l j) + left' → page_walk L w l j r left m ≡ (Some left', m')

  entries_run : (l : ℕ) → PageRuns l → (es : List Ent) (left left' : ℕ) (m m' : List Bool) → Each (λ e. Good l e.child e.box) es
      → Marks (pages_in L w) (gather (λ e. reached_from L w l e.child) es) m m' → left ≡ points_on (gather (λ e. reached_from L w l e.child) es) + left'
      → entry_by_entry (λ e. page_walk L w l e.child e.box) es left m ≡ (Some left', m')
  unfolding entry_by_entry
  entries_run l f [] left left' m m' g r c = let e : left ≡ left' = omega arith in ap₂ (λ x y. (Some x, y)) e (marks_nil r)
  entries_run l f (e ∷ es) left left' m m' g r c =
      let xs = reached_from L w l e.child in
      let ys = gather (λ d. reached_from L w l d.child) es in
      let i = marks_split xs ys r in
      let u : page_walk L w l e.child e.box left m ≡ (Some (points_on ys + left'), i.0) =
      f e.child e.box left (points_on ys + left') m i.0 g.0 i.1 (omega (arith, c, sum_append recs_at xs ys)) in
      ap (λ t. onward t.0 t.1 (entry_by_entry (λ d. page_walk L w l d.child d.box) es)) u
      ∙ entries_run l f es (points_on ys + left') left' i.0 m' g.1 i.2 refl

  leaf_runs : (j : ℕ) (r : Box) (left left' : ℕ) → T (sound_points L w j r) → left ≡ recs_at j + left' → leaf_of L w j r left ≡ Some left'
  unfolding leaf_of
  leaf_runs j r left left' g c =
      let h : recs_at j ≤ left = omega arith in
      let e : left - recs_at j ≡ left' = omega arith in
      rw (is_true (sound_points L w j r) g, le-ltb left (recs_at j) h, e)

  pub page_runs : (l : ℕ) → PageRuns l
  unfolding page_walk
  page_runs zero j r left left' m m' g k c =
      let f = first k in
      rw (fresh_is j m f.some f.page f.clear) (ap₂ (λ x y. (x, y)) (leaf_runs j r left left' g (omega arith)) (marks_nil f.more))
  page_runs (suc l) j r left left' m m' g k c =
      let f = first k in
      rw (fresh_is j m f.some f.page f.clear, is_true (sound_regions L w j r) g.0)
      (entries_run l (page_runs l) (ents_in (view L w j)) left left' (set m j true) m' g.1 f.more (omega (arith, c, ap length (no_recs (view L w j) (regions_are j r g.0)))))
