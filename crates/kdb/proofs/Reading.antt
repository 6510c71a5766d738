-- The walks on a sound pool are the tree's: list reads the pages whose own regions meet the window, each once, and finds the records in
-- it; a window of one point, and find, read one page of each level.
use mathlib.Core.Bool.{Bool, true, false, ◌&&◌, not, cond}
use mathlib.Core.List.{append-nil, List, [], ◌∷◌, ◌++◌, map, map-append}
use mathlib.Core.Logic.{◌↔◌, ◌⊎◌, inl, inr}
use mathlib.Core.Option.{Option, none, some}
use mathlib.Core.Path.{◌≡◌, refl, sym, ap, ap₂, ◌∙◌, subst}
use Prim.Native.Nat.{ℕ, zero, suc, ◌+◌, ◌-◌, ◌<◌, ◌≤◌}
use native.Mathlib.Omega.{arith}
use lib.Dec.{T, leb, ltb, eqb, le→leb, lt→ltb, T_not, not_T}
use lib.ListN.{length, take, length-append}
use borrow.Author.Tests.{lt-ltb, ne_eqb}
use Rattle.kdb.specs.Lists.{bit, only, tally, every, many, same}
use Rattle.kdb.specs.Box.{Box, Key, sides, whole, within, in_window, meets}
use Rattle.kdb.specs.Tree.{Rec, Tree, leaf, node, Forest, fnil, fcons, State, root, boxes, levels, pages, pages_f, records, records_f, pages_of, records_of}
use Rattle.kdb.specs.Tiling.{Tiles, holders}
use Rattle.kdb.specs.Pages.{points, regions, recs_in, ents_in, is_points, is_regions, points_per, regions_per}
use Rattle.kdb.specs.Shape.{Shaped, ShapedF}
use Rattle.kdb.specs.Pool.{domains, root_at, levels_at, pages_in, numbers, view, own_region, is_page}
use Rattle.kdb.specs.Print.{ents}
use Rattle.kdb.specs.Walk.{Spot, spots, Tour, still, follow, through, read_at, good_points, good_regions, tour, bounded, list_walk, End, rootless, bad, absent, here, Search, ends, after, spot_of, into, seek, find_walk}
use Rattle.kdb.specs.Demands.{Shares, met}
use Rattle.kdb.proofs.Tests.{and_i, and_l, and_r, cases, bool_eq, is_false, of_bit, to_bit, no_bit, self}
use Rattle.kdb.proofs.Lists.{every_append, same_eq}
use Rattle.kdb.proofs.Counts.{only_append, every_imp, tally_append, many_append, In, in_head, in_left, in_right, every_many, once_length, once_tally}
use Rattle.kdb.proofs.Box.{window_i, window_e, meets_of, at_meet}
use Rattle.kdb.proofs.Tiling.{tiles_counted}
use Rattle.kdb.proofs.Views.{Seen, SeenF, ents_boxes, among}
use Rattle.kdb.proofs.Stands.{Stands}
use Rattle.kdb.proofs.Walk.{page_e, list_pages}
use Rattle.kdb.proofs.Print.{some_levels, stands_seen}
use Rattle.kdb.proofs.Own.{or_box, own_in, own_in_f, own_out, own_out_f, own_region_lem}

-- the tree's walk of a window: the pages read and the records found
abbrev mutual
  pub reads : Tree → Box → List ℕ
  reads (leaf p d rs) v = p ∷ []
  reads (node p d f) v = p ∷ reads_f f v

  pub reads_f : Forest → Box → List ℕ
  reads_f fnil v = []
  reads_f (fcons b t f) v = cond (meets b v) (reads t v) [] ++ reads_f f v

abbrev mutual
  pub finds : Tree → Box → List Spot
  finds (leaf p d rs) v = only (λ s. in_window v s.rec.key) (spots p 0 rs)
  finds (node p d f) v = finds_f f v

  pub finds_f : Forest → Box → List Spot
  finds_f fnil v = []
  finds_f (fcons b t f) v = cond (meets b v) (finds t v) [] ++ finds_f f v

abbrev pub walked : Tree → Box → Tour
walked t v = record { read = reads t v; bad = false; found = finds t v }

abbrev walked_f : Forest → Box → Tour
walked_f f v = record { read = reads_f f v; bad = false; found = finds_f f v }

-- the tree's search of a point
abbrev mutual
  pub seeks : Tree → Key → Search
  seeks (leaf p d rs) q = ends (p ∷ []) (spot_of p q (spots p 0 rs))
  seeks (node p d f) q = after p (seeks_f f q)

  pub seeks_f : Forest → Key → Search
  seeks_f fnil q = ends [] bad
  seeks_f (fcons b t f) q = cond (within b q) (seeks t q) (seeks_f f q)

good_page : {A : Type 0} (p g : Bool) (x y z : A) → T p → T g → cond p (cond g x y) z ≡ x
good_page true true x y z t u = refl
good_page true false x y z t u = absurd u
good_page false g x y z t u = absurd t

-- where the tree's pages are in their places, the walks over the words are the tree's
module _ (L : ℕ) (w : List ℕ) where
  abbrev Fits : Tree → ℕ → Box → Type 0
  Fits t n r = Shaped (domains w) (regions_per L (domains w)) (points_per L (domains w)) t n r

  abbrev FitsF : Forest → ℕ → Type 0
  FitsF f n = ShapedF (domains w) (regions_per L (domains w)) (points_per L (domains w)) f n

  abbrev Paged : List ℕ → Type 0
  Paged l = (c : ℕ) → 1 ≤ many c l → T (is_page L w c)

  good_points_lem : (p d n : ℕ) (rs : List Rec) (r : Box) → Fits (leaf p d rs) n r → view L w p ≡ points d rs → T (good_points L w p)
  good_points_lem p d n rs r s e =
      subst (λ u. T (is_points u && leb (length (recs_in u)) (points_per L (domains w)))) (sym e) (le→leb (length rs) (points_per L (domains w)) s.1.room)

  good_regions_lem : (p d n : ℕ) (f : Forest) (r : Box) → Fits (node p d f) (suc n) r → view L w p ≡ regions d (ents f) → T (good_regions L w p)
  good_regions_lem p d n f r s e =
      let l = length (ents f) in
      let R = regions_per L (domains w) in
      subst (λ u. T (is_regions u && leb 1 (length (ents_in u)) && leb (length (ents_in u)) R)) (sym e)
      (and_i (leb 1 l) (leb l R) (le→leb 1 l (omega (arith, ents_boxes f, s.0.filled))) (le→leb l R (omega (arith, ents_boxes f, s.0.room))))

  paged_left : (l m : List ℕ) → Paged (l ++ m) → Paged l
  paged_left l m h c i = h c (omega (arith, many_append c l m))

  paged_right : (l m : List ℕ) → Paged (l ++ m) → Paged m
  paged_right l m h c i = h c (omega (arith, many_append c l m))

  module _ (v : Box) where
    entry_tour : (b : Box) (t : Tree) (f : Forest) (z : Bool)
        → follow (cond z (walked t v) still) (walked_f f v) ≡ record { read = cond z (reads t v) [] ++ reads_f f v; bad = false; found = cond z (finds t v) [] ++ finds_f f v }
    entry_tour b t f true = refl
    entry_tour b t f false = refl

    mutual
      tour_tree : (t : Tree) (n : ℕ) (r : Box) → Fits t n r → Seen (view L w) t → Paged (pages t) → tour L w v n (root t) ≡ walked t v
      tour_tree (leaf p d rs) zero r s h g =
          good_page (is_page L w p) (good_points L w p) _ _ _ (g p (omega (arith, self p))) (good_points_lem p d zero rs r s h)
          ∙ ap (λ u. read_at p (only (λ s. in_window v s.rec.key) (spots p 0 (recs_in u)))) h
      tour_tree (leaf p d rs) (suc n) r s h g = absurd (omega (arith, s.0))
      tour_tree (node p d f) zero r s h g = absurd s
      tour_tree (node p d f) (suc n) r s h g =
          good_page (is_page L w p) (good_regions L w p) _ _ _ (g p (omega (arith, self p))) (good_regions_lem p d n f r s h.0)
          ∙ ap (λ u. follow (read_at p []) (through (tour L w v n) v (ents_in u))) h.0
          ∙ ap (λ t. follow (read_at p []) t) (tour_tree_f f n s.1 h.1 (λ c i. g c (omega arith)))

      tour_tree_f : (f : Forest) (n : ℕ) → FitsF f n → SeenF (view L w) f → Paged (pages_f f) → through (tour L w v n) v (ents f) ≡ walked_f f v
      tour_tree_f fnil n s h g = refl
      tour_tree_f (fcons b t f) n s h g =
          ap₂ (λ x y. follow (cond (meets b v) x still) y) (tour_tree t n b s.0 h.0 (paged_left (pages t) (pages_f f) g)) (tour_tree_f f n s.1 h.1 (paged_right (pages t) (pages_f f) g))
          ∙ entry_tour b t f (meets b v)

  module _ (q : Key) where
    mutual
      seek_tree : (t : Tree) (n : ℕ) (r : Box) → Fits t n r → Seen (view L w) t → Paged (pages t) → seek L w q n (root t) ≡ seeks t q
      seek_tree (leaf p d rs) zero r s h g =
          good_page (is_page L w p) (good_points L w p) _ _ _ (g p (omega (arith, self p))) (good_points_lem p d zero rs r s h)
          ∙ ap (λ u. ends (p ∷ []) (spot_of p q (spots p 0 (recs_in u)))) h
      seek_tree (leaf p d rs) (suc n) r s h g = absurd (omega (arith, s.0))
      seek_tree (node p d f) zero r s h g = absurd s
      seek_tree (node p d f) (suc n) r s h g =
          good_page (is_page L w p) (good_regions L w p) _ _ _ (g p (omega (arith, self p))) (good_regions_lem p d n f r s h.0)
          ∙ ap (λ u. after p (into (seek L w q n) q (ents_in u))) h.0
          ∙ ap (after p) (seek_tree_f f n s.1 h.1 (λ c i. g c (omega arith)))

      seek_tree_f : (f : Forest) (n : ℕ) → FitsF f n → SeenF (view L w) f → Paged (pages_f f) → into (seek L w q n) q (ents f) ≡ seeks_f f q
      seek_tree_f fnil n s h g = refl
      seek_tree_f (fcons b t f) n s h g =
          ap₂ (λ x y. cond (within b q) x y) (seek_tree t n b s.0 h.0 (paged_left (pages t) (pages_f f) g)) (seek_tree_f f n s.1 h.1 (paged_right (pages t) (pages_f f) g))

-- every key of one of the regions is a key of r
record Below (bs : List Box) (r : Box) : Type 0 where
  covers : (p : Key) → 1 ≤ holders bs p → T (within r p)

below : {r : Box} {bs : List Box} → Tiles r bs → Below bs r
below {r} {bs} t = record { covers = λ p h. of_bit (within r p) (omega (arith, (tiles_counted r bs t).once p)) }

head_below : {b r : Box} {bs : List Box} → Below (b ∷ bs) r → (p : Key) → T (within b p) → T (within r p)
head_below {b} u p h = u.covers p (omega (arith, to_bit (within b p) h))

tail_below : {b r : Box} {bs : List Box} → Below (b ∷ bs) r → Below bs r
tail_below u = record { covers = λ p h. u.covers p (omega arith) }

-- records of a region that misses the window, or lacks the key
none_in : (b v : Box) (l : List Rec) → T (not (meets b v)) → T (every (λ q. within b q.key) l) → only (λ r. in_window v r.key) l ≡ []
none_in b v [] h a = refl
none_in b v (r ∷ l) h a =
    rw (is_false (in_window v r.key) (not_T (in_window v r.key) (λ k. T_not (meets b v) h (meets_of b v r.key (and_l (within b r.key) _ a) k))))
    (none_in b v l h (and_r (within b r.key) _ a))

none_keyed : (b : Box) (q : Key) (l : List Rec) → T (not (within b q)) → T (every (λ r. within b r.key) l) → tally (λ r. same q r.key) l ≡ 0
none_keyed b q [] h a = refl
none_keyed b q (r ∷ l) h a =
    omega (
      arith,
      no_bit (same q r.key) (λ t. T_not (within b q) h (subst (λ k. T (within b k)) (sym (same_eq q r.key t)) (and_l (within b r.key) _ a))),
      none_keyed b q l h (and_r (within b r.key) _ a),
    )

-- the records of a page's spots
pub spots_only : (g : Key → Bool) (j i : ℕ) (rs : List Rec) → map (λ x. x.rec) (only (λ s. g s.rec.key) (spots j i rs)) ≡ only (λ r. g r.key) rs
spots_only g j i [] = refl
spots_only g j i (r ∷ rs) =
    cases (λ b. map (λ x. x.rec) (cond b (record { page = j; slot = i; rec = r } ∷ only (λ s. g s.rec.key) (spots j (suc i) rs)) (only (λ s. g s.rec.key) (spots j (suc i) rs)))
    ≡ cond b (r ∷ only (λ r. g r.key) rs) (only (λ r. g r.key) rs)) (g r.key)
    (λ _. ap (λ l. r ∷ l) (spots_only g j (suc i) rs)) (λ _. spots_only g j (suc i) rs)

-- where a search of the records for a key may end
abbrev pub Answers : List Rec → Key → End → Type 0
Answers rs q rootless = ⊥
Answers rs q bad = ⊥
Answers rs q (absent j) = tally (λ r. same q r.key) rs ≡ 0
Answers rs q (here x) = (x.rec.key ≡ q) × In x.rec rs

answers_left : (rs ss : List Rec) (q : Key) (e : End) → tally (λ r. same q r.key) ss ≡ 0 → Answers rs q e → Answers (rs ++ ss) q e
answers_left rs ss q rootless h a = a
answers_left rs ss q bad h a = a
answers_left rs ss q (absent j) h a = omega (arith, tally_append (λ r. same q r.key) rs ss)
answers_left rs ss q (here x) h a = (a.0, in_left x.rec rs ss a.1)

answers_right : (rs ss : List Rec) (q : Key) (e : End) → tally (λ r. same q r.key) rs ≡ 0 → Answers ss q e → Answers (rs ++ ss) q e
answers_right rs ss q rootless h a = a
answers_right rs ss q bad h a = a
answers_right rs ss q (absent j) h a = omega (arith, tally_append (λ r. same q r.key) rs ss)
answers_right rs ss q (here x) h a = (a.0, in_right x.rec rs ss a.1)

spot_answers : (j i : ℕ) (q : Key) (rs : List Rec) → Answers rs q (spot_of j q (spots j i rs))
spot_answers j i q [] = refl
spot_answers j i q (r ∷ rs) =
    cases (λ b. (b ≡ same q r.key) → Answers (r ∷ rs) q (cond b (here (record { page = j; slot = i; rec = r })) (spot_of j q (spots j (suc i) rs)))) (same q r.key)
    (λ t _. (sym (same_eq q r.key t), in_head r rs))
    (λ t _. answers_right (r ∷ []) rs q (spot_of j q (spots j (suc i) rs)) (omega (arith, no_bit (same q r.key) (T_not (same q r.key) t))) (spot_answers j (suc i) q rs)) refl

-- a window that holds one point
pub record OnePoint (v : Box) (q : Key) : Type 0 where
  pub holds : T (in_window v q)
  pub alone : (p : Key) → T (in_window v p) → p ≡ q

point_meets : (v : Box) (q : Key) → OnePoint v q → (b : Box) → meets b v ≡ within b q
point_meets v q o b =
    bool_eq (meets b v) (within b q) (λ m. let i = at_meet b v m in subst (λ p. T (within b p)) (o.alone i.0 i.2) i.1) (λ h. meets_of b v q h o.holds)

pub one_point : (q : Key) → OnePoint (sides q q) q
one_point q = record { holds = holds q; alone = alone q }
  where
    holds : (q : Key) → T (in_window (sides q q) q)
    holds [] = tt
    holds (x ∷ q) = window_i (record { lo = x; hi = x }) x (sides q q) q (omega arith) (omega arith) (holds q)

    alone : (q p : Key) → T (in_window (sides q q) p) → p ≡ q
    alone [] [] h = refl
    alone [] (y ∷ p) h = absurd h
    alone (x ∷ q) [] h = absurd h
    alone (x ∷ q) (y ∷ p) h =
        let i = window_e (record { lo = x; hi = x }) y (sides q q) p h in
        let e : y ≡ x = omega arith in
        ap₂ ◌∷◌ e (alone q p i.2)

-- the tree's walks, for k domains, R regions and P points a page
module _ (k R P : ℕ) where
  mutual
    pub all_in : (t : Tree) (n : ℕ) (r : Box) → Shaped k R P t n r → T (every (λ q. within r q.key) (records t))
    all_in (leaf p d rs) n r s = s.1.inside
    all_in (node p d f) zero r s = absurd s
    all_in (node p d f) (suc n) r s = all_in_f f n r s.1 (below s.0.tiled)

    all_in_f : (f : Forest) (n : ℕ) (r : Box) → ShapedF k R P f n → Below (boxes f) r → T (every (λ q. within r q.key) (records_f f))
    all_in_f fnil n r s u = tt
    all_in_f (fcons b t f) n r s u =
        every_append (λ q. within r q.key) (records t) (records_f f)
        (every_imp (λ q. within b q.key) (λ q. within r q.key) (λ q. head_below u q.key) (records t) (all_in t n b s.0)) (all_in_f f n r s.1 (tail_below u))

  -- the walk finds the records in the window, in the tree's order
  mutual
    pub finds_all : (t : Tree) (n : ℕ) (r v : Box) → Shaped k R P t n r → map (λ x. x.rec) (finds t v) ≡ only (λ r. in_window v r.key) (records t)
    finds_all (leaf p d rs) n r v s = spots_only (in_window v) p 0 rs
    finds_all (node p d f) zero r v s = absurd s
    finds_all (node p d f) (suc n) r v s = finds_all_f f n v s.1

    finds_all_f : (f : Forest) (n : ℕ) (v : Box) → ShapedF k R P f n → map (λ x. x.rec) (finds_f f v) ≡ only (λ r. in_window v r.key) (records_f f)
    finds_all_f fnil n v s = refl
    finds_all_f (fcons b t f) n v s =
        map-append (λ x. x.rec) (cond (meets b v) (finds t v) []) (finds_f f v)
        ∙ ap₂ ◌++◌
        (cases (λ z. map (λ x. x.rec) (cond z (finds t v) []) ≡ only (λ r. in_window v r.key) (records t)) (meets b v)
        (λ _. finds_all t n b v s.0) (λ m. sym (none_in b v (records t) m (all_in t n b s.0))))
        (finds_all_f f n v s.1)
        ∙ sym (only_append (λ r. in_window v r.key) (records t) (records_f f))

  -- a window of one point reads one page of each level
  module _ (v : Box) (q : Key) (o : OnePoint v q) where
    none_reads_f : (f : Forest) → holders (boxes f) q ≡ 0 → reads_f f v ≡ []
    none_reads_f fnil h = refl
    none_reads_f (fcons b t f) h =
        ap (λ z. cond z (reads t v) [] ++ reads_f f v) (point_meets v q o b ∙ is_false (within b q) (not_T (within b q) (λ t. omega (arith, to_bit (within b q) t))))
        ∙ none_reads_f f (omega arith)

    -- they are the pages that the search of the point reads
    mutual
      one_path : (t : Tree) (n : ℕ) (r : Box) → Shaped k R P t n r → T (within r q) → (seeks t q).read ≡ reads t v
      one_path (leaf p d rs) n r s h = refl
      one_path (node p d f) zero r s h = absurd s
      one_path (node p d f) (suc n) r s h = ap (λ l. p ∷ l) (one_path_f f n s.1 ((tiles_counted r (boxes f) s.0.tiled).once q ∙ to_bit (within r q) h))

      one_path_f : (f : Forest) (n : ℕ) → ShapedF k R P f n → holders (boxes f) q ≡ 1 → (seeks_f f q).read ≡ reads_f f v
      one_path_f fnil n s h = absurd (omega arith)
      one_path_f (fcons b t f) n s h =
          cases (λ z. bit z + holders (boxes f) q ≡ 1 → (cond z (seeks t q) (seeks_f f q)).read ≡ cond z (reads t v) [] ++ reads_f f v) (within b q)
          (λ i e. one_path t n b s.0 i ∙ sym (ap (λ l. reads t v ++ l) (none_reads_f f (omega arith)) ∙ append-nil (reads t v))) (λ _ e. one_path_f f n s.1 (omega arith)) h
          ∙ sym (ap (λ z. cond z (reads t v) [] ++ reads_f f v) (point_meets v q o b))

    mutual
      one_reads : (t : Tree) (n : ℕ) (r : Box) → Shaped k R P t n r → T (within r q) → length (reads t v) ≡ suc n
      one_reads (leaf p d rs) n r s h = ap suc (sym s.0)
      one_reads (node p d f) zero r s h = absurd s
      one_reads (node p d f) (suc n) r s h = ap suc (one_reads_f f n s.1 ((tiles_counted r (boxes f) s.0.tiled).once q ∙ to_bit (within r q) h))

      one_reads_f : (f : Forest) (n : ℕ) → ShapedF k R P f n → holders (boxes f) q ≡ 1 → length (reads_f f v) ≡ suc n
      one_reads_f fnil n s h = absurd (omega arith)
      one_reads_f (fcons b t f) n s h =
          ap (λ z. length (cond z (reads t v) [] ++ reads_f f v)) (point_meets v q o b)
          ∙ cases (λ z. bit z + holders (boxes f) q ≡ 1 → length (cond z (reads t v) [] ++ reads_f f v) ≡ suc n) (within b q)
          (λ i e. omega (arith, length-append (reads t v) (reads_f f v), ap length (none_reads_f f (omega arith)), one_reads t n b s.0 i)) (λ _ e. one_reads_f f n s.1 (omega arith)) h

  -- the search reads one page of each level, and ends at the record with the key exactly if there is one
  module _ (q : Key) where
    none_keyed_f : (f : Forest) (n : ℕ) → ShapedF k R P f n → holders (boxes f) q ≡ 0 → tally (λ r. same q r.key) (records_f f) ≡ 0
    none_keyed_f fnil n s h = refl
    none_keyed_f (fcons b t f) n s h =
        omega (
          arith,
          tally_append (λ r. same q r.key) (records t) (records_f f),
          none_keyed b q (records t) (not_T (within b q) (λ t. omega (arith, to_bit (within b q) t))) (all_in t n b s.0),
          none_keyed_f f n s.1 (omega arith),
        )

    record Ended (rs : List Rec) (n : ℕ) (g : Search) : Type 0 where
      long : length g.read ≡ suc n
      answers : Answers rs q g.end

    mutual
      seeks_end : (t : Tree) (n : ℕ) (r : Box) → Shaped k R P t n r → T (within r q) → Ended (records t) n (seeks t q)
      seeks_end (leaf p d rs) n r s h = record { long = ap suc (sym s.0); answers = spot_answers p 0 q rs }
      seeks_end (node p d f) zero r s h = absurd s
      seeks_end (node p d f) (suc n) r s h =
          let i = seeks_end_f f n s.1 ((tiles_counted r (boxes f) s.0.tiled).once q ∙ to_bit (within r q) h) in
          record { long = ap suc i.long; answers = i.answers }

      seeks_end_f : (f : Forest) (n : ℕ) → ShapedF k R P f n → holders (boxes f) q ≡ 1 → Ended (records_f f) n (seeks_f f q)
      seeks_end_f fnil n s h = absurd (omega arith)
      seeks_end_f (fcons b t f) n s h =
          cases (λ z. bit z + holders (boxes f) q ≡ 1 → Ended (records t ++ records_f f) n (cond z (seeks t q) (seeks_f f q))) (within b q)
          (λ i e. let a = seeks_end t n b s.0 i in
          record { long = a.long; answers = answers_left (records t) (records_f f) q (seeks t q).end (none_keyed_f f n s.1 (omega arith)) a.answers })
          (λ i e. let a = seeks_end_f f n s.1 (omega arith) in
          record { long = a.long; answers = answers_right (records t) (records_f f) q (seeks_f f q).end (none_keyed b q (records t) i (all_in t n b s.0)) a.answers }) h

-- the pages read are pages of the tree, none more often than there
mutual
  pub reads_most : (t : Tree) (v : Box) (c : ℕ) → many c (reads t v) ≤ many c (pages t)
  reads_most (leaf p d rs) v c = omega arith
  reads_most (node p d f) v c = omega (arith, reads_most_f f v c)

  reads_most_f : (f : Forest) (v : Box) (c : ℕ) → many c (reads_f f v) ≤ many c (pages_f f)
  reads_most_f fnil v c = omega arith
  reads_most_f (fcons b t f) v c =
      cases (λ z. many c (cond z (reads t v) [] ++ reads_f f v) ≤ many c (pages t ++ pages_f f)) (meets b v)
      (λ _. omega (arith, many_append c (reads t v) (reads_f f v), many_append c (pages t) (pages_f f), reads_most t v c, reads_most_f f v c))
      (λ _. omega (arith, many_append c (pages t) (pages_f f), reads_most_f f v c))

-- the first of two regions that is there
met_or : (v : Box) (a b : Option Box) → met v a ≡ false → met v b ≡ false → met v (or_box a b) ≡ false
met_or v none b h g = g
met_or v (some r) b h g = h

-- of two regions, one of which is none
met_one : (v : Box) (a b : Option Box) → (a ≡ none) ⊎ (b ≡ none) → bit (met v (or_box a b)) ≡ bit (met v a) + bit (met v b)
met_one v none b h = omega arith
met_one v (some r) none h = omega arith
met_one v (some r) (some c) (inl e) = absurd (let z : ◌≡◌ {A = ℕ} 0 1 = cc in omega arith)
met_one v (some r) (some c) (inr e) = absurd (let z : ◌≡◌ {A = ℕ} 0 1 = cc in omega arith)

-- a region that misses the window: so do the regions below it
below_misses : {b r : Box} {bs : List Box} (v : Box) → Below (b ∷ bs) r → T (not (meets r v)) → T (not (meets b v))
below_misses {b} {r} v u h =
    not_T (meets b v) (λ m. let i = at_meet b v m in T_not (meets r v) h (meets_of r v i.0 (head_below u i.0 i.1) i.2))

-- the pages read are those whose own regions meet the window
module _ (k R P : ℕ) (v : Box) (j : ℕ) where
  mutual
    own_misses : (t : Tree) (n : ℕ) (r : Box) → Shaped k R P t n r → T (not (meets r v)) → met v (own_in t r j) ≡ false
    own_misses (leaf p d rs) n r s m = cases (λ z. met v (cond z (some r) none) ≡ false) (eqb j p) (λ _. is_false (meets r v) m) (λ _. refl)
    own_misses (node p d f) zero r s m = absurd s
    own_misses (node p d f) (suc n) r s m =
        cases (λ z. met v (cond z (some r) (own_in_f f j)) ≡ false) (eqb j p) (λ _. is_false (meets r v) m) (λ _. own_misses_f f n r s.1 (below s.0.tiled) m)

    own_misses_f : (f : Forest) (n : ℕ) (r : Box) → ShapedF k R P f n → Below (boxes f) r → T (not (meets r v)) → met v (own_in_f f j) ≡ false
    own_misses_f fnil n r s u m = refl
    own_misses_f (fcons b t f) n r s u m =
        met_or v (own_in t b j) (own_in_f f j) (own_misses t n b s.0 (below_misses v u m)) (own_misses_f f n r s.1 (tail_below u) m)

  mutual
    pub own_reads : (t : Tree) (n : ℕ) (r : Box) → Shaped k R P t n r → T (meets r v) → many j (pages t) ≤ 1 → many j (reads t v) ≡ bit (met v (own_in t r j))
    own_reads (leaf p d rs) n r s m o =
        cases (λ z. bit z + 0 ≡ bit (met v (cond z (some r) none))) (eqb j p) (λ _. omega (arith, to_bit (meets r v) m)) (λ _. refl)
    own_reads (node p d f) zero r s m o = absurd s
    own_reads (node p d f) (suc n) r s m o =
        cases (λ z. bit z + many j (pages_f f) ≤ 1 → bit z + many j (reads_f f v) ≡ bit (met v (cond z (some r) (own_in_f f j)))) (eqb j p)
        (λ _ o. omega (arith, to_bit (meets r v) m, reads_most_f f v j)) (λ _ o. omega (arith, own_reads_f f n s.1 (omega arith))) o

    own_reads_f : (f : Forest) (n : ℕ) → ShapedF k R P f n → many j (pages_f f) ≤ 1 → many j (reads_f f v) ≡ bit (met v (own_in_f f j))
    own_reads_f fnil n s o = refl
    own_reads_f (fcons b t f) n s o =
        let a = many_append j (pages t) (pages_f f) in
        let here : many j (cond (meets b v) (reads t v) []) ≡ bit (met v (own_in t b j)) =
        cases (λ z. (T z → many j (reads t v) ≡ bit (met v (own_in t b j))) → (T (not z) → met v (own_in t b j) ≡ false) → many j (cond z (reads t v) []) ≡ bit (met v (own_in t b j))) (meets b v)
        (λ _ g h. g tt) (λ _ g h. sym (ap bit (h tt))) (λ m. own_reads t n b s.0 m (omega arith)) (λ m. own_misses t n b s.0 m) in
        omega (
          arith,
          here,
          own_reads_f f n s.1 (omega arith),
          many_append j (cond (meets b v) (reads t v) []) (reads_f f v),
          met_one v (own_in t b j) (own_in_f f j) (among j (pages t) (λ i. inr (own_out_f f j (omega arith))) (λ z. inl (own_out t b j z))),
        )

-- the state's walk and search
abbrev pub walked_s : State → Box → Tour
walked_s none v = still
walked_s (some t) v = walked t v

abbrev pub seeks_s : State → Key → Search
seeks_s none q = ends [] rootless
seeks_s (some t) q = seeks t q

-- on a pool in which a well-formed state stands
module _ (L : ℕ) (w : List ℕ) where
  stands_paged : (s : State) → Stands L w s → Paged L w (pages_of s)
  stands_paged s h c i =
      let q = h.formed.numbered.inside c i in
      and_i (leb 1 c) (ltb c (pages_in L w)) (le→leb 1 c q.0) (lt→ltb c (pages_in L w) q.1)

  root_tour : (v : Box) (t : Tree) → Stands L w (some t) → tour L w v (levels_at w - 1) (root_at w) ≡ walked t v
  root_tour v t h =
      ap₂ (λ n j. tour L w v (n - 1) j) h.levels h.root
      ∙ tour_tree L w v t (levels t - 1) (whole (domains w)) h.formed.shape (stands_seen L w t h) (stands_paged (some t) h)

  reads_few : (v : Box) (t : Tree) → Stands L w (some t) → length (reads t v) ≤ pages_in L w - 1
  reads_few v t h =
      once_length (pages_in L w) (reads t v) (λ c i. h.formed.numbered.inside c (omega (arith, reads_most t v c)))
      (λ c. omega (arith, reads_most t v c, h.formed.numbered.once c))

  -- list's walk is the state's; the bound never stops it
  pub list_tree : (v : Box) (s : State) → Stands L w s → list_walk L w v ≡ walked_s s v
  list_tree v none h = rw h.levels
  list_tree v (some t) h =
      let N = pages_in L w in
      let l : length (reads t v) < N = omega (arith, reads_few v t h, h.formed.size) in
      ap (λ z. cond z still (bounded N (tour L w v (levels_at w - 1) (root_at w)))) (ne_eqb (levels_at w) 0 (λ e. omega (arith, h.levels, some_levels t)))
      ∙ ap (λ a. bounded N a) (root_tour v t h)
      ∙ ap (λ z. cond z (walked t v) (record { read = take (N - 1) (reads t v); bad = true; found = [] })) (lt-ltb (length (reads t v)) N l)

  pub find_tree : (q : Key) (s : State) → Stands L w s → find_walk L w q ≡ seeks_s s q
  find_tree q none h = rw h.levels
  find_tree q (some t) h =
      ap (λ z. cond z (ends [] rootless) (seek L w q (levels_at w - 1) (root_at w))) (ne_eqb (levels_at w) 0 (λ e. omega (arith, h.levels, some_levels t)))
      ∙ ap₂ (λ n j. seek L w q (n - 1) j) h.levels h.root
      ∙ seek_tree L w q t (levels t - 1) (whole (domains w)) h.formed.shape (stands_seen L w t h) (stands_paged (some t) h)

  -- list meets no bad page, and finds the records in the window
  pub list_good : (v : Box) (s : State) → Stands L w s → (list_walk L w v).bad ≡ false
  list_good v none h = ap (λ t. t.bad) (list_tree v none h)
  list_good v (some t) h = ap (λ t. t.bad) (list_tree v (some t) h)

  pub list_finds : (v : Box) (s : State) → Stands L w s → map (λ x. x.rec) (list_walk L w v).found ≡ only (λ r. in_window v r.key) (records_of s)
  list_finds v none h = ap (λ t. map (λ x. x.rec) t.found) (list_tree v none h)
  list_finds v (some t) h =
      let k = domains w in
      ap (λ t. map (λ x. x.rec) t.found) (list_tree v (some t) h)
      ∙ finds_all k (regions_per L k) (points_per L k) t (levels t - 1) (whole k) v h.formed.shape

  -- each page is read once
  pub list_once : (v : Box) (s : State) → Stands L w s → (c : ℕ) → many c (list_walk L w v).read ≤ 1
  list_once v none h c = omega (arith, ap (λ t. many c t.read) (list_tree v none h))
  list_once v (some t) h c = omega (arith, ap (λ t. many c t.read) (list_tree v (some t) h), reads_most t v c, h.formed.numbered.once c)

  -- a window of one point reads a page of each level
  pub list_point : (v : Box) (q : Key) (s : State) → Stands L w s → OnePoint v q → T (within (whole (domains w)) q) → length (list_walk L w v).read ≡ levels_at w
  list_point v q none h o i = ap (λ t. length t.read) (list_tree v none h) ∙ sym h.levels
  list_point v q (some t) h o i =
      let k = domains w in
      omega (
        arith,
        ap (λ t. length t.read) (list_tree v (some t) h),
        h.levels,
        some_levels t,
        one_reads k (regions_per L k) (points_per L k) v q o t (levels t - 1) (whole k) h.formed.shape i,
      )

  -- find of a point of the space reads a page of each level, and ends at the record with its keys, exactly if there is one
  pub find_reads : (q : Key) (s : State) → Stands L w s → T (within (whole (domains w)) q) → length (find_walk L w q).read ≡ levels_at w
  find_reads q none h i = ap (λ g. length g.read) (find_tree q none h) ∙ sym h.levels
  find_reads q (some t) h i =
      let k = domains w in
      omega (
        arith,
        ap (λ g. length g.read) (find_tree q (some t) h),
        h.levels,
        some_levels t,
        (seeks_end k (regions_per L k) (points_per L k) q t (levels t - 1) (whole k) h.formed.shape i).long,
      )

  -- find's walk is that of the window of its point
  pub find_path : (v : Box) (q : Key) (s : State) → Stands L w s → OnePoint v q → T (within (whole (domains w)) q) → (find_walk L w q).read ≡ (list_walk L w v).read
  find_path v q none h o i = ap (λ g. g.read) (find_tree q none h) ∙ sym (ap (λ t. t.read) (list_tree v none h))
  find_path v q (some t) h o i =
      let k = domains w in
      ap (λ g. g.read) (find_tree q (some t) h) ∙ (one_path k (regions_per L k) (points_per L k) v q o t (levels t - 1) (whole k) h.formed.shape i
      ∙ sym (ap (λ t. t.read) (list_tree v (some t) h)))

  pub find_rootless : (q : Key) → Stands L w none → (find_walk L w q).end ≡ rootless
  find_rootless q h = ap (λ g. g.end) (find_tree q none h)

  pub find_answers : (q : Key) (t : Tree) → Stands L w (some t) → T (within (whole (domains w)) q) → Answers (records t) q (find_walk L w q).end
  find_answers q t h i =
      let k = domains w in
      subst (λ g. Answers (records t) q g.end) (sym (find_tree q (some t) h))
      (seeks_end k (regions_per L k) (points_per L k) q t (levels t - 1) (whole k) h.formed.shape i).answers

  -- a page is read exactly if its own region meets the window: as often as that is so
  own_many : (v : Box) (s : State) → Stands L w s → T (meets (whole (domains w)) v) → (j : ℕ) → many j (list_walk L w v).read ≡ bit (met v (own_region L w j))
  own_many v none h m j = ap (λ t. many j t.read) (list_tree v none h) ∙ ap (λ r. bit (met v r)) (sym (own_region_lem L w none h j))
  own_many v (some t) h m j =
      let k = domains w in
      ap (λ t. many j t.read) (list_tree v (some t) h)
      ∙ own_reads k (regions_per L k) (points_per L k) v j t (levels t - 1) (whole k) h.formed.shape m (h.formed.numbered.once j)
      ∙ ap (λ r. bit (met v r)) (sym (own_region_lem L w (some t) h j))

  -- demand 3: page j is on the list exactly if its own region shares a point with the window
  pub list_reads : (v : Box) (s : State) → Stands L w s → T (meets (whole (domains w)) v) → (j : ℕ) → (1 ≤ many j (list_walk L w v).read) ↔ Shares v (own_region L w j)
  list_reads v s h m j = (
    λ i. to (own_region L w j) (of_bit (met v (own_region L w j)) (omega (arith, own_many v s h m j))),
    λ q. omega (arith, own_many v s h m j, to_bit (met v (own_region L w j)) (from (own_region L w j) q)),
  )
    where
      to : (z : Option Box) → T (met v z) → Shares v z
      to none t = absurd t
      to (some r) t = (r, refl, at_meet r v t)

      from : (z : Option Box) → Shares v z → T (met v z)
      from z q = subst (λ z. T (met v z)) (sym q.1) (meets_of q.0 v q.2.0 q.2.1 q.2.2)

  -- and the pages read are as many as the pages whose own regions meet the window
  pub list_count : (v : Box) (s : State) → Stands L w s → T (meets (whole (domains w)) v) → length (list_walk L w v).read ≡ tally (λ j. met v (own_region L w j)) (numbers L w)
  list_count v s h m =
      once_tally (pages_in L w) (list_walk L w v).read (λ j. met v (own_region L w j))
      (λ c i. page_e L w c (every_many (is_page L w) (list_walk L w v).read (list_pages L w v) c i)) (own_many v s h m)
