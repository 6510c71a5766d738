-- Soundness. `formed_iff`: the test of a well-formed state says what it should. `sound_iff`: the test of a sound pool passes exactly if
-- every sentence of document 01 holds, and `printed_iff`: exactly if the words are the printed form of a well-formed state.
use mathlib.Core.Bool.{Bool, false, ◌&&◌, cond}
use mathlib.Core.List.{List, [], ◌∷◌, ◌++◌, map}
use mathlib.Core.Logic.{◌↔◌}
use mathlib.Core.Option.{none, some}
use mathlib.Core.Path.{◌≡◌, refl, sym, ap, ap₂, ◌∙◌, subst}
use Prim.Native.Nat.{ℕ, zero, suc, ◌+◌, ◌-◌, ◌%◌, ◌<◌, ◌≤◌}
use native.Mathlib.Omega.{arith}
use native.Mathlib.Nat.{mul-mod_right, div-add-mod}
use lib.Dec.{T, T_not, leb, ltb, eqb, leb→le, ltb→lt, le→leb, lt→ltb, eqb→eq}
use lib.ListN.{length, get_or, drop, length-drop, length-map}
use borrow.Author.Tests.{eq-eqb, ne_eqb}
use Rattle.kdb.specs.Lists.{bit, every, Each, gather, sum, many, same}
use Rattle.kdb.specs.Box.{∞, Box, whole, within, solid}
use Rattle.kdb.specs.Tiling.{Together, Apart}
use Rattle.kdb.specs.Tree.{Rec, Tree, leaf, node, Forest, fnil, fcons, State, root, boxes, levels, levels_f, pages, pages_f, records, pages_of, root_of, levels_of, records_of}
use Rattle.kdb.specs.Header.{print_header, read_header}
use Rattle.kdb.specs.Shape.{differ, PointPage, RegionPage, Shaped, ShapedF, point_page, region_page, shaped, shaped_f, Numbered, numbered, ShapedS, shaped_s, WellFormed, well_formed}
use Rattle.kdb.specs.Pages.{Ent, Page, blank, points, regions, regions_per, points_per, domain, recs_in, ents_in, boxes_in, is_points, is_regions, in_use, print_page, read_recs, read_ents, read_page, page}
use Rattle.kdb.specs.Pool.{domains, root_at, levels_at, count_at, pages_in, good_length, good_header, GoodLength, GoodHeader, view, numbers, reached_from, reached, Paths, Sound}
use Rattle.kdb.specs.Print.{ents, page_of, page_at, header_of, forest, printed, tree_at, state_of, sound}
use Rattle.kdb.proofs.Tests.{bool, and_l, and_r, and_i, is_true, is_false, of_true, of_bit, self, to_bit, cond_case}
use Rattle.kdb.proofs.Lists.{same_eq, same_refl, every_each, each_every, each_two}
use Rattle.kdb.proofs.Counts.{sum_same, sum_none}
use Rattle.kdb.proofs.Tiling.{tiles_iff}
use Rattle.kdb.proofs.Pages.{page_full, pool_ext, length_recs, recs_keys, points_fit}
use Rattle.kdb.proofs.Views.{Seen, SeenF, own_seen, page_out, page_in, in_use_lem, among, page_case, boxes_ents, ents_boxes, Under, whole_under, finite_whole, whole_finite, sum_records, recs_at}
use Rattle.kdb.proofs.Stands.{Stands}
use Rattle.kdb.proofs.Header.{head_page, print_read, print_zeros}
use Rattle.kdb.proofs.Print.{numbered_ranged, some_levels, levels_few, print_length, print_header_lem, print_page_lem, print_says, stands, stands_seen, stands_tree, stands_state}

-- the test of a well-formed state
and_4 : (a b c d : Bool) → T (a && b && c && d) → T a × T b × T c × T d
and_4 a b c d t = let u = and_l (a && b && c) d t in let v = and_l (a && b) c u in (and_l a b v, and_r a b v, and_r (a && b) c u, and_r (a && b && c) d t)

and_4i : (a b c d : Bool) → T a → T b → T c → T d → T (a && b && c && d)
and_4i a b c d h i j k = and_i (a && b && c) d (and_i (a && b) c (and_i a b h i) j) k

numbered_says : (N : ℕ) (ps : List ℕ) → T (numbered N ps) → Numbered N ps
numbered_says N [] h = record { inside = λ c i. absurd (omega arith); once = λ c. omega arith }
numbered_says N (p ∷ ps) h =
    let q = and_4 (leb 1 p) (ltb p N) (eqb (many p ps) 0) _ h in
    let r = numbered_says N ps q.3 in
    let z = eqb→eq (many p ps) 0 q.2 in
    record {
      inside = λ c i. bool (eqb c p)
          (λ t. let e = eqb→eq c p t in let a = leb→le 1 p q.0 in let b = ltb→lt p N q.1 in (omega arith, omega arith))
          (λ t. let e : 1 ≤ bit false + many c ps = rw (is_false (eqb c p) t) at i in r.inside c (omega arith));
      once = λ c. bool (eqb c p)
          (λ t. let e : many c ps ≡ 0 = rw (eqb→eq c p t) z in let b = to_bit (eqb c p) t in omega arith)
          (λ t. rw (is_false (eqb c p) t) (omega (arith, r.once c)));
    }

says_numbered : (N : ℕ) (ps : List ℕ) → Numbered N ps → T (numbered N ps)
says_numbered N [] h = tt
says_numbered N (p ∷ ps) h =
    let i = h.inside p (omega (arith, self p)) in
    let z : many p ps ≡ 0 = omega (arith, h.once p, self p) in
    and_4i (leb 1 p) (ltb p N) (eqb (many p ps) 0) _ (le→leb 1 p i.0) (lt→ltb p N i.1) (of_true (eqb (many p ps) 0) (eq-eqb (many p ps) 0 z))
    (says_numbered N ps (record { inside = λ c j. h.inside c (omega arith); once = λ c. omega (arith, h.once c) }))

module _ (k R P : ℕ) where
  pub point_says : (d : ℕ) (rs : List Rec) (r : Box) → T (point_page k R P d rs r) → PointPage k P d rs r
  point_says d rs r h =
      let q = and_4 (leb (length rs) P) (ltb d k) (every (λ q. within r q.key) rs) (differ rs) h in
      record { room = leb→le (length rs) P q.0; domain = ltb→lt d k q.1; inside = q.2; distinct = q.3 }

  pub says_point : (d : ℕ) (rs : List Rec) (r : Box) → PointPage k P d rs r → T (point_page k R P d rs r)
  says_point d rs r h =
      and_4i (leb (length rs) P) (ltb d k) (every (λ q. within r q.key) rs) (differ rs) (le→leb (length rs) P h.room) (lt→ltb d k h.domain) h.inside h.distinct

  pub region_says : (d : ℕ) (bs : List Box) (r : Box) → T (region_page k R P d bs r) → RegionPage k R d bs r
  region_says d bs r h =
      let q = and_4 (leb 1 (length bs)) (leb (length bs) R) (ltb d k) _ h in
      record { filled = leb→le 1 (length bs) q.0; room = leb→le (length bs) R q.1; domain = ltb→lt d k q.2; tiled = (tiles_iff r bs).0 q.3 }

  pub says_region : (d : ℕ) (bs : List Box) (r : Box) → RegionPage k R d bs r → T (region_page k R P d bs r)
  says_region d bs r h =
      and_4i (leb 1 (length bs)) (leb (length bs) R) (ltb d k) _ (le→leb 1 (length bs) h.filled) (le→leb (length bs) R h.room) (lt→ltb d k h.domain) ((tiles_iff r bs).1 h.tiled)

  mutual
    shaped_says : (t : Tree) (n : ℕ) (r : Box) → T (shaped k R P t n r) → Shaped k R P t n r
    shaped_says (leaf p d rs) n r h = (eqb→eq n 0 (and_l (eqb n 0) _ h), point_says d rs r (and_r (eqb n 0) _ h))
    shaped_says (node p d f) zero r h = h
    shaped_says (node p d f) (suc n) r h = (region_says d (boxes f) r (and_l (region_page k R P d (boxes f) r) _ h), shaped_f_says f n (and_r (region_page k R P d (boxes f) r) _ h))

    shaped_f_says : (f : Forest) (n : ℕ) → T (shaped_f k R P f n) → ShapedF k R P f n
    shaped_f_says fnil n h = tt
    shaped_f_says (fcons b t f) n h = (shaped_says t n b (and_l (shaped k R P t n b) _ h), shaped_f_says f n (and_r (shaped k R P t n b) _ h))

  mutual
    says_shaped : (t : Tree) (n : ℕ) (r : Box) → Shaped k R P t n r → T (shaped k R P t n r)
    says_shaped (leaf p d rs) n r h = and_i (eqb n 0) _ (of_true (eqb n 0) (eq-eqb n 0 h.0)) (says_point d rs r h.1)
    says_shaped (node p d f) zero r h = h
    says_shaped (node p d f) (suc n) r h = and_i (region_page k R P d (boxes f) r) _ (says_region d (boxes f) r h.0) (says_shaped_f f n h.1)

    says_shaped_f : (f : Forest) (n : ℕ) → ShapedF k R P f n → T (shaped_f k R P f n)
    says_shaped_f fnil n h = tt
    says_shaped_f (fcons b t f) n h = and_i (shaped k R P t n b) _ (says_shaped t n b h.0) (says_shaped_f f n h.1)

pub formed_iff : (L k N : ℕ) (s : State) → T (well_formed L k N s) ↔ WellFormed L k N s
formed_iff L k N s = (says, is)
  where
    shape_says : (s : State) → T (shaped_s L k s) → ShapedS L k s
    shape_says none h = tt
    shape_says (some t) h = shaped_says k (regions_per L k) (points_per L k) t (levels t - 1) (whole k) h

    says_shape : (s : State) → ShapedS L k s → T (shaped_s L k s)
    says_shape none h = tt
    says_shape (some t) h = says_shaped k (regions_per L k) (points_per L k) t (levels t - 1) (whole k) h

    says : T (well_formed L k N s) → WellFormed L k N s
    says h =
        let a = and_l (leb 1 k && leb k 4 && leb 2 N && leb N 512 && numbered N (pages_of s)) _ h in
        let q = and_4 (leb 1 k) (leb k 4) (leb 2 N) (leb N 512) (and_l (leb 1 k && leb k 4 && leb 2 N && leb N 512) _ a) in
        record {
          domains = (leb→le 1 k q.0, leb→le k 4 q.1);
          size = (leb→le 2 N q.2, leb→le N 512 q.3);
          numbered = numbered_says N (pages_of s) (and_r (leb 1 k && leb k 4 && leb 2 N && leb N 512) _ a);
          shape = shape_says s (and_r (leb 1 k && leb k 4 && leb 2 N && leb N 512 && numbered N (pages_of s)) _ h);
        }

    is : WellFormed L k N s → T (well_formed L k N s)
    is h =
        and_i (leb 1 k && leb k 4 && leb 2 N && leb N 512 && numbered N (pages_of s)) _
        (and_i (leb 1 k && leb k 4 && leb 2 N && leb N 512) _
        (and_4i (leb 1 k) (leb k 4) (leb 2 N) (leb N 512) (le→leb 1 k h.domains.0) (le→leb k 4 h.domains.1) (le→leb 2 N h.size.0) (le→leb N 512 h.size.1))
        (says_numbered N (pages_of s) h.numbered))
        (says_shape s h.shape)

-- good lengths and good headers, sentence by sentence
module _ (L : ℕ) (w : List ℕ) where
  pub length_iff : T (good_length L w) ↔ GoodLength L w
  unfolding good_length
  length_iff = (
    λ h. let a = and_l (eqb (length w % L) 0 && leb 2 (pages_in L w)) _ h in
        let e = eqb→eq (length w % L) 0 (and_l (eqb (length w % L) 0) _ a) in
        record {
          long = omega (arith, div-add-mod (length w) L);
          least = leb→le 2 (pages_in L w) (and_r (eqb (length w % L) 0) _ a);
          most = leb→le (pages_in L w) 512 (and_r (eqb (length w % L) 0 && leb 2 (pages_in L w)) _ h);
        },
    λ h. let e : length w % L ≡ 0 = ap (λ n. n % L) h.long ∙ mul-mod_right L (pages_in L w) in
        and_i (eqb (length w % L) 0 && leb 2 (pages_in L w)) _
        (and_i (eqb (length w % L) 0) _ (of_true (eqb (length w % L) 0) (eq-eqb (length w % L) 0 e)) (le→leb 2 (pages_in L w) h.least))
        (le→leb (pages_in L w) 512 h.most),
  )

  pub header_iff : T (good_header L w) ↔ GoodHeader L w
  unfolding good_header
  header_iff =
      let k = domains w in let N = pages_in L w in
      let a1 = leb 1 k in let a2 = leb k 4 in let a3 = eqb (read_header w).pages N in let a4 = ltb (root_at w) N in let a5 = leb (levels_at w) (N - 1) in
      let a6 = eqb (bit (eqb (root_at w) 0)) (bit (eqb (levels_at w) 0)) in (
        λ h. let u = and_l (a1 && a2 && a3 && a4 && a5 && a6) _ h in
            let v = and_l (a1 && a2 && a3 && a4 && a5) a6 u in
            let q = and_4 a1 a2 a3 a4 (and_l (a1 && a2 && a3 && a4) a5 v) in
            record {
              least = leb→le 1 k q.0;
              most = leb→le k 4 q.1;
              size = eqb→eq (read_header w).pages N q.2;
              root = ltb→lt (root_at w) N q.3;
              levels = leb→le (levels_at w) (N - 1) (and_r (a1 && a2 && a3 && a4) a5 v);
              both = eqb→eq (bit (eqb (root_at w) 0)) (bit (eqb (levels_at w) 0)) (and_r (a1 && a2 && a3 && a4 && a5) a6 u);
              zeros = and_r (a1 && a2 && a3 && a4 && a5 && a6) _ h;
            },
        λ h. and_i (a1 && a2 && a3 && a4 && a5 && a6) _
            (and_i (a1 && a2 && a3 && a4 && a5) a6
            (and_i (a1 && a2 && a3 && a4) a5
            (and_4i a1 a2 a3 a4 (le→leb 1 k h.least) (le→leb k 4 h.most) (of_true a3 (eq-eqb (read_header w).pages N h.size)) (lt→ltb (root_at w) N h.root))
            (le→leb (levels_at w) (N - 1) h.levels))
            (of_true a6 (eq-eqb (bit (eqb (root_at w) 0)) (bit (eqb (levels_at w) 0)) h.both)))
            h.zeros,
      )

-- a state that stands in a pool makes its length and its header good
module _ (L : ℕ) (big : 5 ≤ L) (w : List ℕ) (s : State) (h : Stands L w s) where
  stands_long : GoodLength L w
  stands_long =
      record {
        long = ap length h.prints ∙ print_length L (domains w) (pages_in L w) s big h.formed;
        least = h.formed.size.0;
        most = h.formed.size.1;
      }

  stands_size : (read_header w).pages ≡ pages_in L w
  stands_size = ap (λ v. (read_header v).pages) h.prints ∙ ap (λ h. h.pages) (print_says L (domains w) (pages_in L w) s big h.formed)

  stands_zeros : T (every (eqb 0) (drop 5 (page L w 0)))
  stands_zeros =
      let e = ap (λ v. page L v 0) h.prints ∙ print_header_lem L (domains w) (pages_in L w) s big h.formed in
      subst (λ l. T (every (eqb 0) (drop 5 l))) (sym e) (print_zeros L big (header_of (domains w) (pages_in L w) s))

-- root and levels of a well-formed state
root_page : (L k N : ℕ) (t : Tree) → WellFormed L k N (some t) → (1 ≤ root t) × (root t < N)
root_page L k N t wf = wf.numbered.inside (root t) (first t)
  where
    first : (t : Tree) → 1 ≤ many (root t) (pages t)
    first (leaf p d rs) = omega (arith, self p)
    first (node p d f) = omega (arith, self p)

stands_header : (L : ℕ) → 5 ≤ L → (w : List ℕ) (s : State) → Stands L w s → GoodHeader L w
stands_header L big w none h =
    record {
      least = h.formed.domains.0;
      most = h.formed.domains.1;
      size = stands_size L big w none h;
      root = omega (arith, h.root, h.formed.size.0);
      levels = omega (arith, h.levels);
      both = rw (h.root, h.levels);
      zeros = stands_zeros L big w none h;
    }
stands_header L big w (some t) h =
    let r = root_page L (domains w) (pages_in L w) t h.formed in
    let l = some_levels t in
    record {
      least = h.formed.domains.0;
      most = h.formed.domains.1;
      size = stands_size L big w (some t) h;
      root = omega (arith, h.root);
      levels = omega (arith, h.levels, levels_few (pages_in L w) t h.formed.numbered);
      both = rw (ne_eqb (root_at w) 0 (λ z. omega (arith, h.root)), ne_eqb (levels_at w) 0 (λ z. omega (arith, h.levels)));
      zeros = stands_zeros L big w (some t) h;
    }

-- the test of a sound pool passes exactly if the state that the words say stands in them
pub print_sound : (L k N : ℕ) (s : State) → 5 ≤ L → WellFormed L k N s → T (sound L (printed L k N s))
unfolding sound
print_sound L k N s big wf =
    let w = printed L k N s in
    let h = stands L k N s big wf in
    let e = stands_state L w s h in
    and_4i (good_length L w) (good_header L w) _ _ ((length_iff L w).1 (stands_long L big w s h)) ((header_iff L w).1 (stands_header L big w s h))
    (rw e ((formed_iff L (domains w) (pages_in L w) s).1 h.formed))
    (subst (λ v. T (same w v)) (h.prints ∙ ap (printed L (domains w) (pages_in L w)) (sym e)) (same_refl w))

-- words that are the printed form of the state that they say
stands_printed : (L : ℕ) → 5 ≤ L → (w : List ℕ) (s : State) → WellFormed L (domains w) (pages_in L w) s → w ≡ printed L (domains w) (pages_in L w) s → Stands L w s
stands_printed L big w s wf e = subst (λ v. Stands L v s) (sym e) (stands L (domains w) (pages_in L w) s big wf)

pub sound_stands : (L : ℕ) → 5 ≤ L → (w : List ℕ) → T (sound L w) → Stands L w (state_of L w)
unfolding sound
sound_stands L big w h =
    let q = and_4 (good_length L w) (good_header L w) (well_formed L (domains w) (pages_in L w) (state_of L w)) _ h in
    stands_printed L big w (state_of L w) ((formed_iff L (domains w) (pages_in L w) (state_of L w)).0 q.2) (same_eq w (printed L (domains w) (pages_in L w) (state_of L w)) q.3)

-- the pages reached are the tree's
module _ (L : ℕ) (w : List ℕ) where
  reached_forest : (n : ℕ) → ((j : ℕ) → reached_from L w n j ≡ pages (tree_at L w n j)) → (es : List Ent) → gather (λ e. reached_from L w n e.child) es ≡ pages_f (forest (tree_at L w n) es)
  reached_forest n h [] = refl
  reached_forest n h (e ∷ es) = ap₂ ◌++◌ (h e.child) (reached_forest n h es)

  pub reached_tree : (n j : ℕ) → reached_from L w n j ≡ pages (tree_at L w n j)
  reached_tree zero j = refl
  reached_tree (suc n) j = ap (λ l. j ∷ l) (reached_forest n (reached_tree n) (ents_in (view L w j)))

  pub reached_pages : (s : State) → Stands L w s → reached L w ≡ pages_of s
  reached_pages none h = rw h.levels
  reached_pages (some t) h =
      let e : eqb (levels_at w) 0 ≡ false = ne_eqb (levels_at w) 0 (λ z. let p = some_levels t in omega (arith, h.levels)) in
      rw e (reached_tree (levels_at w - 1) (root_at w) ∙ ap pages (stands_tree L w t h))

-- the pages of a shaped tree, by its own region
module _ (k R P : ℕ) (v : ℕ → Page) where
  own_together : (t : Tree) (n : ℕ) (r : Box) → Shaped k R P t n r → Seen v t → T (is_regions (v (root t))) → Together r (boxes_in (v (root t)))
  own_together (leaf p d rs) n r s e i = absurd (subst (λ a. T (is_regions a)) e i)
  own_together (node p d f) zero r s e i = absurd s
  own_together (node p d f) (suc n) r s e i = subst (Together r) (sym (ap boxes_in e.0 ∙ boxes_ents f)) s.0.tiled.together

  own_inside : (t : Tree) (n : ℕ) (r : Box) → Shaped k R P t n r → Seen v t → T (every (λ q. within r q.key) (recs_in (v (root t))))
  own_inside (leaf p d rs) n r s e = rw e s.1.inside
  own_inside (node p d f) n r s e = rw e.0 tt

  below_together : (f : Forest) (n : ℕ) → ShapedF k R P f n → SeenF v f → Each (λ e. T (is_regions (v e.child)) → Together e.box (boxes_in (v e.child))) (ents f)
  below_together fnil n s e = tt
  below_together (fcons b t f) n s e = (own_together t n b s.0 e.0, below_together f n s.1 e.1)

  below_inside : (f : Forest) (n : ℕ) → ShapedF k R P f n → SeenF v f → Each (λ e. T (every (λ q. within e.box q.key) (recs_in (v e.child)))) (ents f)
  below_inside fnil n s e = tt
  below_inside (fcons b t f) n s e = (own_inside t n b s.0 e.0, below_inside f n s.1 e.1)

module _ (k R P L : ℕ) (w : List ℕ) where
  mutual
    seen_paths : (t : Tree) (n : ℕ) (r : Box) → Shaped k R P t n r → Seen (view L w) t → Paths L w n (root t)
    seen_paths (leaf p d rs) zero r s e = rw e tt
    seen_paths (leaf p d rs) (suc n) r s e = absurd (omega (arith, s.0))
    seen_paths (node p d f) zero r s e = absurd s
    seen_paths (node p d f) (suc n) r s e = rw e.0 (tt, seen_paths_f f n s.1 e.1)

    seen_paths_f : (f : Forest) (n : ℕ) → ShapedF k R P f n → SeenF (view L w) f → Each (λ e. Paths L w n e.child) (ents f)
    seen_paths_f fnil n s e = tt
    seen_paths_f (fcons b t f) n s e = (seen_paths t n b s.0 e.0, seen_paths_f f n s.1 e.1)

-- by cases on page j of a pool in which a state stands
module _ (L : ℕ) (w : List ℕ) where
  abbrev k : ℕ
  k = domains w

  abbrev R : ℕ
  R = regions_per L (domains w)

  abbrev P : ℕ
  P = points_per L (domains w)

  view_case : (Q : Page → Type 0) → Q blank → ((d : ℕ) (rs : List Rec) (r : Box) → Under k r → PointPage k P d rs r → Q (points d rs))
      → ((d : ℕ) (f : Forest) (n : ℕ) (r : Box) → Under k r → RegionPage k R d (boxes f) r → ShapedF k R P f n → SeenF (view L w) f → Q (regions d (ents f)))
      → (s : State) → Stands L w s → (j : ℕ) → Q (view L w j)
  view_case Q free onPoints onRegions none h j = subst Q (sym (h.views j)) free
  view_case Q free onPoints onRegions (some t) h j =
      subst Q (sym (h.views j))
      (page_case k R P (view L w) Q free onPoints onRegions t (levels t - 1) (whole k) (whole_under k) h.formed.shape (stands_seen L w t h) j)

  stands_used : (s : State) → Stands L w s → (j : ℕ) → T (in_use (view L w j)) ↔ (1 ≤ many j (reached L w))
  stands_used none h j =
      (λ u. absurd (subst (λ a. T (in_use a)) (h.views j) u), λ i. absurd (let z : 1 ≤ 0 = rw (reached_pages L w none h) at i in omega arith))
  stands_used (some t) h j =
      let e = reached_pages L w (some t) h in
      (λ u. rw e (in_use_lem t j (subst (λ a. T (in_use a)) (h.views j) u)), λ i. subst (λ a. T (in_use a)) (sym (h.views j)) (page_in t j (rw e at i)))

  stands_paths : (s : State) → Stands L w s → (levels_at w ≡ 0 → ⊥) → Paths L w (levels_at w - 1) (root_at w)
  stands_paths none h z = absurd (z h.levels)
  stands_paths (some t) h z = rw (h.levels, h.root) (seen_paths k R P L w t (levels t - 1) (whole k) h.formed.shape (stands_seen L w t h))

  stands_space : (s : State) → Stands L w s → T (is_regions (view L w (root_at w))) → Together (whole k) (boxes_in (view L w (root_at w)))
  stands_space none h i = absurd (subst (λ a. T (is_regions a)) (h.views (root_at w)) i)
  stands_space (some t) h i =
      let g = own_together k R P (view L w) t (levels t - 1) (whole k) h.formed.shape (stands_seen L w t h) in
      rw h.root (g (rw h.root at i))

  stands_counted : (s : State) → Stands L w s → count_at w ≡ sum (map (λ j. length (recs_in (view L w j))) (numbers L w))
  stands_counted s h =
      h.count ∙ sym (sum_same (recs_at (view L w)) (recs_at (page_at s)) (λ j. ap (λ a. length (recs_in a)) (h.views j)) (numbers L w) ∙ total s h.formed)
    where
      total : (s : State) → WellFormed L (domains w) (pages_in L w) s → sum (map (recs_at (page_at s)) (numbers L w)) ≡ length (records_of s)
      total none f = sum_none (numbers L w)
      total (some t) f = sum_records t (pages_in L w - 1) 1 (numbered_ranged (pages_in L w) (pages t) f.numbered) f.numbered.once

  stands_rootless : (s : State) → Stands L w s → root_at w ≡ 0 → (count_at w ≡ 0) × ((j : ℕ) → view L w j ≡ blank)
  stands_rootless none h z = (h.count, h.views)
  stands_rootless (some t) h z = absurd (let r = root_page L k (pages_in L w) t h.formed in omega (arith, h.root))

  pub stands_sound : 5 ≤ L → (s : State) → Stands L w s → Sound L w
  stands_sound big s h =
      record {
        words = (length_iff L w).1 (stands_long L big w s h);
        header = (header_iff L w).1 (stands_header L big w s h);
        laid = λ j a b. ap (λ v. page L v j) h.prints ∙ (print_page_lem L k (pages_in L w) s big h.formed j a b ∙ ap (print_page L) (sym (h.views j)));
        region_room = view_case (λ v. length (ents_in v) ≤ R) (omega arith) (λ d rs r u p. omega arith) (λ d f n r u p q e. rw (ents_boxes f) p.room) s h;
        point_room = view_case (λ v. length (recs_in v) ≤ P) (omega arith) (λ d rs r u p. p.room) (λ d f n r u p q e. omega arith) s h;
        splitting = view_case (λ v. domain v < k) h.formed.domains.0 (λ d rs r u p. p.domain) (λ d f n r u p q e. p.domain) s h;
        used = stands_used s h;
        once = λ j. rw (reached_pages L w s h) (h.formed.numbered.once j);
        filled = view_case (λ v. T (is_regions v) → 1 ≤ length (ents_in v)) (λ i. absurd i) (λ d rs r u p i. absurd i) (λ d f n r u p q e i. rw (ents_boxes f) p.filled) s h;
        paths = stands_paths s h;
        apart = view_case (λ v. Apart (boxes_in v)) tt (λ d rs r u p. tt) (λ d f n r u p q e. rw (boxes_ents f) p.tiled.apart) s h;
        solids = view_case (λ v. T (every solid (boxes_in v))) tt (λ d rs r u p. tt) (λ d f n r u p q e. rw (boxes_ents f) p.tiled.solids) s h;
        space = stands_space s h;
        nested = view_case (λ v. Each (λ e. T (is_regions (view L w e.child)) → Together e.box (boxes_in (view L w e.child))) (ents_in v)) tt (λ d rs r u p. tt)
            (λ d f n r u p q e. below_together k R P (view L w) f n q e) s h;
        inside = view_case (λ v. Each (λ e. T (every (λ q. within e.box q.key) (recs_in (view L w e.child)))) (ents_in v)) tt (λ d rs r u p. tt)
            (λ d f n r u p q e. below_inside k R P (view L w) f n q e) s h;
        distinct = view_case (λ v. T (differ (recs_in v))) tt (λ d rs r u p. p.distinct) (λ d f n r u p q e. tt) s h;
        finite = view_case (λ v. T (every (λ r. every (λ x. ltb x ∞) r.key) (recs_in v))) tt
            (λ d rs r u p. every_each (λ q. T (within r q.key)) (λ q. every (λ x. ltb x ∞) q.key) rs (λ q i. whole_finite k q.key (u.keys q.key i))
            (each_every (λ q. T (within r q.key)) (λ q. within r q.key) rs (λ q i. i) p.inside))
            (λ d f n r u p q e. tt) s h;
        counted = stands_counted s h;
        rootless = stands_rootless s h;
      }

-- the other way: the tree that sound words say
is_points_lem : (v : Page) → T (is_points v) → v ≡ points (domain v) (recs_in v)
is_points_lem blank h = absurd h
is_points_lem (points d rs) h = refl
is_points_lem (regions d es) h = absurd h

is_regions_lem : (v : Page) → T (is_regions v) → v ≡ regions (domain v) (ents_in v)
is_regions_lem blank h = absurd h
is_regions_lem (points d rs) h = absurd h
is_regions_lem (regions d es) h = refl

not_used : (v : Page) → (T (in_use v) → ⊥) → v ≡ blank
not_used blank h = refl
not_used (points d rs) h = absurd (h tt)
not_used (regions d es) h = absurd (h tt)

-- the keys read from a page of L words with room for them
read_keys : (L i : ℕ) (ws : List ℕ) → length ws ≡ L → length (recs_in (read_page i ws)) ≤ points_per L i → Each (λ r. length r.key ≡ i) (recs_in (read_page i ws))
read_keys L i ws long =
    let rs = read_recs i (get_or ws 1 0) (drop 4 ws) in
    let es = read_ents i (get_or ws 1 0) (drop 4 ws) in
    cond_case (λ v. length (recs_in v) ≤ points_per L i → Each (λ r. length r.key ≡ i) (recs_in v)) (eqb (get_or ws 0 0) 1)
    (regions (get_or ws 2 0) es) (cond (eqb (get_or ws 0 0) 2) (points (get_or ws 2 0) rs) blank)
    (λ h. tt)
    (cond_case (λ v. length (recs_in v) ≤ points_per L i → Each (λ r. length r.key ≡ i) (recs_in v)) (eqb (get_or ws 0 0) 2) (points (get_or ws 2 0) rs) blank
    (λ h. let e = length_recs i (get_or ws 1 0) (drop 4 ws) in
    recs_keys i (get_or ws 1 0) (drop 4 ws) (let f = points_fit L i (get_or ws 1 0) (subst (λ n. n ≤ points_per L i) e h) in let g = length-drop 4 ws in omega arith))
    (λ h. tt))

module _ (L : ℕ) (w : List ℕ) where
  root_at_lem : (n j : ℕ) → root (tree_at L w n j) ≡ j
  root_at_lem zero j = refl
  root_at_lem (suc n) j = refl

  ents_at_page : (n : ℕ) (es : List Ent) → ents (forest (tree_at L w n) es) ≡ es
  ents_at_page n [] = refl
  ents_at_page n (e ∷ es) = ap₂ ◌∷◌ (ap (λ (c : ℕ). record { box = e.box; child = c }) (root_at_lem n e.child)) (ents_at_page n es)

  pub boxes_at_page : (n : ℕ) (es : List Ent) → boxes (forest (tree_at L w n) es) ≡ map (λ e. e.box) es
  boxes_at_page n [] = refl
  boxes_at_page n (e ∷ es) = ap (λ l. e.box ∷ l) (boxes_at_page n es)

  pub used_number : (j : ℕ) → T (in_use (view L w j)) → (1 ≤ j) × (j < pages_in L w)
  used_number j =
      bool (leb 1 j && ltb j (pages_in L w))
      (λ t u. (leb→le 1 j (and_l (leb 1 j) _ t), ltb→lt j (pages_in L w) (and_r (leb 1 j) _ t)))
      (λ t u. absurd (let e : T false = subst (λ c. T (in_use (cond c (read_page (domains w) (page L w j)) blank))) (is_false (leb 1 j && ltb j (pages_in L w)) t) u in e))

  seen_forest_at : (n : ℕ) → ((j : ℕ) → Paths L w n j → Seen (view L w) (tree_at L w n j)) → (es : List Ent) → Each (λ e. Paths L w n e.child) es → SeenF (view L w) (forest (tree_at L w n) es)
  seen_forest_at n g [] h = tt
  seen_forest_at n g (e ∷ es) h = (g e.child h.0, seen_forest_at n g es h.1)

  seen_at : (n j : ℕ) → Paths L w n j → Seen (view L w) (tree_at L w n j)
  seen_at zero j h = is_points_lem (view L w j) h
  seen_at (suc n) j h =
      (is_regions_lem (view L w j) h.0 ∙ ap (regions (domain (view L w j))) (sym (ents_at_page n (ents_in (view L w j)))), seen_forest_at n (seen_at n) (ents_in (view L w j)) h.1)

  -- page j in region r, as an entry's child or the root is
  record Owned (j : ℕ) (r : Box) : Type 0 where
    together : T (is_regions (view L w j)) → Together r (boxes_in (view L w j))
    inside : T (every (λ q. within r q.key) (recs_in (view L w j)))

-- shaped, with the pool's domains and room
abbrev ShapedIn : ℕ → List ℕ → Tree → ℕ → Box → Type 0
ShapedIn L w t n r = Shaped (domains w) (regions_per L (domains w)) (points_per L (domains w)) t n r

module _ (L : ℕ) (w : List ℕ) (S : Sound L w) where
  levels_forest : (n : ℕ) → ((j : ℕ) → Paths L w n j → levels (tree_at L w n j) ≡ suc n) → (es : List Ent) → 1 ≤ length es → Each (λ e. Paths L w n e.child) es → levels_f (forest (tree_at L w n) es) ≡ suc n
  levels_forest n g [] l h = absurd (omega arith)
  levels_forest n g (e ∷ es) l h = g e.child h.0

  levels_at_lem : (n j : ℕ) → Paths L w n j → levels (tree_at L w n j) ≡ suc n
  levels_at_lem zero j h = refl
  levels_at_lem (suc n) j h = ap suc (levels_forest n (levels_at_lem n) (ents_in (view L w j)) (S.filled j h.0) h.1)

  shape_forest : (n : ℕ) → ((j : ℕ) (r : Box) → Paths L w n j → Owned L w j r → ShapedIn L w (tree_at L w n j) n r)
      → (es : List Ent) → Each (λ e. Paths L w n e.child) es → Each (λ e. T (is_regions (view L w e.child)) → Together e.box (boxes_in (view L w e.child))) es
      → Each (λ e. T (every (λ q. within e.box q.key) (recs_in (view L w e.child)))) es → ShapedF (domains w) (regions_per L (domains w)) (points_per L (domains w)) (forest (tree_at L w n) es) n
  shape_forest n g [] p a b = tt
  shape_forest n g (e ∷ es) p a b = (g e.child e.box p.0 (record { together = a.0; inside = b.0 }), shape_forest n g es p.1 a.1 b.1)

  shape_at : (n j : ℕ) (r : Box) → Paths L w n j → Owned L w j r → ShapedIn L w (tree_at L w n j) n r
  shape_at zero j r p o = (refl, record { room = S.point_room j; domain = S.splitting j; inside = o.inside; distinct = S.distinct j })
  shape_at (suc n) j r p o =
      let es = ents_in (view L w j) in
      let e = boxes_at_page L w n es in
      let l : length (boxes_in (view L w j)) ≡ length es = length-map es (λ e. e.box) in (
        rw e (record {
          filled = omega (arith, S.filled j p.0);
          room = subst (λ m. m ≤ regions_per L (domains w)) (sym l) (S.region_room j);
          domain = S.splitting j;
          tiled = record { solids = S.solids j; apart = S.apart j; together = o.together p.0 };
        }),
        shape_forest n (shape_at n) es p.1 (S.nested j) (S.inside j),
      )

  view_keys : 5 ≤ L → (j : ℕ) → Each (λ r. length r.key ≡ domains w) (recs_in (view L w j))
  view_keys big j =
      let g = (length_iff L w).0 S.words in
      let v = read_page (domains w) (page L w j) in
      let Q : Page → Type 0 = λ a. length (recs_in a) ≤ points_per L (domains w) → Each (λ r. length r.key ≡ domains w) (recs_in a) in
      let q : Q (view L w j) =
      bool (leb 1 j && ltb j (pages_in L w))
      (λ t. subst (λ c. Q (cond c v blank)) (sym (is_true (leb 1 j && ltb j (pages_in L w)) t))
      (read_keys L (domains w) (page L w j) (page_full L w (pages_in L w) j g.long (ltb→lt j (pages_in L w) (and_r (leb 1 j) _ t)))))
      (λ t. subst (λ c. Q (cond c v blank)) (sym (is_false (leb 1 j && ltb j (pages_in L w)) t)) (λ h. tt)) in
      q (S.point_room j)

  root_owned : 5 ≤ L → Owned L w (root_at w) (whole (domains w))
  root_owned big =
      let j = root_at w in
      let rs = recs_in (view L w j) in
      record {
        together = S.space;
        inside = every_each (λ q. T (within (whole (domains w)) q.key)) (λ q. within (whole (domains w)) q.key) rs (λ q h. h)
            (each_two (λ q. length q.key ≡ domains w) (λ q. T (every (λ x. ltb x ∞) q.key)) (λ q. T (within (whole (domains w)) q.key)) rs
            (λ q a b. finite_whole (domains w) q.key a b) (view_keys big j)
            (each_every (λ q. T (every (λ x. ltb x ∞) q.key)) (λ q. every (λ x. ltb x ∞) q.key) rs (λ q h. h) (S.finite j)));
      }

  -- words with a good length, a header that says the state, and the state's pages are its printed form
  printed_pages : 5 ≤ L → (s : State) → WellFormed L (domains w) (pages_in L w) s → root_at w ≡ root_of s → levels_at w ≡ levels_of s → count_at w ≡ length (records_of s)
      → ((j : ℕ) → view L w j ≡ page_at s j) → Stands L w s
  printed_pages big s wf r l c v =
      stands_printed L big w s wf (pool_ext L N w (printed L k N s) g.long (print_length L k N s big wf) each)
    where
      k : ℕ
      k = domains w

      N : ℕ
      N = pages_in L w

      g : GoodLength L w
      g = (length_iff L w).0 S.words

      hd : GoodHeader L w
      hd = (header_iff L w).0 S.header

      says : read_header w ≡ header_of k N s
      says = rw (hd.size, r, l, c)

      top : page L w 0 ≡ print_header L (header_of k N s)
      top = print_read L big (page L w 0) (page_full L w N 0 g.long (omega (arith, g.least))) hd.zeros ∙ ap (print_header L) (head_page L big w ∙ says)

      each : (j : ℕ) → j < N → page L w j ≡ page L (printed L k N s) j
      each zero h = top ∙ sym (print_header_lem L k N s big wf)
      each (suc j) h = S.laid (suc j) (omega arith) h ∙ (ap (print_page L) (v (suc j)) ∙ sym (print_page_lem L k N s big wf (suc j) (omega arith) h))

  -- the number of levels is zero exactly if the root is
  no_root : levels_at w ≡ 0 → root_at w ≡ 0
  no_root z =
      let b : bit (eqb (root_at w) 0) ≡ bit (eqb (levels_at w) 0) = ((header_iff L w).0 S.header).both in
      eqb→eq (root_at w) 0 (of_bit (eqb (root_at w) 0) (let e : bit (eqb (levels_at w) 0) ≡ 1 = rw z in omega arith))

  none_stands : 5 ≤ L → levels_at w ≡ 0 → Stands L w none
  none_stands big z =
      let g = (length_iff L w).0 S.words in
      let hd = (header_iff L w).0 S.header in
      let e = no_root z in
      let q = S.rootless e in
      printed_pages big none
      (record { domains = (hd.least, hd.most); size = (g.least, g.most); numbered = record { inside = λ c i. absurd (omega arith); once = λ c. omega arith }; shape = tt })
      e z q.0 q.1

  tree_stands : 5 ≤ L → (levels_at w ≡ 0 → ⊥) → Stands L w (some (tree_at L w (levels_at w - 1) (root_at w)))
  tree_stands big z =
      printed_pages big (some t)
      (record { domains = (hd.least, hd.most); size = (g.least, g.most); numbered = num; shape = subst (λ m. ShapedIn L w t m (whole (domains w))) (omega (arith, lv)) shape })
      (sym (root_at_lem L w n j)) (omega (arith, lv)) count views
    where
      n : ℕ
      n = levels_at w - 1

      j : ℕ
      j = root_at w

      t : Tree
      t = tree_at L w n j

      g : GoodLength L w
      g = (length_iff L w).0 S.words

      hd : GoodHeader L w
      hd = (header_iff L w).0 S.header

      lv : levels t ≡ suc n
      lv = levels_at_lem n j (S.paths z)

      rc : reached L w ≡ pages t
      rc = rw (ne_eqb (levels_at w) 0 z) (reached_tree L w n j)

      num : Numbered (pages_in L w) (pages t)
      num = record { inside = λ c i. used_number L w c ((S.used c).1 (rw rc i)); once = λ c. rw (sym rc) (S.once c) }

      shape : ShapedIn L w t n (whole (domains w))
      shape = shape_at n j (whole (domains w)) (S.paths z) (root_owned big)

      views : (c : ℕ) → view L w c ≡ page_at (some t) c
      views c =
          among c (pages t) (own_seen (view L w) t (seen_at L w n j (S.paths z)) c)
          (λ o. not_used (view L w c) (λ u. let i : 1 ≤ many c (pages t) = rw (sym rc) ((S.used c).0 u) in omega arith) ∙ sym (page_out t c o))

      count : count_at w ≡ length (records t)
      count =
          S.counted ∙ (sum_same (recs_at (view L w)) (recs_at (page_of t)) (λ c. ap (λ a. length (recs_in a)) (views c)) (numbers L w)
          ∙ sum_records t (pages_in L w - 1) 1 (numbered_ranged (pages_in L w) (pages t) num) num.once)

  pub Sound_stands : 5 ≤ L → Stands L w (state_of L w)
  Sound_stands big =
      bool (eqb (levels_at w) 0)
      (λ t. rw (is_true (eqb (levels_at w) 0) t) (none_stands big (eqb→eq (levels_at w) 0 t)))
      (λ t. let z : levels_at w ≡ 0 → ⊥ = λ e. T_not (eqb (levels_at w) 0) t (of_true (eqb (levels_at w) 0) (eq-eqb (levels_at w) 0 e)) in
      rw (is_false (eqb (levels_at w) 0) t) (tree_stands big z))

-- the test, the record and the printed form say the same
pub sound_iff : (L : ℕ) → 5 ≤ L → (w : List ℕ) → T (sound L w) ↔ Sound L w
sound_iff L big w = (
  λ h. stands_sound L w big (state_of L w) (sound_stands L big w h),
  λ h. let s = Sound_stands L w h big in subst (λ v. T (sound L v)) (sym s.prints) (print_sound L (domains w) (pages_in L w) (state_of L w) big s.formed),
)

-- words that are the printed form of a well-formed state, of any number of domains and pages
pub record IsPrinted (L : ℕ) (w : List ℕ) : Type 0 where
  pub domains : ℕ
  pub size : ℕ
  pub state : State
  pub formed : WellFormed L domains size state
  pub prints : w ≡ printed L domains size state

pub printed_iff : (L : ℕ) → 5 ≤ L → (w : List ℕ) → Sound L w ↔ IsPrinted L w
printed_iff L big w = (
  λ h. let s = Sound_stands L w h big in record { domains = get_or w 0 0; size = pages_in L w; state = state_of L w; formed = s.formed; prints = s.prints },
  λ h. subst (Sound L) (sym h.prints)
      (stands_sound L (printed L h.domains h.size h.state) big h.state (stands L h.domains h.size h.state big h.formed)),
)
