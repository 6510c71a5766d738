-- A well-formed state printed and read back. `stands`: it stands in the words printed; `read_state`: those words say it again;
-- `printed_injective`: no two such states are printed alike.
use mathlib.Core.Bool.{false, ◌&&◌, cond}
use mathlib.Core.List.{List}
use mathlib.Core.Option.{none, some}
use mathlib.Core.Path.{◌≡◌, refl, sym, ap, ap₂, ◌∙◌, subst}
use Prim.Native.Nat.{ℕ, zero, suc, ◌+◌, ◌-◌, ◌*◌, ◌/◌, ◌<◌, ◌≤◌}
use native.Mathlib.Omega.{arith}
use native.Mathlib.Nat.{mul-suc, mul-div_right}
use lib.Dec.{T, T_not, leb, ltb, eqb, leb→le, ltb→lt, le→leb, lt→ltb}
use lib.ListN.{length, length-append}
use borrow.Author.Tests.{ne_eqb}
use Rattle.kdb.specs.Lists.{Each, every, gather, up_from}
use Rattle.kdb.specs.Box.{Box, whole, within, solid}
use Rattle.kdb.specs.Tree.{Rec, Tree, leaf, node, Forest, fnil, fcons, State, root, boxes, levels, pages, pages_of}
use Rattle.kdb.specs.Shape.{PointPage, RegionPage, Shaped, ShapedF, Numbered, WellFormed}
use Rattle.kdb.specs.Header.{header_words, print_header, read_header}
use Rattle.kdb.specs.Pages.{blank, points, regions, regions_per, points_per, print_page, read_page, page}
use Rattle.kdb.specs.Pool.{domains, root_at, levels_at, pages_in, view}
use Rattle.kdb.specs.Print.{ents, page_of, page_at, header_of, forest, printed, tree_at, state_of}
use Rattle.kdb.proofs.Tests.{bool, and_l, and_r, is_true, is_false, and_i}
use Rattle.kdb.proofs.Lists.{each_every}
use Rattle.kdb.proofs.Counts.{Ranged, few}
use Rattle.kdb.proofs.Stores.{length_pad}
use Rattle.kdb.proofs.Pages.{FitsPage, read_page_lem, page_length, page_first, page_next, page_gather, length_pages}
use Rattle.kdb.proofs.Views.{Seen, SeenF, seen_own, page_out, among, page_case, ents_boxes, Under, whole_under, under_key, under_length, tiles_under, levels_pages}
use Rattle.kdb.proofs.Stands.{Stands}
use Rattle.kdb.proofs.Header.{head_says}

-- every page of a well-formed state fits
fits_free : (L k : ℕ) → FitsPage L k blank
fits_free L k = record { keys = tt; ends = tt; point_room = omega arith; region_room = omega arith }

fits_points : (L k d : ℕ) (rs : List Rec) (r : Box) → Under k r → PointPage k (points_per L k) d rs r → FitsPage L k (points d rs)
fits_points L k d rs r u p =
    record {
      keys = each_every (λ q. length q.key ≡ k) (λ q. within r q.key) rs (λ q i. under_key k r u q.key i) p.inside;
      ends = tt;
      point_room = p.room;
      region_room = omega arith;
    }

fits_ends : (k : ℕ) (f : Forest) → Each (Under k) (boxes f) → T (every solid (boxes f)) → Each (λ e. length e.box ≡ k) (ents f)
fits_ends k fnil u h = tt
fits_ends k (fcons b t f) u h = (under_length k b u.0 (and_l (solid b) _ h), fits_ends k f u.1 (and_r (solid b) _ h))

fits_regions : (L k d : ℕ) (f : Forest) (r : Box) → Under k r → RegionPage k (regions_per L k) d (boxes f) r → FitsPage L k (regions d (ents f))
fits_regions L k d f r u p =
    record {
      keys = tt;
      ends = fits_ends k f (tiles_under k r (boxes f) u p.tiled) p.tiled.solids;
      point_room = omega arith;
      region_room = subst (λ n. n ≤ regions_per L k) (sym (ents_boxes f)) p.room;
    }

pub numbered_ranged : (N : ℕ) (ps : List ℕ) → Numbered N ps → Ranged (N - 1) 1 ps
numbered_ranged N ps h = record { is = λ c i. let q = h.inside c i in (q.0, omega arith) }

module _ (L k N : ℕ) where
  pub own_views : (t : Tree) → WellFormed L k N (some t) → Seen (page_of t) t
  own_views t wf = seen_own (page_of t) t wf.numbered.once (λ c i. refl)

  pub page_fits : (s : State) → WellFormed L k N s → (c : ℕ) → FitsPage L k (page_at s c)
  page_fits none wf c = fits_free L k
  page_fits (some t) wf c =
      page_case k (regions_per L k) (points_per L k) (page_of t) (FitsPage L k) (fits_free L k) (fits_points L k) (λ d f n r u p s e. fits_regions L k d f r u p)
      t (levels t - 1) (whole k) (whole_under k) wf.shape (own_views t wf) c

  -- a number that is no page's number has a free page
  pub no_page : (s : State) → Numbered N (pages_of s) → (c : ℕ) → ((1 ≤ c) × (c < N) → ⊥) → page_at s c ≡ blank
  no_page none h c z = refl
  no_page (some t) h c z = among c (pages t) (λ i. absurd (z (h.inside c i))) (page_out t c)

pub some_levels : (t : Tree) → 1 ≤ levels t
some_levels (leaf p d rs) = omega arith
some_levels (node p d f) = omega arith

pub levels_few : (N : ℕ) (t : Tree) → Numbered N (pages t) → levels t ≤ N - 1
levels_few N t h = omega (arith, levels_pages t, few (pages t) (N - 1) 1 (numbered_ranged N (pages t) h) h.once)

-- a tree is read from the pages that it is seen in
module _ (k R P L : ℕ) (w : List ℕ) where
  mutual
    pub seen_tree : (t : Tree) (n : ℕ) (r : Box) → Shaped k R P t n r → Seen (view L w) t → tree_at L w n (root t) ≡ t
    seen_tree (leaf p d rs) zero r s e = rw e
    seen_tree (leaf p d rs) (suc n) r s e = absurd (omega (arith, s.0))
    seen_tree (node p d f) zero r s e = absurd s
    seen_tree (node p d f) (suc n) r s e = rw e.0 (ap (node p d) (seen_forest f n s.1 e.1))

    seen_forest : (f : Forest) (n : ℕ) → ShapedF k R P f n → SeenF (view L w) f → forest (tree_at L w n) (ents f) ≡ f
    seen_forest fnil n s e = refl
    seen_forest (fcons b t f) n s e = ap₂ (fcons b) (seen_tree t n b s.0 e.0) (seen_forest f n s.1 e.1)

-- the words printed
module _ (L k N : ℕ) (s : State) (big : 5 ≤ L) (wf : WellFormed L k N s) where
  abbrev w : List ℕ
  w = printed L k N s

  pub print_length : length w ≡ L * N
  print_length =
      let N1 : N ≡ suc (N - 1) = omega arith in
      let e : L * N ≡ L * (N - 1) + L = ap (λ n. L * n) N1 ∙ mul-suc L (N - 1) in
      length-append (print_header L (header_of k N s)) (gather (λ c. print_page L (page_at s c)) (up_from (N - 1) 1))
      ∙ omega (arith, length_pad L (header_words (header_of k N s)), length_pages L (λ c. print_page L (page_at s c)) (λ c. page_length L (page_at s c) (omega arith)) (N - 1) 1)

  pub print_pages_in : pages_in L w ≡ N
  print_pages_in = let z : 0 < L = omega arith in ap (λ n. n / L) print_length ∙ mul-div_right N z

  pub print_header_lem : page L w 0 ≡ print_header L (header_of k N s)
  print_header_lem = page_first L (print_header L (header_of k N s)) (gather (λ c. print_page L (page_at s c)) (up_from (N - 1) 1)) (length_pad L (header_words (header_of k N s)))

  pub print_page_lem : (j : ℕ) → 1 ≤ j → j < N → page L w j ≡ print_page L (page_at s j)
  print_page_lem zero h l = absurd (omega arith)
  print_page_lem (suc c) h l =
      let e : 1 + c ≡ suc c = omega arith in
      page_next L (print_header L (header_of k N s)) (gather (λ c. print_page L (page_at s c)) (up_from (N - 1) 1)) c (length_pad L (header_words (header_of k N s)))
      ∙ (page_gather L (λ c. print_page L (page_at s c)) (λ c. page_length L (page_at s c) (omega arith)) (N - 1) 1 c (omega arith) ∙ ap (λ j. print_page L (page_at s j)) e)

  -- the header that they say
  pub print_says : read_header w ≡ header_of k N s
  print_says = head_says L big w (header_of k N s) print_header_lem

  pub print_domains : domains w ≡ k
  print_domains = ap (λ h. h.domains) print_says

  pub print_views : (j : ℕ) → view L w j ≡ page_at s j
  print_views j =
      ap (λ n. cond (leb 1 j && ltb j n) (read_page (domains w) (page L w j)) blank) print_pages_in
      ∙ bool (leb 1 j && ltb j N)
      (λ t. let a = leb→le 1 j (and_l (leb 1 j) _ t) in
      let b = ltb→lt j N (and_r (leb 1 j) _ t) in
      ap (λ c. cond c (read_page (domains w) (page L w j)) blank) (is_true (leb 1 j && ltb j N) t)
      ∙ (ap₂ read_page print_domains (print_page_lem j a b) ∙ read_page_lem L k (page_at s j) (page_fits L k N s wf j)))
      (λ t. ap (λ c. cond c (read_page (domains w) (page L w j)) blank) (is_false (leb 1 j && ltb j N) t)
      ∙ sym (no_page L k N s wf.numbered j (λ h. T_not (leb 1 j && ltb j N) t (and_i (leb 1 j) _ (le→leb 1 j h.0) (lt→ltb j N h.1)))))

  pub stands : Stands L w s
  stands =
      record {
        formed = subst (λ i. WellFormed L i (pages_in L w) s) (sym print_domains) (subst (λ n. WellFormed L k n s) (sym print_pages_in) wf);
        root = ap (λ h. h.root) print_says;
        levels = ap (λ h. h.levels) print_says;
        count = ap (λ h. h.count) print_says;
        views = print_views;
        prints = ap₂ (λ i n. printed L i n s) (sym print_domains) (sym print_pages_in);
      }

-- what stands in the words is what they say
pub stands_seen : (L : ℕ) (w : List ℕ) (t : Tree) → Stands L w (some t) → Seen (view L w) t
stands_seen L w t h = seen_own (view L w) t h.formed.numbered.once (λ c i. h.views c)

pub stands_tree : (L : ℕ) (w : List ℕ) (t : Tree) → Stands L w (some t) → tree_at L w (levels_at w - 1) (root_at w) ≡ t
stands_tree L w t h =
    ap₂ (λ n j. tree_at L w (n - 1) j) h.levels h.root
    ∙ seen_tree (domains w) (regions_per L (domains w)) (points_per L (domains w)) L w t (levels t - 1) (whole (domains w)) h.formed.shape (stands_seen L w t h)

pub stands_state : (L : ℕ) (w : List ℕ) (s : State) → Stands L w s → state_of L w ≡ s
stands_state L w none h = rw h.levels
stands_state L w (some t) h =
    let e : eqb (levels_at w) 0 ≡ false = ne_eqb (levels_at w) 0 (λ z. let p = some_levels t in omega (arith, h.levels)) in
    rw e (ap some (stands_tree L w t h))

pub read_state : (L k N : ℕ) (s : State) → 5 ≤ L → WellFormed L k N s → state_of L (printed L k N s) ≡ s
read_state L k N s big wf = stands_state L (printed L k N s) s (stands L k N s big wf)

pub printed_injective : (L k N : ℕ) (s : State) (i M : ℕ) (t : State) → 5 ≤ L → WellFormed L k N s → WellFormed L i M t → printed L k N s ≡ printed L i M t → (k ≡ i) × (N ≡ M) × (s ≡ t)
printed_injective L k N s i M t big a b e = (
  sym (print_domains L k N s big a) ∙ (ap domains e ∙ print_domains L i M t big b),
  sym (print_pages_in L k N s big a) ∙ (ap (pages_in L) e ∙ print_pages_in L i M t big b),
  sym (read_state L k N s big a) ∙ (ap (state_of L) e ∙ read_state L i M t big b),
)
