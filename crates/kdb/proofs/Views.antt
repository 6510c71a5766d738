-- A tree and its pages. `Seen v t`: the pages v, by number, are the tree's. `page_case`: what holds of a free page and of every page of a
-- shaped tree holds of page c, for every c. `sum_records`: the records on all pages are the tree's.
use mathlib.Core.Bool.{Bool, true, false, cond}
use mathlib.Core.List.{List, [], ◌∷◌, ◌++◌, map}
use mathlib.Core.Path.{◌≡◌, refl, sym, ap, ap₂, ◌∙◌, subst}
use Prim.Native.Nat.{ℕ, zero, suc, ◌+◌, ◌≤◌}
use native.Mathlib.Omega.{arith}
use lib.Dec.{T, ltb, eqb, eqb→eq, lt→ltb, ltb→lt}
use lib.ListN.{length, length-append}
use borrow.Author.Tests.{eq-eqb}
use Rattle.kdb.specs.Lists.{bit, every, any_of, Each, sum, many, up_from}
use Rattle.kdb.specs.Box.{∞, Box, Key, whole, within, solid}
use Rattle.kdb.specs.Tiling.{Tiles}
use Rattle.kdb.specs.Tree.{Rec, Tree, leaf, node, Forest, fnil, fcons, boxes, levels, levels_f, pages, pages_f, records, records_f}
use Rattle.kdb.specs.Shape.{PointPage, RegionPage, Shaped, ShapedF}
use Rattle.kdb.specs.Pages.{Page, blank, points, regions, recs_in, in_use}
use Rattle.kdb.specs.Print.{ents, or_page, page_of, page_of_f}
use Rattle.kdb.proofs.Tests.{bool, and_l, and_r, and_i, or_l, or_r, self, to_bit, is_false, of_true, cond_case, some_many}
use Rattle.kdb.proofs.Counts.{many_append, sum_same, sum_add, sum_none, sum_hit, Ranged}
use Rattle.kdb.proofs.Box.{within_i, within_e, within_length}
use Rattle.kdb.proofs.Tiling.{low, low_in}

module _ (v : ℕ → Page) where
  abbrev mutual
    pub Seen : Tree → Type 0
    Seen (leaf p d rs) = v p ≡ points d rs
    Seen (node p d f) = (v p ≡ regions d (ents f)) × SeenF f

    pub SeenF : Forest → Type 0
    SeenF fnil = Unit {0}
    SeenF (fcons b t f) = Seen t × SeenF f

pub boxes_ents : (f : Forest) → map (λ e. e.box) (ents f) ≡ boxes f
boxes_ents fnil = refl
boxes_ents (fcons b t f) = ap (λ l. b ∷ l) (boxes_ents f)

pub ents_boxes : (f : Forest) → length (ents f) ≡ length (boxes f)
ents_boxes fnil = refl
ents_boxes (fcons b t f) = ap suc (ents_boxes f)

pub or_first : (a b : Page) → T (in_use a) → or_page a b ≡ a
or_first blank b h = absurd h
or_first (points d rs) b h = refl
or_first (regions d es) b h = refl

or_case : (Q : Page → Type 0) (a b : Page) → Q a → Q b → Q (or_page a b)
or_case Q blank b h g = g
or_case Q (points d rs) b h g = h
or_case Q (regions d es) b h g = h

-- a number that is no page of the tree
pub miss : (c p m : ℕ) → bit (eqb c p) + m ≡ 0 → eqb c p ≡ false
miss c p m h = go (eqb c p) h
  where
    go : (t : Bool) → bit t + m ≡ 0 → t ≡ false
    go true h = absurd (omega arith)
    go false h = refl

mutual
  pub page_out : (t : Tree) (c : ℕ) → many c (pages t) ≡ 0 → page_of t c ≡ blank
  page_out (leaf p d rs) c h = rw (miss c p 0 h)
  page_out (node p d f) c h = rw (miss c p (many c (pages_f f)) h) (page_out_f f c (omega arith))

  pub page_out_f : (f : Forest) (c : ℕ) → many c (pages_f f) ≡ 0 → page_of_f f c ≡ blank
  page_out_f fnil c h = refl
  page_out_f (fcons b t f) c h =
      let a = many_append c (pages t) (pages_f f) in
      rw (page_out t c (omega arith)) (page_out_f f c (omega arith))

-- by cases on whether c is p
pub at {ℓ} : {C : Type ℓ} (c p : ℕ) → (c ≡ p → C) → (eqb c p ≡ false → C) → C
at c p f g = bool (eqb c p) (λ t. f (eqb→eq c p t)) (λ t. g (is_false (eqb c p) t))

-- by cases on whether c is in the list
pub among {ℓ} : {C : Type ℓ} (c : ℕ) (l : List ℕ) → (1 ≤ many c l → C) → (many c l ≡ 0 → C) → C
among c l f g = bool (eqb (many c l) 0) (λ t. g (eqb→eq (many c l) 0 t)) (λ t. f (some_many (many c l) t))

mutual
  pub page_in : (t : Tree) (c : ℕ) → 1 ≤ many c (pages t) → T (in_use (page_of t c))
  page_in (leaf p d rs) c h = at c p (λ e. rw (eq-eqb c p e) tt) (λ e. absurd (let z : 1 ≤ 0 + 0 = rw e at h in omega arith))
  page_in (node p d f) c h =
      at c p (λ e. rw (eq-eqb c p e) tt) (λ e. let z : 1 ≤ 0 + many c (pages_f f) = rw e at h in rw e (page_in_f f c (omega arith)))

  page_in_f : (f : Forest) (c : ℕ) → 1 ≤ many c (pages_f f) → T (in_use (page_of_f f c))
  page_in_f fnil c h = absurd (omega arith)
  page_in_f (fcons b t f) c h =
      let a = many_append c (pages t) (pages_f f) in
      among c (pages t)
      (λ i. let u = page_in t c i in rw (or_first (page_of t c) (page_of_f f c) u) u)
      (λ z. rw (page_out t c z) (page_in_f f c (omega arith)))

-- the pages of a tree are those that it is seen in
module _ (v : ℕ → Page) where
  mutual
    pub seen_own : (t : Tree) → ((c : ℕ) → many c (pages t) ≤ 1) → ((c : ℕ) → 1 ≤ many c (pages t) → v c ≡ page_of t c) → Seen v t
    seen_own (leaf p d rs) once h = h p (omega (arith, self p)) ∙ rw (eq-eqb p p refl)
    seen_own (node p d f) once h = (
      h p (omega (arith, self p)) ∙ rw (eq-eqb p p refl),
      seen_own_f f (λ c. omega (arith, once c))
          (λ c i. at c p
          (λ e. absurd (let o = once c in let b : bit (eqb c p) ≡ 1 = to_bit (eqb c p) (of_true (eqb c p) (eq-eqb c p e)) in omega arith))
          (λ e. h c (omega arith) ∙ rw e)),
    )

    seen_own_f : (f : Forest) → ((c : ℕ) → many c (pages_f f) ≤ 1) → ((c : ℕ) → 1 ≤ many c (pages_f f) → v c ≡ page_of_f f c) → SeenF v f
    seen_own_f fnil once h = tt
    seen_own_f (fcons b t f) once h =
        let a : (c : ℕ) → many c (pages t ++ pages_f f) ≡ many c (pages t) + many c (pages_f f) = λ c. many_append c (pages t) (pages_f f) in (
          seen_own t (λ c. omega (arith, once c, a c))
              (λ c i. h c (omega (arith, a c)) ∙ or_first (page_of t c) (page_of_f f c) (page_in t c i)),
          seen_own_f f (λ c. omega (arith, once c, a c))
              (λ c i. h c (omega (arith, a c)) ∙ ap (λ u. or_page u (page_of_f f c)) (page_out t c (omega (arith, once c, a c)))),
        )

  mutual
    pub own_seen : (t : Tree) → Seen v t → (c : ℕ) → 1 ≤ many c (pages t) → v c ≡ page_of t c
    own_seen (leaf p d rs) s c i =
        at c p (λ e. ap v e ∙ (s ∙ rw (eq-eqb c p e))) (λ e. absurd (let z : 1 ≤ 0 + 0 = rw e at i in omega arith))
    own_seen (node p d f) s c i =
        at c p (λ e. ap v e ∙ (s.0 ∙ rw (eq-eqb c p e)))
        (λ e. let z : 1 ≤ 0 + many c (pages_f f) = rw e at i in own_seen_f f s.1 c (omega arith) ∙ rw e)

    own_seen_f : (f : Forest) → SeenF v f → (c : ℕ) → 1 ≤ many c (pages_f f) → v c ≡ page_of_f f c
    own_seen_f fnil s c i = absurd (omega arith)
    own_seen_f (fcons b t f) s c i =
        let a = many_append c (pages t) (pages_f f) in
        among c (pages t)
        (λ i. own_seen t s.0 c i ∙ sym (or_first (page_of t c) (page_of_f f c) (page_in t c i)))
        (λ z. own_seen_f f s.1 c (omega arith) ∙ ap (λ u. or_page u (page_of_f f c)) (sym (page_out t c z)))

-- regions under the whole space
pub record Under (k : ℕ) (r : Box) : Type 0 where
  pub keys : (p : Key) → T (within r p) → T (within (whole k) p)

pub whole_under : (k : ℕ) → Under k (whole k)
whole_under k = record { keys = λ p h. h }

pub whole_length : (k : ℕ) → length (whole k) ≡ k
whole_length zero = refl
whole_length (suc k) = ap suc (whole_length k)

pub under_key : (k : ℕ) (r : Box) → Under k r → (p : Key) → T (within r p) → length p ≡ k
under_key k r u p h = within_length (whole k) p (u.keys p h) ∙ whole_length k

pub under_length : (k : ℕ) (b : Box) → Under k b → T (solid b) → length b ≡ k
under_length k b u h = let i = low_in b h in sym (within_length b (low b) i) ∙ under_key k b u (low b) i

-- the keys of the whole space are finite
pub whole_finite : (k : ℕ) (p : Key) → T (within (whole k) p) → T (every (λ x. ltb x ∞) p)
whole_finite zero [] h = tt
whole_finite zero (x ∷ p) h = absurd h
whole_finite (suc k) [] h = absurd h
whole_finite (suc k) (x ∷ p) h = let e = within_e (record { lo = 0; hi = ∞ }) x (whole k) p h in and_i (ltb x ∞) _ (lt→ltb x ∞ e.1) (whole_finite k p e.2)

pub finite_whole : (k : ℕ) (p : Key) → length p ≡ k → T (every (λ x. ltb x ∞) p) → T (within (whole k) p)
finite_whole zero [] h f = tt
finite_whole zero (x ∷ p) h f = absurd (omega arith)
finite_whole (suc k) [] h f = absurd (omega arith)
finite_whole (suc k) (x ∷ p) h f =
    within_i (record { lo = 0; hi = ∞ }) x (whole k) p (omega arith) (ltb→lt x ∞ (and_l (ltb x ∞) _ f)) (finite_whole k p (omega arith) (and_r (ltb x ∞) _ f))

parts_under : (k : ℕ) (bs : List Box) → ((p : Key) → T (any_of (λ b. within b p) bs) → T (within (whole k) p)) → Each (Under k) bs
parts_under k [] h = tt
parts_under k (b ∷ bs) h = (record { keys = λ p i. h p (or_l (within b p) _ i) }, parts_under k bs (λ p i. h p (or_r (within b p) _ i)))

pub tiles_under : (k : ℕ) (r : Box) (bs : List Box) → Under k r → Tiles r bs → Each (Under k) bs
tiles_under k r bs u t = parts_under k bs (λ p i. u.keys p (subst T (t.together p) i))

-- by cases on page c of a shaped tree that is seen in v
module _ (k R P : ℕ) (v : ℕ → Page) (Q : Page → Type 0) (free : Q blank)
    (onPoints : (d : ℕ) (rs : List Rec) (r : Box) → Under k r → PointPage k P d rs r → Q (points d rs))
    (onRegions : (d : ℕ) (f : Forest) (n : ℕ) (r : Box) → Under k r → RegionPage k R d (boxes f) r → ShapedF k R P f n → SeenF v f → Q (regions d (ents f))) where
  mutual
    pub page_case : (t : Tree) (n : ℕ) (r : Box) → Under k r → Shaped k R P t n r → Seen v t → (c : ℕ) → Q (page_of t c)
    page_case (leaf p d rs) n r u s e c = cond_case Q (eqb c p) (points d rs) blank (onPoints d rs r u s.1) free
    page_case (node p d f) zero r u s e c = absurd s
    page_case (node p d f) (suc n) r u s e c =
        cond_case Q (eqb c p) (regions d (ents f)) (page_of_f f c) (onRegions d f n r u s.0 s.1 e.1)
        (page_case_f f n (tiles_under k r (boxes f) u s.0.tiled) s.1 e.1 c)

    page_case_f : (f : Forest) (n : ℕ) → Each (Under k) (boxes f) → ShapedF k R P f n → SeenF v f → (c : ℕ) → Q (page_of_f f c)
    page_case_f fnil n u s e c = free
    page_case_f (fcons b t f) n u s e c =
        or_case Q (page_of t c) (page_of_f f c) (page_case t n b u.0 s.0 e.0 c) (page_case_f f n u.1 s.1 e.1 c)

-- the records on the pages from a on, n of them
abbrev pub recs_at : (ℕ → Page) → ℕ → ℕ
recs_at v j = length (recs_in (v j))

or_recs : (a b : Page) → (T (in_use a) → b ≡ blank) → length (recs_in (or_page a b)) ≡ length (recs_in a) + length (recs_in b)
or_recs blank b h = omega arith
or_recs (points d rs) b h = rw (h tt) (omega arith)
or_recs (regions d es) b h = rw (h tt) (omega arith)

-- a page in use is one of the tree's
pub in_use_lem : (t : Tree) (c : ℕ) → T (in_use (page_of t c)) → 1 ≤ many c (pages t)
in_use_lem t c u = among c (pages t) (λ i. i) (λ z. absurd (subst (λ a. T (in_use a)) (page_out t c z) u))

mutual
  pub sum_records : (t : Tree) (n a : ℕ) → Ranged n a (pages t) → ((c : ℕ) → many c (pages t) ≤ 1) → sum (map (recs_at (page_of t)) (up_from n a)) ≡ length (records t)
  sum_records (leaf p d rs) n a h once =
      let i = h.is p (omega (arith, self p)) in
      sum_same (recs_at (page_of (leaf p d rs))) (λ j. cond (eqb j p) (length rs) 0) (λ j. here (eqb j p)) (up_from n a) ∙ sum_hit (length rs) p n a i.0 i.1
    where
      here : (t : Bool) → length (recs_in (cond t (points d rs) blank)) ≡ cond t (length rs) 0
      here true = refl
      here false = refl
  sum_records (node p d f) n a h once =
      sum_same (recs_at (page_of (node p d f))) (recs_at (page_of_f f))
      (λ j. at j p
      (λ e. let b : bit (eqb j p) ≡ 1 = to_bit (eqb j p) (of_true (eqb j p) (eq-eqb j p e)) in
      rw (eq-eqb j p e, page_out_f f j (omega (arith, once j))))
      (λ e. rw e)) (up_from n a)
      ∙ sum_records_f f n a (record { is = λ c i. h.is c (omega arith) }) (λ c. omega (arith, once c))

  sum_records_f : (f : Forest) (n a : ℕ) → Ranged n a (pages_f f) → ((c : ℕ) → many c (pages_f f) ≤ 1) → sum (map (recs_at (page_of_f f)) (up_from n a)) ≡ length (records_f f)
  sum_records_f fnil n a h once = sum_none (up_from n a)
  sum_records_f (fcons b t f) n a h once =
      let m : (c : ℕ) → many c (pages t ++ pages_f f) ≡ many c (pages t) + many c (pages_f f) = λ c. many_append c (pages t) (pages_f f) in
      let x = sum_records t n a (record { is = λ c i. h.is c (omega (arith, m c)) }) (λ c. omega (arith, once c, m c)) in
      let y = sum_records_f f n a (record { is = λ c i. h.is c (omega (arith, m c)) }) (λ c. omega (arith, once c, m c)) in
      sum_same (recs_at (page_of_f (fcons b t f))) (λ j. recs_at (page_of t) j + recs_at (page_of_f f) j)
      (λ j. or_recs (page_of t j) (page_of_f f j) (λ u. let i = in_use_lem t j u in page_out_f f j (omega (arith, once j, m j)))) (up_from n a)
      ∙ (sum_add (recs_at (page_of t)) (recs_at (page_of_f f)) (up_from n a) ∙ (ap₂ ◌+◌ x y ∙ sym (length-append (records t) (records_f f))))

-- no more levels than pages
mutual
  pub levels_pages : (t : Tree) → levels t ≤ length (pages t)
  levels_pages (leaf p d rs) = omega arith
  levels_pages (node p d f) = omega (arith, levels_pages_f f)

  levels_pages_f : (f : Forest) → levels_f f ≤ length (pages_f f)
  levels_pages_f fnil = omega arith
  levels_pages_f (fcons b t f) = omega (arith, levels_pages t, length-append (pages t) (pages_f f))
