-- A page's own region. `own_in` finds it in the tree; `own_region_lem`: the own region that document 01 reads from the words, by the entry that
-- names the page, is the region under which the page stands in the tree.
use mathlib.Core.Bool.{true, false, cond}
use mathlib.Core.List.{List, [], ◌∷◌, ◌++◌}
use mathlib.Core.Logic.{◌⊎◌, inl, inr}
use mathlib.Core.Option.{Option, none, some}
use mathlib.Core.Path.{◌≡◌, refl, sym, ap, ◌∙◌, subst}
use Prim.Native.Nat.{ℕ, ◌+◌, ◌-◌, ◌≤◌}
use native.Mathlib.Omega.{arith}
use lib.Dec.{T, eqb}
use borrow.Author.Tests.{eq-eqb}
use Rattle.kdb.specs.Lists.{bit, tally, gather, many}
use Rattle.kdb.specs.Box.{Box, whole}
use Rattle.kdb.specs.Tree.{Tree, leaf, node, Forest, fnil, fcons, State, root, pages, pages_f}
use Rattle.kdb.specs.Pages.{Ent, blank, regions, ents_in, in_use}
use Rattle.kdb.specs.Pool.{domains, root_at, pages_in, numbers, view, naming, own_region}
use Rattle.kdb.specs.Print.{ents, or_page, page_of, page_of_f}
use Rattle.kdb.proofs.Tests.{self, to_bit, of_true, is_true}
use Rattle.kdb.proofs.Counts.{tally_append, many_append, many_up, tally_gather}
use Rattle.kdb.proofs.Views.{at, miss, among, or_first, page_in, page_out}
use Rattle.kdb.proofs.Stands.{Stands}

abbrev pub or_box : Option Box → Option Box → Option Box
or_box none b = b
or_box (some a) b = some a

-- the region under which page j stands in a tree with region r
abbrev mutual
  pub own_in : Tree → Box → ℕ → Option Box
  own_in (leaf p d rs) r j = cond (eqb j p) (some r) none
  own_in (node p d f) r j = cond (eqb j p) (some r) (own_in_f f j)

  pub own_in_f : Forest → ℕ → Option Box
  own_in_f fnil j = none
  own_in_f (fcons b t f) j = or_box (own_in t b j) (own_in_f f j)

abbrev pub own_of : ℕ → State → ℕ → Option Box
own_of k none j = none
own_of k (some t) j = own_in t (whole k) j

mutual
  pub own_out : (t : Tree) (r : Box) (j : ℕ) → many j (pages t) ≡ 0 → own_in t r j ≡ none
  own_out (leaf p d rs) r j h = rw (miss j p 0 h)
  own_out (node p d f) r j h = rw (miss j p (many j (pages_f f)) h) (own_out_f f j (omega arith))

  pub own_out_f : (f : Forest) (j : ℕ) → many j (pages_f f) ≡ 0 → own_in_f f j ≡ none
  own_out_f fnil j h = refl
  own_out_f (fcons b t f) j h = let a = many_append j (pages t) (pages_f f) in rw (own_out t b j (omega arith)) (own_out_f f j (omega arith))

pub own_root : (t : Tree) (r : Box) → own_in t r (root t) ≡ some r
own_root (leaf p d rs) r = rw (eq-eqb p p refl)
own_root (node p d f) r = rw (eq-eqb p p refl)

-- a page that stands among the trees after t is no page of t
alone : (t : Tree) (f : Forest) (j : ℕ) (b r : Box) → many j (pages t ++ pages_f f) ≤ 1 → own_in_f f j ≡ some b → own_in t r j ≡ none
alone t f j b r once e =
    let a = many_append j (pages t) (pages_f f) in
    among j (pages_f f) (λ i. own_out t r j (omega arith))
    (λ z. absurd (let y = own_out_f f j z in let q : ◌≡◌ {A = ℕ} 0 1 = cc in omega arith))

no_some {ℓ} : {C : Type ℓ} (b : Box) → none ≡ some b → C
no_some b e = absurd (let q : ◌≡◌ {A = ℕ} 0 1 = cc in omega arith)

-- nor is it the page above them
not_top : (p : ℕ) (f : Forest) (j : ℕ) (b : Box) → bit (eqb j p) + many j (pages_f f) ≤ 1 → own_in_f f j ≡ some b → eqb j p ≡ false
not_top p f j b once e =
    among j (pages_f f) (λ i. miss j p 0 (omega arith)) (λ z. no_some b (sym (own_out_f f j z) ∙ e))

module _ (j : ℕ) where
  -- what a page of the tree names is what stands there
  named_ents : (f : Forest) (b : Box) → ((c : ℕ) → many c (pages_f f) ≤ 1) → naming j (ents f) ≡ some b → own_in_f f j ≡ some b
  named_ents fnil b once e = e
  named_ents (fcons a t f) b once e =
      at j (root t)
      (λ q. let u : some a ≡ some b = rw (eq-eqb j (root t) q) at e in
      let o : own_in t a j ≡ some a = ap (own_in t a) q ∙ own_root t a in rw o u)
      (λ q. let u : naming j (ents f) ≡ some b = rw q at e in
      let m : (c : ℕ) → many c (pages t ++ pages_f f) ≡ many c (pages t) + many c (pages_f f) = λ c. many_append c (pages t) (pages_f f) in
      let o = named_ents f b (λ c. omega (arith, once c, m c)) u in
      rw (alone t f j b a (once j) o) o)

  mutual
    named_own : (t : Tree) (r b : Box) → ((c : ℕ) → many c (pages t) ≤ 1) → (i : ℕ) → naming j (ents_in (page_of t i)) ≡ some b → own_in t r j ≡ some b
    named_own (leaf p d rs) r b once i e = at i p (λ q. no_some b (rw (eq-eqb i p q) at e)) (λ q. no_some b (rw q at e))
    named_own (node p d f) r b once i e =
        let o : own_in_f f j ≡ some b =
        at i p (λ q. let u : naming j (ents f) ≡ some b = rw (eq-eqb i p q) at e in named_ents f b (λ c. omega (arith, once c)) u)
        (λ q. let u : naming j (ents_in (page_of_f f i)) ≡ some b = rw q at e in named_own_f f b (λ c. omega (arith, once c)) i u) in
        rw (not_top p f j b (once j) o) o

    named_own_f : (f : Forest) (b : Box) → ((c : ℕ) → many c (pages_f f) ≤ 1) → (i : ℕ) → naming j (ents_in (page_of_f f i)) ≡ some b → own_in_f f j ≡ some b
    named_own_f fnil b once i e = e
    named_own_f (fcons a t f) b once i e =
        let m : (c : ℕ) → many c (pages t ++ pages_f f) ≡ many c (pages t) + many c (pages_f f) = λ c. many_append c (pages t) (pages_f f) in
        among i (pages t)
        (λ h. let u : naming j (ents_in (page_of t i)) ≡ some b = rw (or_first (page_of t i) (page_of_f f i) (page_in t i h)) at e in
        rw (named_own t a b (λ c. omega (arith, once c, m c)) i u))
        (λ z. let u : naming j (ents_in (page_of_f f i)) ≡ some b = rw (page_out t i z) at e in
        let o = named_own_f f b (λ c. omega (arith, once c, m c)) i u in
        rw (alone t f j b a (once j) o) o)

  -- some page names every page but the root
  abbrev names : List Ent → ℕ
  names es = tally (λ e. eqb j e.child) es

  mutual
    named_by : (t : Tree) → ((c : ℕ) → many c (pages t) ≤ 1) → 1 ≤ many j (pages t) → eqb j (root t) ≡ false → (i : ℕ) × (1 ≤ many i (pages t)) × (1 ≤ names (ents_in (page_of t i)))
    named_by (leaf p d rs) once h n = absurd (let z : 1 ≤ 0 + 0 = rw n at h in omega arith)
    named_by (node p d f) once h n =
        let z : 1 ≤ 0 + many j (pages_f f) = rw n at h in
        go (named_by_f f (λ c. omega (arith, once c)) (omega arith))
      where
        go : (1 ≤ names (ents f)) ⊎ ((i : ℕ) × (1 ≤ many i (pages_f f)) × (1 ≤ names (ents_in (page_of_f f i)))) → (i : ℕ) × (1 ≤ many i (p ∷ pages_f f)) × (1 ≤ names (ents_in (cond (eqb i p) (regions d (ents f)) (page_of_f f i))))
        go (inl h) = (p, omega (arith, self p), rw (eq-eqb p p refl) h)
        go (inr q) = (q.0, omega (arith, q.1), rw (miss q.0 p 0 (omega (arith, once q.0, q.1))) q.2)

    named_by_f : (f : Forest) → ((c : ℕ) → many c (pages_f f) ≤ 1) → 1 ≤ many j (pages_f f) → (1 ≤ names (ents f)) ⊎ ((i : ℕ) × (1 ≤ many i (pages_f f)) × (1 ≤ names (ents_in (page_of_f f i))))
    named_by_f fnil once h = absurd (omega arith)
    named_by_f (fcons a t f) once h =
        let m : (c : ℕ) → many c (pages t ++ pages_f f) ≡ many c (pages t) + many c (pages_f f) = λ c. many_append c (pages t) (pages_f f) in
        among j (pages t)
        (λ h. at j (root t)
        (λ q. inl (let b = to_bit (eqb j (root t)) (of_true (eqb j (root t)) (eq-eqb j (root t) q)) in omega arith))
        (λ q. let g = named_by t (λ c. omega (arith, once c, m c)) h q in
        inr (g.0, omega (arith, m g.0, g.1), rw (or_first (page_of t g.0) (page_of_f f g.0) (page_in t g.0 g.1)) g.2)))
        (λ z. later m (named_by_f f (λ c. omega (arith, once c, m c)) (omega (arith, m j))))
      where
        later : ((c : ℕ) → many c (pages t ++ pages_f f) ≡ many c (pages t) + many c (pages_f f))
            → (1 ≤ names (ents f)) ⊎ ((i : ℕ) × (1 ≤ many i (pages_f f)) × (1 ≤ names (ents_in (page_of_f f i))))
            → (1 ≤ bit (eqb j (root t)) + names (ents f)) ⊎ ((i : ℕ) × (1 ≤ many i (pages t ++ pages_f f)) × (1 ≤ names (ents_in (or_page (page_of t i) (page_of_f f i)))))
        later m (inl h) = inl (omega arith)
        later m (inr q) = inr (q.0, omega (arith, m q.0, q.1), rw (page_out t q.0 (omega (arith, once q.0, m q.0, q.1))) q.2)

  -- the first entry of joined pages that names the page, where all that do name it give z
  naming_append : (l m : List Ent) → naming j (l ++ m) ≡ or_box (naming j l) (naming j m)
  naming_append [] m = refl
  naming_append (e ∷ l) m = at j e.child (λ q. rw (eq-eqb j e.child q)) (λ q. rw q (naming_append l m))

  naming_none : (l : List Ent) → naming j l ≡ none → names l ≡ 0
  naming_none [] e = refl
  naming_none (a ∷ l) e =
      at j a.child (λ q. no_some a.box (sym (rw (eq-eqb j a.child q) at e))) (λ q. rw q (omega (arith, naming_none l (rw q at e))))

  naming_all : (g : ℕ → List Ent) (z : Option Box) → ((i : ℕ) (b : Box) → naming j (g i) ≡ some b → z ≡ some b) → (l : List ℕ) → 1 ≤ names (gather g l) → naming j (gather g l) ≡ z
  naming_all g z same [] h = absurd (omega arith)
  naming_all g z same (i ∷ l) h = naming_append (g i) (gather g l) ∙ go (naming j (g i)) refl (naming_all g z same l)
    where
      go : (o : Option Box) → naming j (g i) ≡ o → (1 ≤ names (gather g l) → naming j (gather g l) ≡ z) → or_box o (naming j (gather g l)) ≡ z
      go none e rest = rest (omega (arith, naming_none (g i) e, tally_append (λ e. eqb j e.child) (g i) (gather g l)))
      go (some b) e rest = sym (same i b e)

pub own_region_lem : (L : ℕ) (w : List ℕ) (s : State) → Stands L w s → (j : ℕ) → own_region L w j ≡ own_of (domains w) s j
own_region_lem L w none h j = rw (h.views j)
own_region_lem L w (some t) h j =
    among j (pages t)
    (λ i. used (is_true (in_use (view L w j)) (subst (λ v. T (in_use v)) (sym (h.views j)) (page_in t j i)))
    ∙ at j (root t)
    (λ q. let e : eqb j (root_at w) ≡ true = eq-eqb j (root_at w) (q ∙ sym h.root) in rw e (sym (ap (own_in t (whole (domains w))) q ∙ own_root t (whole (domains w)))))
    (λ q. let e : eqb j (root_at w) ≡ false = ap (eqb j) h.root ∙ q in
    let n = named_by j t h.formed.numbered.once i q in
    let c = h.formed.numbered.inside n.0 n.1 in
    rw e (naming_all j (λ i. ents_in (view L w i)) (own_in t (whole (domains w)) j)
    (λ i b m. named_own j t (whole (domains w)) b h.formed.numbered.once i (subst (λ v. naming j (ents_in v) ≡ some b) (h.views i) m)) (numbers L w)
    (tally_gather (λ e. eqb j e.child) (λ i. ents_in (view L w i)) (numbers L w) n.0 (many_up (pages_in L w - 1) 1 n.0 c.0 (omega (arith, c.0, c.1)))
    (subst (λ v. 1 ≤ tally (λ e. eqb j e.child) (ents_in v)) (sym (h.views n.0)) n.2)))))
    (λ z. let e : view L w j ≡ blank = h.views j ∙ page_out t j z in rw e (sym (own_out t (whole (domains w)) j z)))
  where
    used : in_use (view L w j) ≡ true → own_region L w j ≡ cond (eqb j (root_at w)) (some (whole (domains w))) (naming j (gather (λ i. ents_in (view L w i)) (numbers L w)))
    used e = rw e
