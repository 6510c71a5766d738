-- A tree's pages in a store, by recursion on the tree, and the part of a tree's shape that its words hang on: one level for all point
-- pages, keys and regions of k domains, no page overfull.
use mathlib.Core.List.{List, ◌∷◌, ◌++◌}
use mathlib.Core.Path.{◌≡◌, refl, ap, ◌∙◌}
use Prim.Native.Nat.{ℕ, zero, suc, ◌+◌, ◌*◌, ◌≤◌}
use native.Mathlib.Omega.{arith}
use lib.ListN.{length}
use Rattle.kdb.specs.Lists.{many, Each, gather}
use Rattle.kdb.specs.Tree.{Rec, Tree, leaf, node, Forest, fnil, fcons, root, boxes, pages, pages_f}
use Rattle.kdb.specs.Pages.{points, regions, words_r, words_e, print_page}
use Rattle.kdb.specs.Steps.{size, join_f}
use Rattle.kdb.specs.Print.{ents}
use Rattle.kdb.proofs.Tests.{self}
use Rattle.kdb.proofs.Lists.{gather_append, length_gather, each_map}
use Rattle.kdb.proofs.Counts.{many_append}
use Rattle.kdb.proofs.Pages.{rec_length, ent_length}
use Rattle.steps.proofs.Entry.{ent}

-- every page of the tree stands printed in the store s
module _ (L : ℕ) (s : ℕ → List ℕ) where
  abbrev mutual
    pub Holds : Tree → Type 0
    Holds (leaf p d rs) = s p ≡ print_page L (points d rs)
    Holds (node p d f) = (s p ≡ print_page L (regions d (ents f))) × HoldsF f

    pub HoldsF : Forest → Type 0
    HoldsF fnil = Unit {0}
    HoldsF (fcons b t f) = Holds t × HoldsF f

  pub holds_join : (f h : Forest) → HoldsF f → HoldsF h → HoldsF (join_f f h)
  holds_join fnil h a i = i
  holds_join (fcons b t f) h a i = (a.0, holds_join f h a.1 i)

  pub join_holds : (f h : Forest) → HoldsF (join_f f h) → HoldsF f × HoldsF h
  join_holds fnil h a = (tt, a)
  join_holds (fcons b t f) h a = let r = join_holds f h a.1 in ((a.0, r.0), r.1)

-- a store that has the tree's pages as before
module _ (L : ℕ) (s s' : ℕ → List ℕ) where
  mutual
    pub frame : (t : Tree) → ((c : ℕ) → 1 ≤ many c (pages t) → s' c ≡ s c) → Holds L s t → Holds L s' t
    frame (leaf p d rs) h a = h p (omega (arith, self p)) ∙ a
    frame (node p d f) h a = (h p (omega (arith, self p)) ∙ a.0, frame_f f (λ c i. h c (omega arith)) a.1)

    pub frame_f : (f : Forest) → ((c : ℕ) → 1 ≤ many c (pages_f f) → s' c ≡ s c) → HoldsF L s f → HoldsF L s' f
    frame_f fnil h a = a
    frame_f (fcons b t f) h a =
        (frame t (λ c i. h c (omega (arith, many_append c (pages t) (pages_f f)))) a.0, frame_f f (λ c i. h c (omega (arith, many_append c (pages t) (pages_f f)))) a.1)

abbrev pub Keys : ℕ → List Rec → Type 0
Keys k rs = Each (λ r. length r.key ≡ k) rs

module _ (k R P : ℕ) where
  abbrev mutual
    pub Fits : Tree → ℕ → Type 0
    Fits (leaf p d rs) n = (n ≡ 0) × (length rs ≤ P) × Keys k rs
    Fits (node p d f) zero = ⊥
    Fits (node p d f) (suc n) = (size f ≤ R) × FitsF f n

    pub FitsF : Forest → ℕ → Type 0
    FitsF fnil n = Unit {0}
    FitsF (fcons b t f) n = (length b ≡ k) × Fits t n × FitsF f n

  pub fits_join : (n : ℕ) (f g : Forest) → FitsF f n → FitsF g n → FitsF (join_f f g) n
  fits_join n fnil g h i = i
  fits_join n (fcons b t f) g h i = (h.0, h.1, fits_join n f g h.2 i)

  pub join_fits : (n : ℕ) (f g : Forest) → FitsF (join_f f g) n → FitsF f n × FitsF g n
  join_fits n fnil g h = (tt, h)
  join_fits n (fcons b t f) g h = let r = join_fits n f g h.2 in ((h.0, h.1, r.0), r.1)

  pub entries_length : (n : ℕ) (f : Forest) → FitsF f n → length (gather words_e (ents f)) ≡ length (ents f) * (2 * k + 1)
  entries_length n f h = length_gather words_e (2 * k + 1) (ents f) (each f h)
    where
      each : (f : Forest) → FitsF f n → Each (λ e. length (words_e e) ≡ 2 * k + 1) (ents f)
      each fnil h = tt
      each (fcons b t f) h = (ent_length k (ent b (root t)) h.0, each f h.2)

pub records_length : (k : ℕ) (rs : List Rec) → Keys k rs → length (gather words_r rs) ≡ length rs * (k + 1)
records_length k rs h = length_gather words_r (k + 1) rs (each_map (λ r. length r.key ≡ k) (λ r. length (words_r r) ≡ k + 1) rs (rec_length k) h)

-- forests joined
pub size_ents : (f : Forest) → length (ents f) ≡ size f
size_ents fnil = refl
size_ents (fcons b t f) = ap suc (size_ents f)

pub size_join : (f g : Forest) → size (join_f f g) ≡ size f + size g
size_join fnil g = omega arith
size_join (fcons b t f) g = omega (arith, size_join f g)

pub ents_join : (f g : Forest) → ents (join_f f g) ≡ ents f ++ ents g
ents_join fnil g = refl
ents_join (fcons b t f) g = ap (λ l. ent b (root t) ∷ l) (ents_join f g)

pub words_join : (f g : Forest) → gather words_e (ents (join_f f g)) ≡ gather words_e (ents f) ++ gather words_e (ents g)
words_join f g = ap (gather words_e) (ents_join f g) ∙ gather_append words_e (ents f) (ents g)

pub many_join : (c : ℕ) (f g : Forest) → many c (pages_f (join_f f g)) ≡ many c (pages_f f) + many c (pages_f g)
many_join c fnil g = omega arith
many_join c (fcons b t f) g = omega (arith, many_append c (pages t) (pages_f (join_f f g)), many_append c (pages t) (pages_f f), many_join c f g)

pub size_boxes : (f : Forest) → length (boxes f) ≡ size f
size_boxes fnil = refl
size_boxes (fcons b t f) = ap suc (size_boxes f)
