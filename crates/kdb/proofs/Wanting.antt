-- Placing fails for want of pages alone: `enough` says how many free pages are always enough, whatever their numbers, and with so many the
-- steps go through (`wanting`).
use mathlib.Core.Bool.{Bool, true, false}
use mathlib.Core.List.{List, [], ◌∷◌, ◌++◌}
use mathlib.Core.Option.{none, some}
use mathlib.Core.Path.{◌≡◌, ap, ◌∙◌}
use Prim.Native.Nat.{ℕ, suc, ◌+◌, ◌*◌, ◌≤◌}
use native.Mathlib.Omega.{arith}
use lib.Dec.{leb}
use lib.ListN.{length, drop}
use Rattle.kdb.specs.Box.{Box, within, right_part}
use Rattle.kdb.specs.Tree.{Rec, Tree, leaf, node, Forest, fnil, fcons, State, dom, boxes}
use Rattle.kdb.specs.Cut.{Cut, nowhere, cut, cut_points, cut_regions, Lies, left, right, across, lies}
use Rattle.kdb.specs.Steps.{after_chosen, after_forced, size, join_f, topped, placed_on}
use Rattle.kdb.specs.Pages.{regions_per, points_per}
use Rattle.kdb.proofs.Tiling.{part}
use Rattle.kdb.proofs.Split.{keep_f, if_across, need, need_f, half, half_f}
use Rattle.kdb.proofs.Grow.{Out, one, two, OutF, as_many, one_more, used, used_f, forest, entered, passed, broken, settled_leaf, settled_node, grown, grown_f, claimed, Placing, placing_grown, topped_enough, first_enough}

-- the pages of a tree
abbrev mutual
  count : Tree → ℕ
  count (leaf p e rs) = 1
  count (node p e f) = suc (count_f f)

  count_f : Forest → ℕ
  count_f fnil = 0
  count_f (fcons b t f) = count t + count_f f

count_join : (f g : Forest) → count_f (join_f f g) ≡ count_f f + count_f g
count_join fnil g = omega arith
count_join (fcons b t f) g = omega (arith, count_join f g)

across_most : (l : Lies) (n m a b : ℕ) → n ≤ a → m ≤ b → if_across l n + m ≤ a + b
across_most left n m a b h g = omega arith
across_most right n m a b h g = omega arith
across_most across n m a b h g = omega arith

keep_most : (s : Bool) (l : Lies) (b c : Box) (t u : Tree) (f g : Forest) → count u ≤ count t → count_f f ≤ count_f g → count_f (keep_f s l b c t u f) ≤ count t + count_f g
keep_most true left b c t u f g h i = omega arith
keep_most true right b c t u f g h i = omega arith
keep_most true across b c t u f g h i = omega arith
keep_most false left b c t u f g h i = omega arith
keep_most false right b c t u f g h i = omega arith
keep_most false across b c t u f g h i = omega arith

-- a split claims no more pages than there are, and a half has no more
module _ (d x : ℕ) where
  mutual
    need_most : (t : Tree) → need d x t ≤ count t
    need_most (leaf p e rs) = omega arith
    need_most (node p e f) = omega (arith, need_f_most f)

    need_f_most : (f : Forest) → need_f d x f ≤ count_f f
    need_f_most fnil = omega arith
    need_f_most (fcons b t f) = across_most (lies d x b) (need d x t) (need_f d x f) (count t) (count_f f) (need_most t) (need_f_most f)

module _ (k d x : ℕ) where
  mutual
    half_most : (t : Tree) (s : Bool) (e : ℕ) (free : List ℕ) → count (half k d x t s e free) ≤ count t
    half_most (leaf p d₀ rs) s e free = omega arith
    half_most (node p d₀ f) s e free = omega (arith, half_f_most f s (drop 1 free))

    half_f_most : (f : Forest) (s : Bool) (free : List ℕ) → count_f (half_f k d x f s free) ≤ count_f f
    half_f_most fnil s free = omega arith
    half_f_most (fcons b t f) s free =
        keep_most s (lies d x b) b (part s d x b) t (half k d x t s (after_forced k (dom t)) free) (half_f k d x f s (drop (if_across (lies d x b) (need d x t)) free)) f
        (half_most t s (after_forced k (dom t)) free) (half_f_most f s (drop (if_across (lies d x b) (need d x t)) free))

-- what a tree becomes has at most `most` pages, and `enough` pages are always enough
abbrev mutual
  most : Tree → ℕ
  most (leaf p e rs) = 2
  most (node p e f) = 2 * suc (most_f f)

  most_f : Forest → ℕ
  most_f fnil = 0
  most_f (fcons b t f) = count t + most t + most_f f

abbrev mutual
  enough : Tree → ℕ
  enough (leaf p e rs) = 1
  enough (node p e f) = enough_f f + suc (most_f f)

  enough_f : Forest → ℕ
  enough_f fnil = 0
  enough_f (fcons b t f) = enough t + enough_f f

count_most : (f : Forest) → count_f f ≤ most_f f
count_most fnil = omega arith
count_most (fcons b t f) = omega (arith, count_most f)

abbrev counted : Out → ℕ
counted (one t u) = count t
counted (two d x l r u) = count l + count r

record Modest (n m : ℕ) (o : Out) : Type 0 where
  pages : counted o ≤ n
  claims : used o ≤ m

record ModestF (n m : ℕ) (o : OutF) : Type 0 where
  pages : count_f (forest o) ≤ n
  claims : used_f o ≤ m

module _ (k R P : ℕ) where
  broken_modest : (c : Cut) (t : Tree) (u : ℕ) (free : List ℕ) (n m : ℕ) → count t ≤ n → u ≤ m → Modest (2 * n) (m + n) (broken k R P c t u free)
  broken_modest nowhere t u free n m h g = record { pages = omega arith; claims = omega arith }
  broken_modest (cut d x) t u free n m h g =
      record {
        pages = omega (arith, half_most k d x t true (after_chosen k d) (drop u free), half_most k d x t false (after_chosen k d) (drop u free));
        claims = omega (arith, need_most d x t);
      }

  leaf_modest : (p e : ℕ) (rs : List Rec) (free : List ℕ) → Modest 2 1 (settled_leaf k R P p e rs free)
  leaf_modest p e rs free = go (leb (length rs) P)
    where
      go : (b : Bool) → Modest 2 1 (elim b [ true ↦ one (leaf p e rs) 0 | false ↦ broken k R P (cut_points k e rs) (leaf p e rs) 0 free ])
      go true = record { pages = omega arith; claims = omega arith }
      go false = broken_modest (cut_points k e rs) (leaf p e rs) 0 free 1 0 (omega arith) (omega arith)

  node_modest : (p e : ℕ) (o : OutF) (free : List ℕ) (n m : ℕ) → ModestF n m o → Modest (2 * suc n) (m + suc n) (settled_node k R P p e o free)
  node_modest p e (as_many f u) free n m h = record { pages = omega (arith, h.pages); claims = omega (arith, h.claims) }
  node_modest p e (one_more f u) free n m h = go (leb (size f) R)
    where
      go : (b : Bool) → Modest (2 * suc n) (m + suc n) (elim b [ true ↦ one (node p e f) u | false ↦ broken k R P (cut_regions k e (boxes f)) (node p e f) u free ])
      go true = record { pages = omega (arith, h.pages); claims = omega (arith, h.claims) }
      go false = broken_modest (cut_regions k e (boxes f)) (node p e f) u free (suc n) m (omega (arith, h.pages)) h.claims

  entered_modest : (b : Box) (o : Out) (f : Forest) (n m : ℕ) → Modest n m o → ModestF (n + count_f f) m (entered b o f)
  entered_modest b (one t u) f n m h = record { pages = omega (arith, h.pages); claims = h.claims }
  entered_modest b (two d x l r u) f n m h = record { pages = omega (arith, h.pages, count_join f (fcons (right_part d x b) r fnil)); claims = h.claims }

  passed_modest : (b : Box) (t : Tree) (o : OutF) (n m : ℕ) → ModestF n m o → ModestF (count t + n) m (passed b t o)
  passed_modest b t (as_many f u) n m h = record { pages = omega (arith, h.pages); claims = h.claims }
  passed_modest b t (one_more f u) n m h = record { pages = omega (arith, h.pages); claims = h.claims }

  mutual
    grown_modest : (t : Tree) (q : Rec) (free : List ℕ) → Modest (most t) (enough t) (grown k R P t q free)
    grown_modest (leaf p e rs) q free = leaf_modest p e (rs ++ (q ∷ [])) free
    grown_modest (node p e f) q free = node_modest p e (grown_f k R P f q free) free (most_f f) (enough_f f) (grown_f_modest f q free)

    grown_f_modest : (f : Forest) (q : Rec) (free : List ℕ) → ModestF (most_f f) (enough_f f) (grown_f k R P f q free)
    grown_f_modest fnil q free = record { pages = omega arith; claims = omega arith }
    grown_f_modest (fcons b t f) q free =
        go (within b q.key) (entered_modest b (grown k R P t q free) f (most t) (enough t) (grown_modest t q free))
        (passed_modest b t (grown_f k R P f q free) (most_f f) (enough_f f) (grown_f_modest f q free))
      where
        go : (c : Bool) → ModestF (most t + count_f f) (enough t) (entered b (grown k R P t q free) f) → ModestF (count t + most_f f) (enough_f f) (passed b t (grown_f k R P f q free))
            → ModestF (count t + most t + most_f f) (enough t + enough_f f) (elim c [ true ↦ entered b (grown k R P t q free) f | false ↦ passed b t (grown_f k R P f q free) ])
        go true h g = record { pages = omega (arith, h.pages, count_most f); claims = omega (arith, h.claims) }
        go false h g = record { pages = omega (arith, g.pages); claims = omega (arith, g.claims) }

-- so many pages are always enough, for a new root too
abbrev pub ample : State → ℕ
ample none = 1
ample (some t) = suc (enough t)

claimed_most : (o : Out) → claimed o ≤ suc (used o)
claimed_most (one t u) = omega arith
claimed_most (two d x l r u) = omega arith

-- with ample pages free the steps go through
pub wanting : (L k N : ℕ) (s : State) (q : Rec) (free : List ℕ) → Placing L k N s q → ample s ≤ length free
    → (s' : State) × (placed_on k (regions_per L k) (points_per L k) s q free ≡ some s')
wanting L k N none q free p h = (_, first_enough q free h)
wanting L k N (some t) q free p h =
    let o = grown k (regions_per L k) (points_per L k) t q free in (
      _,
      ap (topped k) (placing_grown L k N t q free p).made
          ∙ topped_enough k o free (omega (arith, h, claimed_most o, (grown_modest k (regions_per L k) (points_per L k) t q free).claims)),
    )
