-- A fair way down: some entry holds the point at each region page, and each page that the placing leaves overfull offers a cut that leaves
-- both sides within the limits. `Grow` shows it of every well-formed state.
use mathlib.Core.Bool.{true, false, not}
use mathlib.Core.List.{List, [], ◌∷◌, ◌++◌}
use Prim.Native.Nat.{ℕ, ◌≤◌, ◌<◌}
use lib.Dec.{T}
use lib.ListN.{length}
use Rattle.kdb.specs.Lists.{only}
use Rattle.kdb.specs.Box.{Box, within}
use Rattle.kdb.specs.Tree.{Rec, Tree, leaf, node, Forest, fnil, fcons, boxes}
use Rattle.kdb.specs.Cut.{Cut, nowhere, cut, cut_points, cut_regions, is_left, is_right}
use Rattle.kdb.specs.Steps.{UpF, failed_f, kept, wider, size, grow_f}
use Rattle.kdb.proofs.Tiling.{parts}

-- k domains, R regions and P points a page
module _ (k R P : ℕ) where
  -- a cut of these records, of these regions: both sides are within the limit
  abbrev pub FairPoints : Cut → List Rec → Type 0
  FairPoints nowhere rs = ⊥
  FairPoints (cut d x) rs = (d < k) × (length (only (is_left d x) rs) ≤ P) × (length (only (is_right d x) rs) ≤ P)

  abbrev pub FairRegions : Cut → List Box → Type 0
  FairRegions nowhere bs = ⊥
  FairRegions (cut d x) bs = (d < k) × (length (parts true d x bs) ≤ R) × (length (parts false d x bs) ≤ R)

  -- a region page of domain e, after the placing below it
  abbrev pub FairWider : ℕ → UpF → Type 0
  FairWider e failed_f = Unit {0}
  FairWider e (kept f free) = Unit {0}
  FairWider e (wider f free) = R < size f → FairRegions (cut_regions k e (boxes f)) (boxes f)

  abbrev mutual
    pub Fair : Tree → Rec → List ℕ → Type 0
    Fair (leaf p e rs) q free = P < length (rs ++ (q ∷ [])) → FairPoints (cut_points k e (rs ++ (q ∷ []))) (rs ++ (q ∷ []))
    Fair (node p e f) q free = FairF f q free × FairWider e (grow_f k R P f q free)

    -- the first entry that holds the point
    pub FairF : Forest → Rec → List ℕ → Type 0
    FairF fnil q free = ⊥
    FairF (fcons b t f) q free = (T (within b q.key) → Fair t q free) × (T (not (within b q.key)) → FairF f q free)
