-- A well-formed state: Robinson's section 2, properties 1 to 6, with document 01's limits. Every page of the tree is held against its
-- level and its own region. `WellFormed` is the statement, `well_formed` a test of it.
use Rattle.std.specs.Prelude.{Bool, true, false, ◌&&◌, List, [], ◌∷◌, ◌≡◌, ℕ, zero, suc, ◌-◌, ◌≤◌, ◌<◌, T, leb, ltb, eqb, length}
use Rattle.std.proofs.Math.Option.{none, some}
use Rattle.kdb.specs.Lists.{tally, every, many, same}
use Rattle.kdb.specs.Box.{Box, whole, within}
use Rattle.kdb.specs.Tiling.{Tiles, tiles}
use Rattle.kdb.specs.Tree.{Rec, Tree, leaf, node, Forest, fnil, fcons, State, boxes, levels, pages_of}
use Rattle.kdb.specs.Pages.{regions_per, points_per}

-- no two of the records share all keys
abbrev pub differ : List Rec → Bool
differ [] = true
differ (r ∷ rs) = eqb (tally (λ q. same r.key q.key) rs) 0 && differ rs

-- the points of a point page with region r
pub record PointPage (k P d : ℕ) (rs : List Rec) (r : Box) : Type 0 where
  pub room : length rs ≤ P
  pub domain : d < k
  pub inside : T (every (λ q. within r q.key) rs)
  pub distinct : T (differ rs)

-- the entries of a region page with region r
pub record RegionPage (k R d : ℕ) (bs : List Box) (r : Box) : Type 0 where
  pub filled : 1 ≤ length bs
  pub room : length bs ≤ R
  pub domain : d < k
  pub tiled : Tiles r bs

-- the tree's pages, n levels of region pages above the point pages, the tree's own region r
module _ (k R P : ℕ) where
  abbrev mutual
    pub Shaped : Tree → ℕ → Box → Type 0
    Shaped (leaf p d rs) n r = (n ≡ 0) × PointPage k P d rs r
    Shaped (node p d f) zero r = ⊥
    Shaped (node p d f) (suc n) r = RegionPage k R d (boxes f) r × ShapedF f n

    pub ShapedF : Forest → ℕ → Type 0
    ShapedF fnil n = Unit {0}
    ShapedF (fcons b t f) n = Shaped t n b × ShapedF f n

  abbrev pub point_page : ℕ → List Rec → Box → Bool
  point_page d rs r = leb (length rs) P && ltb d k && every (λ q. within r q.key) rs && differ rs

  abbrev pub region_page : ℕ → List Box → Box → Bool
  region_page d bs r = leb 1 (length bs) && leb (length bs) R && ltb d k && tiles r bs

  abbrev mutual
    pub shaped : Tree → ℕ → Box → Bool
    shaped (leaf p d rs) n r = eqb n 0 && point_page d rs r
    shaped (node p d f) zero r = false
    shaped (node p d f) (suc n) r = region_page d (boxes f) r && shaped_f f n

    pub shaped_f : Forest → ℕ → Bool
    shaped_f fnil n = true
    shaped_f (fcons b t f) n = shaped t n b && shaped_f f n

-- the page numbers are from 1 to N − 1, each once
pub record Numbered (N : ℕ) (ps : List ℕ) : Type 0 where
  pub inside : (c : ℕ) → 1 ≤ many c ps → (1 ≤ c) × (c < N)
  pub once : (c : ℕ) → many c ps ≤ 1

abbrev pub numbered : ℕ → List ℕ → Bool
numbered N [] = true
numbered N (c ∷ ps) = leb 1 c && ltb c N && eqb (many c ps) 0 && numbered N ps

-- no tree, or one whose own region is the whole space
abbrev pub ShapedS : ℕ → ℕ → State → Type 0
ShapedS L k none = Unit {0}
ShapedS L k (some t) = Shaped k (regions_per L k) (points_per L k) t (levels t - 1) (whole k)

abbrev pub shaped_s : ℕ → ℕ → State → Bool
shaped_s L k none = true
shaped_s L k (some t) = shaped k (regions_per L k) (points_per L k) t (levels t - 1) (whole k)

-- a state of k domains on N pages of L words
pub record WellFormed (L k N : ℕ) (s : State) : Type 0 where
  pub domains : (1 ≤ k) × (k ≤ 4)
  pub size : (2 ≤ N) × (N ≤ 512)
  pub numbered : Numbered N (pages_of s)
  pub shape : ShapedS L k s

abbrev pub well_formed : ℕ → ℕ → ℕ → State → Bool
well_formed L k N s = leb 1 k && leb k 4 && leb 2 N && leb N 512 && numbered N (pages_of s) && shaped_s L k s
