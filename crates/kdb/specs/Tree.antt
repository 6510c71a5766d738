-- Robinson's tree, carrying its page numbers: a point page is a leaf with its records, a region page a node with its entries, each a
-- region and the child below it. `dom` is the page's splitting domain. A pool has a tree, or none.
use Rattle.std.specs.Prelude.{List, [], ◌∷◌, ◌++◌, ℕ, suc}
use Rattle.std.proofs.Math.Option.{Option, none, some}
use Rattle.kdb.specs.Box.{Box, Key}

pub record Rec : Type 0 where
  pub key : Key
  pub loc : ℕ

mutual
  -- page, dom, records or entries
  pub data Tree : Type 0 where
    leaf : ℕ → ℕ → List Rec → Tree
    node : ℕ → ℕ → Forest → Tree

  pub data Forest : Type 0 where
    fnil : Forest
    fcons : Box → Tree → Forest → Forest

abbrev pub State : Type 0
State = Option Tree

abbrev pub root : Tree → ℕ
root (leaf p d rs) = p
root (node p d f) = p

abbrev pub dom : Tree → ℕ
dom (leaf p d rs) = d
dom (node p d f) = d

abbrev pub boxes : Forest → List Box
boxes fnil = []
boxes (fcons b t f) = b ∷ boxes f

-- the levels, down the first path
abbrev mutual
  pub levels : Tree → ℕ
  levels (leaf p d rs) = 1
  levels (node p d f) = suc (levels_f f)

  pub levels_f : Forest → ℕ
  levels_f fnil = 0
  levels_f (fcons b t f) = levels t

-- the page numbers, a page before those below it
abbrev mutual
  pub pages : Tree → List ℕ
  pages (leaf p d rs) = p ∷ []
  pages (node p d f) = p ∷ pages_f f

  pub pages_f : Forest → List ℕ
  pages_f fnil = []
  pages_f (fcons b t f) = pages t ++ pages_f f

abbrev mutual
  pub records : Tree → List Rec
  records (leaf p d rs) = rs
  records (node p d f) = records_f f

  pub records_f : Forest → List Rec
  records_f fnil = []
  records_f (fcons b t f) = records t ++ records_f f

abbrev pub pages_of : State → List ℕ
pages_of none = []
pages_of (some t) = pages t

abbrev pub records_of : State → List Rec
records_of none = []
records_of (some t) = records t

-- the root's number and the levels, none without a tree
abbrev pub root_of : State → ℕ
root_of none = 0
root_of (some t) = root t

abbrev pub levels_of : State → ℕ
levels_of none = 0
levels_of (some t) = levels t
