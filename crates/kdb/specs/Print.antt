-- The printed form of a state, and the state that a pool's words say. A pool is sound exactly if it is the printed form of a well-formed
-- state; `sound` tests that, and the theorem `Pool.sound_iff` ties it to the sentences of document 01.
use Rattle.std.specs.Prelude.{Bool, ◌&&◌, cond, List, [], ◌∷◌, ◌++◌, ℕ, zero, suc, ◌-◌, eqb, length}
use Rattle.std.proofs.Math.Option.{none, some}
use Rattle.kdb.specs.Lists.{gather, up_from, same}
use Rattle.kdb.specs.Tree.{Tree, leaf, node, Forest, fnil, fcons, State, root, root_of, levels_of, records_of}
use Rattle.kdb.specs.Header.{Header, print_header}
use Rattle.kdb.specs.Pages.{Ent, Page, blank, points, regions, domain, recs_in, ents_in, print_page}
use Rattle.kdb.specs.Shape.{well_formed}
use Rattle.kdb.specs.Pool.{domains, root_at, levels_at, pages_in, good_length, good_header, view}

abbrev pub ents : Forest → List Ent
ents fnil = []
ents (fcons b t f) = record { box = b; child = root t } ∷ ents f

-- the first of two that is not free
abbrev pub or_page : Page → Page → Page
or_page blank v = v
or_page (points d rs) v = points d rs
or_page (regions d es) v = regions d es

-- page c of the tree, free if the tree has none of that number
abbrev mutual
  pub page_of : Tree → ℕ → Page
  page_of (leaf p d rs) c = cond (eqb c p) (points d rs) blank
  page_of (node p d f) c = cond (eqb c p) (regions d (ents f)) (page_of_f f c)

  pub page_of_f : Forest → ℕ → Page
  page_of_f fnil c = blank
  page_of_f (fcons b t f) c = or_page (page_of t c) (page_of_f f c)

abbrev pub page_at : State → ℕ → Page
page_at none c = blank
page_at (some t) c = page_of t c

-- the header of a state of k domains on N pages
abbrev pub header_of : ℕ → ℕ → State → Header
header_of k N s = record { domains = k; pages = N; root = root_of s; levels = levels_of s; count = length (records_of s) }

abbrev pub forest : (ℕ → Tree) → List Ent → Forest
forest below [] = fnil
forest below (e ∷ es) = fcons e.box (below e.child) (forest below es)

-- L is the words of a page
module _ (L : ℕ) where
  -- the state of k domains on N pages: the header, then each page at its number
  abbrev pub printed : ℕ → ℕ → State → List ℕ
  printed k N s = print_header L (header_of k N s) ++ gather (λ c. print_page L (page_at s c)) (up_from (N - 1) 1)

  -- the tree of page j, n levels above the point pages
  abbrev pub tree_at : List ℕ → ℕ → ℕ → Tree
  tree_at w zero j = leaf j (domain (view L w j)) (recs_in (view L w j))
  tree_at w (suc n) j = node j (domain (view L w j)) (forest (tree_at w n) (ents_in (view L w j)))

  abbrev pub state_of : List ℕ → State
  state_of w = cond (eqb (levels_at w) 0) none (some (tree_at w (levels_at w - 1) (root_at w)))

  -- the state that the words say is well-formed, and the words are its printed form
  unfoldable pub sound : List ℕ → Bool
  sound w =
      good_length L w && good_header L w && well_formed L (domains w) (pages_in L w) (state_of w) && same w (printed (domains w) (pages_in L w) (state_of w))
