-- A well-formed state stands in a pool's words: the header says it, every page is the state's page, and the words are its printed form.
-- `Print` shows it of every printed state and `Pool` of every sound pool; the walks and the calls rest on it.
use mathlib.Core.List.{List}
use mathlib.Core.Path.{◌≡◌}
use Prim.Native.Nat.{ℕ}
use lib.ListN.{length}
use Rattle.kdb.specs.Tree.{State, root_of, levels_of, records_of}
use Rattle.kdb.specs.Shape.{WellFormed}
use Rattle.kdb.specs.Pool.{domains, root_at, levels_at, count_at, pages_in, view}
use Rattle.kdb.specs.Print.{page_at, printed}

pub record Stands (L : ℕ) (w : List ℕ) (s : State) : Type 0 where
  pub formed : WellFormed L (domains w) (pages_in L w) s
  pub root : root_at w ≡ root_of s
  pub levels : levels_at w ≡ levels_of s
  pub count : count_at w ≡ length (records_of s)
  pub views : (j : ℕ) → view L w j ≡ page_at s j
  pub prints : w ≡ printed L (domains w) (pages_in L w) s
