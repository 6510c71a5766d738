-- The tests of the points of one page, and of its first four words.
use Rattle.std.specs.Prelude.{Bool, ◌&&◌, cond, List, ℕ, ◌+◌, ◌-◌, ◌*◌, ◌/◌, ◌≤◌, ◌<◌, leb, ltb, eqb, length, take, drop, get_or, Option, Some, None}
use Rattle.kdb.specs.Lists.{tally, every, same}
use Rattle.kdb.specs.Box.{Side, Key}
use Rattle.kdb.specs.Tree.{Rec}
use Rattle.kdb.specs.Pages.{read_recs}
use Rattle.kdb.specs.Pool.{pages_in}
use Rattle.kdb.specs.Calls.{L}
use Rattle.words.specs.declared.Kind.{Kind}
use Rattle.words.specs.Words.{all_zero, capacity_by, code_of, width_of}

-- the points that stand in words one behind the other; words behind the last whole point count for nothing
abbrev pub recs_of : ℕ → List ℕ → List Rec
recs_of k ws = read_recs k (length ws / (k + 1)) ws

-- a number in a side, and the keys in domain d of the points
abbrev pub key_inside : Side → ℕ → Bool
key_inside s x = leb s.lo x && ltb x s.hi

abbrev pub column_in : ℕ → Side → List Rec → Bool
column_in d s rs = every (λ q. key_inside s (get_or q.key d 0)) rs

-- none of the points has the key x
abbrev pub unlike : Key → List Rec → Bool
unlike x rs = eqb (tally (λ q. same x q.key) rs) 0

-- j is the number of a page behind the header
pub record PageOf (w : List ℕ) (j : ℕ) : Type 0 where
  pub some : 1 ≤ j
  pub page : j < pages_in L w

-- a page's words: the four before its entries are this kind, at most so many entries, a domain below k, zero
abbrev pub head_of : List ℕ → ℕ → ℕ → ℕ → Bool
head_of ws k kind full = eqb (get_or ws 0 0) kind && leb (get_or ws 1 0) full && ltb (get_or ws 2 0) k && eqb (get_or ws 3 0) 0

-- the words behind t words of entries are zero
abbrev pub tail_of : List ℕ → ℕ → Bool
tail_of ws t = all_zero ws (4 + t) (L - (4 + t))

-- the words of the entries, where those before and behind them are good
abbrev pub entries_in : ℕ → List ℕ → Kind → Option (List ℕ)
entries_in k ws kind =
    let t = get_or ws 1 0 * width_of kind k in
    cond (head_of ws k (code_of kind) (capacity_by kind k) && tail_of ws t) (Some (take t (drop 4 ws))) None
