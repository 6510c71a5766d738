-- The six calls: document 01, "What each call answers". Each is a function from the pool's words and the call to its outcome: the number,
-- the returned values, and every word of pool, work buffer and answer buffer afterwards. `row` is the table: all that is special to a call
-- but what it makes of the index (`makes` in History.antt).
use Rattle.std.specs.Prelude.{Bool, true, false, ◌&&◌, not, cond, List, [], ◌∷◌, ◌++◌, map, ◌≡◌, ℕ, ◌*◌, leb, ltb, eqb, length, take, drop, replicate}
use Rattle.std.proofs.Math.Option.{Option, none, some}
use Rattle.kdb.specs.Lists.{every}
use Rattle.kdb.specs.Box.{∞, Box, Key, sides}
use Rattle.kdb.specs.Tree.{Rec, State}
use Rattle.kdb.specs.Steps.{placed, removed}
use Rattle.kdb.specs.Header.{print_header}
use Rattle.kdb.specs.Pages.{regions_per, points_per}
use Rattle.kdb.specs.Pool.{domains, pages_in, good_length, good_header}
use Rattle.kdb.specs.Print.{header_of, printed, state_of, sound}
use Rattle.kdb.specs.Walk.{Spot, Tour, list_walk, End, rootless, bad, absent, here, Search, find_walk}
use Rattle.kdb.specs.declared.Refusal.{Refusal}
use Rattle.kdb.specs.declared.Refusal.TheVariants.{PoolLength, Domains, BufferLength, InfiniteKey, WindowOrder, Unsound, Present, Absent, NoFreePage}

-- the words of a page
abbrev pub L : ℕ
L = 32

pub data Call : Type 0 where
  -- K
  format : ℕ → Call
  check : Call
  -- work buffer, point, location
  place : List ℕ → List ℕ → ℕ → Call
  -- point
  remove : List ℕ → Call
  find : List ℕ → Call
  -- window, answer buffer
  list : List ℕ → List ℕ → Call

-- the buffers lent to a call; one that a call does not take has no words
pub record Buffers : Type 0 where
  pub pool : List ℕ
  pub work : List ℕ
  pub answer : List ℕ

-- those of a call that takes a pool alone, of one that takes a work buffer too, and of one that takes an answer buffer
abbrev pub alone : List ℕ → Buffers
alone w = record { pool = w; work = []; answer = [] }

abbrev pub working : List ℕ → List ℕ → Buffers
working work w = record { pool = w; work = work; answer = [] }

abbrev pub answering : List ℕ → List ℕ → Buffers
answering answer w = record { pool = w; work = []; answer = answer }

-- the numbers of the refusals
abbrev pub number_of : Refusal → ℕ
number_of PoolLength = 1
number_of Domains = 2
number_of BufferLength = 3
number_of InfiniteKey = 4
number_of WindowOrder = 5
number_of Unsound = 6
number_of Present = 7
number_of Absent = 8
number_of NoFreePage = 9

-- the number (0: done), the values returned, and the buffers afterwards
pub record Outcome : Type 0 where
  pub number : ℕ
  pub values : List ℕ
  pub after : Buffers

-- done, with the values
abbrev pub gives : List ℕ → Buffers → Outcome
gives vs b = record { number = 0; values = vs; after = b }

-- a refusal returns its number and nothing else
abbrev pub refuses : Refusal → Buffers → Outcome
refuses r b = record { number = number_of r; values = []; after = b }

-- a test, with the refusal that is given unless it holds
pub record Test : Type 0 where
  pub holds : Bool
  pub refusal : Refusal

infix 20 ◌or◌
abbrev pub ◌or◌ : Bool → Refusal → Test
t or r = record { holds = t; refusal = r }

-- the refusal, with the buffers as they were, unless the test holds
abbrev pub unless : Bool → Refusal → Buffers → Outcome → Outcome
unless true r b o = o
unless false r b o = refuses r b

-- the first test that fails gives its refusal; where all hold the outcome is o
abbrev pub judge : List Test → Buffers → Outcome → Outcome
judge [] b o = o
judge (t ∷ ts) b o = unless t.holds t.refusal b (judge ts b o)

-- every test holds
abbrev pub all_hold : List Test → Bool
all_hold ts = every (λ t. t.holds) ts

-- the tests of the arguments
abbrev pub good_domains : ℕ → Bool
good_domains k = leb 1 k && leb k 4

abbrev pub finite : List ℕ → Bool
finite xs = every (λ x. ltb x ∞) xs

abbrev pub window_of : ℕ → List ℕ → Box
window_of k v = sides (take k v) (drop k v)

abbrev pub ordered : Box → Bool
ordered v = every (λ s. leb s.lo s.hi) v

-- format writes the header of an empty index, and zeros up to the pool's end
abbrev pub formatted : List ℕ → ℕ → List ℕ
formatted w k = print_header (length w) (header_of k (pages_in L w) none)

-- place: the printed form of the state after Robinson's steps, or 9; the work buffer holds the pool as it stood before the call
abbrev pub placing : Option State → List ℕ → Outcome
placing none w = refuses NoFreePage (working w w)
placing (some s) w = gives [] (working w (printed L (domains w) (pages_in L w) s))

-- the state after the record is placed
abbrev pub stepped : List ℕ → Rec → Option State
stepped w q = placed (domains w) (regions_per L (domains w)) (points_per L (domains w)) (pages_in L w) (state_of L w) q

-- the walk to a point ends at the point's record
abbrev pub present : End → Bool
present rootless = false
present bad = false
present (absent j) = false
present (here s) = true

-- remove: the location, and the printed form of the state without the record
abbrev pub removing : End → List ℕ → List ℕ → Outcome
removing rootless w p = refuses Absent (alone w)
removing bad w p = refuses Unsound (alone w)
removing (absent j) w p = refuses Absent (alone w)
removing (here s) w p = gives (s.rec.loc ∷ []) (alone (printed L (domains w) (pages_in L w) (removed (state_of L w) p)))

-- find: the location and the pages read
abbrev pub finding : Search → Buffers → Outcome
finding g b =
    elim g.end [ rootless ↦ refuses Absent b | bad ↦ refuses Unsound b | absent j ↦ refuses Absent b | here s ↦ gives (s.rec.loc ∷ length g.read ∷ []) b ]

-- list: the total found and the pages read; the first locations fill the slots, a bad page zeroes them
abbrev pub filled : List ℕ → List Spot → List ℕ
filled answer ss = take (length answer) (map (λ s. s.rec.loc) ss) ++ drop (length ss) answer

abbrev pub listing : Tour → List ℕ → List ℕ → Outcome
listing t w answer =
    cond t.bad (refuses Unsound (answering (replicate (length answer) 0) w))
    (gives (length t.found ∷ length t.read ∷ []) (answering (filled answer t.found) w))

-- the walk of a call: none, to a point, or over a window
pub data Route : Type 0 where
  no_walk : Route
  to_point : Key → Route
  over_window : Box → Route

-- A call's row of the table; w is the pool
pub record Row : Type 0 where
  -- what it is lent
  pub lent : List ℕ → Buffers
  -- whether it looks at the header, whether what it is lent beside the pool has the right length, and its keys or window ends
  pub headed : Bool
  pub fits : List ℕ → Bool
  pub ends : List ℕ
  -- its own tests, behind those of all calls
  pub own : List ℕ → List Test
  -- its walk, and what it does once its tests hold; it may still be refused
  pub route : List ℕ → Route
  pub core : List ℕ → Outcome
  -- how many values it returns where it is done
  pub returns : ℕ

-- The table
abbrev pub row : Call → Row
row (format k) =
    record {
      lent = alone;
      headed = false;
      fits = λ w. true;
      ends = [];
      own = λ w. (good_domains k or Domains) ∷ [];
      route = λ w. no_walk;
      core = λ w. gives [] (alone (formatted w k));
      returns = 0;
    }
row check =
    record {
      lent = alone;
      headed = true;
      fits = λ w. true;
      ends = [];
      own = λ w. (sound L w or Unsound) ∷ [];
      route = λ w. no_walk;
      core = λ w. gives [] (alone w);
      returns = 0;
    }
-- once its tests hold, place may still be refused with 9
row (place work p l) =
    record {
      lent = working work;
      headed = true;
      fits = λ w. eqb (length p) (domains w) && eqb (length work) (length w);
      ends = p;
      own = λ w. (sound L w or Unsound) ∷ (not (present (find_walk L w p).end) or Present) ∷ [];
      route = λ w. no_walk;
      core = λ w. placing (stepped w (record { key = p; loc = l })) w;
      returns = 0;
    }
-- remove with 8; its walk never meets a bad page, since its pool is sound
row (remove p) =
    record {
      lent = alone;
      headed = true;
      fits = λ w. eqb (length p) (domains w);
      ends = p;
      own = λ w. (sound L w or Unsound) ∷ [];
      route = λ w. no_walk;
      core = λ w. removing (find_walk L w p).end w p;
      returns = 1;
    }
-- find with 6 or 8
row (find p) =
    record {
      lent = alone;
      headed = true;
      fits = λ w. eqb (length p) (domains w);
      ends = p;
      own = λ w. [];
      route = λ w. to_point p;
      core = λ w. finding (find_walk L w p) (alone w);
      returns = 2;
    }
-- list with 6
row (list v answer) =
    record {
      lent = answering answer;
      headed = true;
      fits = λ w. eqb (length v) (2 * domains w);
      ends = v;
      own = λ w. (ordered (window_of (domains w) v) or WindowOrder) ∷ [];
      route = λ w. over_window (window_of (domains w) v);
      core = λ w. listing (list_walk L w (window_of (domains w) v)) w answer;
      returns = 2;
    }

-- the buffers that a call is lent
abbrev pub lent : List ℕ → Call → Buffers
lent w c = (row c).lent w

-- the tests that come first in all calls that look at the header: its own, the lengths, the keys or window ends
abbrev pub head_tests : List ℕ → Bool → List ℕ → List Test
head_tests w fits ends = (good_length L w or PoolLength) ∷ (good_header L w or Unsound) ∷ (fits or BufferLength) ∷ (finite ends or InfiniteKey) ∷ []

-- the refusals of each call before its walk or its steps, in the order in which they are tested
abbrev pub tests : List ℕ → Call → List Test
tests w c = cond (row c).headed (head_tests w ((row c).fits w) (row c).ends) ((good_length L w or PoolLength) ∷ []) ++ (row c).own w

-- what a call does once its tests hold
abbrev pub core : List ℕ → Call → Outcome
core w c = (row c).core w

unfoldable pub outcome : List ℕ → Call → Outcome
outcome w c = judge (tests w c) (lent w c) (core w c)

-- every test of the call holds
abbrev pub begins : List ℕ → Call → Bool
begins w c = all_hold (tests w c)

-- the walk of a call: the pages that it reads, in order; a call refused before its walk begins reads nothing
abbrev pub read_on : List ℕ → Route → List ℕ
read_on w no_walk = []
read_on w (to_point p) = (find_walk L w p).read
read_on w (over_window v) = (list_walk L w v).read

abbrev pub walk_of : List ℕ → Call → List ℕ
walk_of w c = cond (begins w c) (read_on w ((row c).route w)) []

-- what each public function ensures: its outcome is the call's
pub record Promise (w : List ℕ) (c : Call) (o : Outcome) : Type 0 where
  pub kept : o ≡ outcome w c
