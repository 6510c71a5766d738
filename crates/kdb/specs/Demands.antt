-- The three demands as statements, each with a field for each thing it says. `outcome` in Calls.antt is a function of every input and fixes
-- every word; here stands what its numbers, its buffers and its walks mean, in document 01's words. Proofs, in proofs/: Refusals (demand 1,
-- over Bad), Demands (2 and 3), Ranks (where pages are cut) and Local.
use Rattle.std.specs.Prelude.{Bool, true, false, ◌&&◌, not, List, [], ◌∷◌, ◌++◌, map, ◌↔◌, ◌≡◌, ℕ, ◌+◌, ◌*◌, ◌-◌, ◌/◌, ◌%◌, ◌≤◌, ◌<◌, T, ltb, eqb, length, take, drop, get_or, replicate}
use Rattle.std.proofs.Math.Option.{Option, none, some}
use Rattle.kdb.specs.Lists.{only, tally, many, up_from, same, last_or}
use Rattle.kdb.specs.Box.{Box, Key, within, in_window, meets, key_at, lower_at}
use Rattle.kdb.specs.Tree.{Rec, State, records_of, pages_of}
use Rattle.kdb.specs.Cut.{cut, cut_points, cut_regions}
use Rattle.kdb.specs.Steps.{free_of, placed_on, removed}
use Rattle.kdb.specs.Pages.{page, regions_per, points_per, recs_in}
use Rattle.kdb.specs.Pool.{domains, levels_at, pages_in, GoodLength, GoodHeader, view, numbers, Sound, own_region}
use Rattle.kdb.specs.Print.{printed, state_of}
use Rattle.kdb.specs.Walk.{list_walk}
use Rattle.kdb.specs.Bad.{up_to_bad, find_trail, list_trail, find_stops, list_stops, list_records}
use Rattle.kdb.specs.History.{Effect, unchanged, emptied, added, dropped, makes}
use Rattle.kdb.specs.Calls.{L, Call, format, check, place, remove, find, list, Outcome, finite, window_of, ordered, stepped, Route, no_walk, to_point, over_window, row, outcome, begins, walk_of, Promise}

-- the same records, each as often: equal counts for every test
abbrev pub SameRecords : List Rec → List Rec → Type 0
SameRecords a b = (g : Rec → Bool) → tally g a ≡ tally g b

-- the record has this key
abbrev pub keyed : Key → Rec → Bool
keyed p r = same p r.key

-- those of the records that lie in the window
abbrev pub inside : ℕ → List ℕ → List Rec → List Rec
inside k v rs = only (λ r. in_window (window_of k v) r.key) rs

-- a window that list takes, and a point that find takes
abbrev pub good_window : ℕ → List ℕ → Bool
good_window k v = eqb (length v) (2 * k) && finite v && ordered (window_of k v)

abbrev pub good_point : ℕ → List ℕ → Bool
good_point k p = eqb (length p) k && finite p

-- the records that list's walk finds, in walk order
abbrev pub found_by : List ℕ → List ℕ → List Rec
found_by w v = map (λ x. x.rec) (list_walk L w (window_of (domains w) v)).found

-- o, the outcome of a list on pool w, tells exactly those of the records rs that lie in the window, edges counted, each once
pub record ListsExactly (w : List ℕ) (rs : List Rec) (v slots : List ℕ) (o : Outcome) : Type 0 where
  pub done : o.number ≡ 0
  pub exact : SameRecords (found_by w v) (inside (domains w) v rs)
  -- in the order of the tree: page order, children before the next entry
  pub order : found_by w v ≡ inside (domains w) v (records_of (state_of L w))
  pub total : get_or o.values 0 0 ≡ length (inside (domains w) v rs)
  -- with slots enough the first take the locations in walk order and later slots are unchanged; with too few all take the first locations
  pub enough : length (found_by w v) ≤ length slots → o.after.answer ≡ map (λ r. r.loc) (found_by w v) ++ drop (length (found_by w v)) slots
  pub few : length slots ≤ length (found_by w v) → o.after.answer ≡ take (length slots) (map (λ r. r.loc) (found_by w v))

-- o, the outcome of a find, is 0 with the location of the record of rs that has the point's keys, or 8 if there is none
pub record FindsExactly (rs : List Rec) (p : List ℕ) (o : Outcome) : Type 0 where
  pub here : (l : ℕ) → 1 ≤ tally (λ r. same p r.key && eqb l r.loc) rs → (o.number ≡ 0) × (get_or o.values 0 0 ≡ l)
  pub absent : tally (keyed p) rs ≡ 0 → o.number ≡ 8

-- what a call is given beside the pool: the domains of a new index, nothing, a point, a point and a work buffer, a window
pub data Given : Type 0 where
  new_domains nothing : Given
  a_point a_window : List ℕ → Given
  a_point_and_work : List ℕ → List ℕ → Given

abbrev pub given_to : Call → Given
given_to (format k) = new_domains
given_to check = nothing
given_to (place work p l) = a_point_and_work p work
given_to (remove p) = a_point p
given_to (find p) = a_point p
given_to (list v answer) = a_window v

-- all calls but format look at the header
abbrev pub headed : Given → Bool
headed new_domains = false
headed nothing = true
headed (a_point p) = true
headed (a_window v) = true
headed (a_point_and_work p work) = true

-- the lengths are right: a point K words, a window 2K, the work buffer as many as the pool
abbrev pub fitting : List ℕ → Given → Bool
fitting w new_domains = true
fitting w nothing = true
fitting w (a_point p) = eqb (length p) (domains w)
fitting w (a_window v) = eqb (length v) (2 * domains w)
fitting w (a_point_and_work p work) = eqb (length p) (domains w) && eqb (length work) (length w)

-- the keys or window ends
abbrev pub ends_in : Given → List ℕ
ends_in new_domains = []
ends_in nothing = []
ends_in (a_point p) = p
ends_in (a_window v) = v
ends_in (a_point_and_work p work) = p

-- length and header of the pool are right: neither 1 nor the header's 6
pub record Headed (w : List ℕ) : Type 0 where
  pub long : GoodLength L w
  pub header : GoodHeader L w

-- and so are the lengths of what the call is lent, and its keys: nor 3, nor 4
pub record Taken (w : List ℕ) (c : Call) : Type 0 where
  pub headed : Headed w
  pub fits : T (fitting w (given_to c))
  pub ends : T (finite (ends_in (given_to c)))

-- a sound pool takes a new point
pub record New (w work p : List ℕ) : Type 0 where
  pub sound : Sound L w
  pub point : T (good_point (domains w) p)
  pub long : length work ≡ length w
  pub absent : tally (keyed p) (records_of (state_of L w)) ≡ 0

-- the records of the point page in which find's walk ended: the last page on its list
abbrev pub last_records : List ℕ → List ℕ → List Rec
last_records w p = recs_in (view L w (last_or 0 (walk_of w (find p))))

-- slots after a list of these locations: the first take them in order, later ones are unchanged
abbrev pub slotted : List ℕ → List ℕ → List ℕ
slotted slots ls = take (length slots) ls ++ drop (length ls) slots

-- Demand 1: each refusal exactly in its case, where no earlier one is given; else the call is done
pub record Demand1 (w : List ℕ) : Type 0 where
  pub one : (c : Call) → ((outcome w c).number ≡ 1) ↔ (GoodLength L w → ⊥)
  pub two : (k : ℕ) → GoodLength L w → ((outcome w (format k)).number ≡ 2) ↔ ((1 ≤ k) × (k ≤ 4) → ⊥)
  pub formats : (k : ℕ) → GoodLength L w → 1 ≤ k → k ≤ 4 → (outcome w (format k)).number ≡ 0
  pub header : (c : Call) → T (headed (given_to c)) → GoodLength L w → (GoodHeader L w → ⊥) → (outcome w c).number ≡ 6
  pub three : (c : Call) → T (headed (given_to c)) → Headed w → ((outcome w c).number ≡ 3) ↔ (T (fitting w (given_to c)) → ⊥)
  pub four : (c : Call) → T (headed (given_to c)) → Headed w → T (fitting w (given_to c)) → ((outcome w c).number ≡ 4) ↔ (T (finite (ends_in (given_to c))) → ⊥)
  pub five : (v answer : List ℕ) → Taken w (list v answer) → ((outcome w (list v answer)).number ≡ 5) ↔ (T (ordered (window_of (domains w) v)) → ⊥)
  -- 6 exactly if the pool is not sound
  pub six : GoodLength L w → ((outcome w check).number ≡ 6) ↔ (Sound L w → ⊥)
  pub checks : Sound L w → (outcome w check).number ≡ 0
  pub six_place : (work p : List ℕ) (l : ℕ) → Taken w (place work p l) → ((outcome w (place work p l)).number ≡ 6) ↔ (Sound L w → ⊥)
  pub six_remove : (p : List ℕ) → Taken w (remove p) → ((outcome w (remove p)).number ≡ 6) ↔ (Sound L w → ⊥)
  -- on a sound pool 7 exactly if a record has the point's keys, remove's 8 exactly if none has; remove returns the record's location
  pub seven : (work p : List ℕ) (l : ℕ) → Sound L w → T (good_point (domains w) p) → length work ≡ length w
      → ((outcome w (place work p l)).number ≡ 7) ↔ (1 ≤ tally (keyed p) (records_of (state_of L w)))
  pub eight : (p : List ℕ) → Sound L w → T (good_point (domains w) p) → ((outcome w (remove p)).number ≡ 8) ↔ (tally (keyed p) (records_of (state_of L w)) ≡ 0)
  pub gone : (p : List ℕ) (l : ℕ) → Sound L w → T (good_point (domains w) p) → 1 ≤ tally (λ r. same p r.key && eqb l r.loc) (records_of (state_of L w))
      → ((outcome w (remove p)).number ≡ 0) × ((outcome w (remove p)).values ≡ l ∷ [])
  -- a new point is placed, or gets 9 exactly if the steps lack a page
  pub nine : (work p : List ℕ) (l : ℕ) → New w work p → ((outcome w (place work p l)).number ≡ 9) ↔ (stepped w (record { key = p; loc = l }) ≡ none)
  pub places : (work p : List ℕ) (l : ℕ) → New w work p → ((outcome w (place work p l)).number ≡ 9 → ⊥) → (outcome w (place work p l)).number ≡ 0
  -- and they lack nothing else: with some pages more they go through
  pub wanting : (work p : List ℕ) (l : ℕ) → New w work p
      → (m : ℕ) × (s : State) × (placed_on (domains w) (regions_per L (domains w)) (points_per L (domains w)) (state_of L w) (record { key = p; loc = l })
      (free_of (pages_in L w) (pages_of (state_of L w)) ++ up_from m (pages_in L w)) ≡ some s)
  -- find's own 6 exactly if its walk meets a bad page; else 8 exactly if no record of the last page read has the point's keys, and 0 with
  -- the location of the first that has them
  pub six_find : (p : List ℕ) → Taken w (find p) → ((outcome w (find p)).number ≡ 6) ↔ T (find_stops L w p)
  pub eight_find : (p : List ℕ) → Taken w (find p) → ((outcome w (find p)).number ≡ 8) ↔ (T (not (find_stops L w p)) × (tally (keyed p) (last_records w p) ≡ 0))
  pub finds : (p : List ℕ) → Taken w (find p) → ((outcome w (find p)).number ≡ 0) ↔ (T (not (find_stops L w p)) × (1 ≤ tally (keyed p) (last_records w p)))
  pub located : (p : List ℕ) → (outcome w (find p)).number ≡ 0
      → (outcome w (find p)).values ≡ map (λ r. r.loc) (take 1 (only (keyed p) (last_records w p))) ++ (length (walk_of w (find p)) ∷ [])
  -- list's own 6 exactly if its walk meets a bad page or its bound; else 0 with the records that the window holds, page by page
  pub six_list : (v answer : List ℕ) → Taken w (list v answer) → T (ordered (window_of (domains w) v))
      → ((outcome w (list v answer)).number ≡ 6) ↔ T (list_stops L w (window_of (domains w) v))
  pub lists : (v answer : List ℕ) → Taken w (list v answer) → T (ordered (window_of (domains w) v))
      → ((outcome w (list v answer)).number ≡ 0) ↔ T (not (list_stops L w (window_of (domains w) v)))
  pub listed : (v answer : List ℕ) → (outcome w (list v answer)).number ≡ 0
      → ((outcome w (list v answer)).values ≡ length (list_records L w (window_of (domains w) v)) ∷ length (list_trail L w (window_of (domains w) v)) ∷ [])
      × ((outcome w (list v answer)).after.answer ≡ slotted answer (map (λ r. r.loc) (list_records L w (window_of (domains w) v))))
  -- a refusal returns its number and nothing else
  pub alone : (c : Call) → ((outcome w c).number ≡ 0 → ⊥) → (outcome w c).values ≡ []

-- what an accepted format leaves: K and N in words 0 and 1, and zeros
pub record Formatted (w : List ℕ) (k : ℕ) (v : List ℕ) : Type 0 where
  pub long : length v ≡ length w
  pub domains : get_or v 0 0 ≡ k
  pub pages : L * get_or v 1 0 ≡ length w
  pub zeros : (i : ℕ) → 2 ≤ i → get_or v i 0 ≡ 0

-- the same K, the same N, the same length
pub record SameSize (w v : List ℕ) : Type 0 where
  pub long : length v ≡ length w
  pub domains : get_or v 0 0 ≡ get_or w 0 0
  pub pages : get_or v 1 0 ≡ get_or w 1 0

-- What a call leaves in the buffers: an accepted format the empty index of its K and of as many pages as the pool has, and other calls keep
-- K, N and length; the pool is unchanged after every refusal; after 0 and 9 place's work buffer is the pool before the call, after other
-- refusals it is unchanged; where list's walk meets a bad page every slot is 0, after other refusals the slots are unchanged
pub record Leaves (w : List ℕ) : Type 0 where
  pub formats : (k : ℕ) → (outcome w (format k)).number ≡ 0 → Formatted w k (outcome w (format k)).after.pool
  pub sizes : (c : Call) → T (headed (given_to c)) → SameSize w (outcome w c).after.pool
  pub pool : (c : Call) → ((outcome w c).number ≡ 0 → ⊥) → (outcome w c).after.pool ≡ w
  pub done : (work p : List ℕ) (l : ℕ) → (outcome w (place work p l)).number ≡ 0 → (outcome w (place work p l)).after.work ≡ w
  pub short : (work p : List ℕ) (l : ℕ) → (outcome w (place work p l)).number ≡ 9 → (outcome w (place work p l)).after.work ≡ w
  pub work : (work p : List ℕ) (l : ℕ) → ((outcome w (place work p l)).number ≡ 0 → ⊥) → ((outcome w (place work p l)).number ≡ 9 → ⊥)
      → (outcome w (place work p l)).after.work ≡ work
  pub early : (v answer : List ℕ) → begins w (list v answer) ≡ false → (outcome w (list v answer)).after.answer ≡ answer
  pub bad : (v answer : List ℕ) → T (begins w (list v answer)) → ((outcome w (list v answer)).number ≡ 0 → ⊥)
      → (outcome w (list v answer)).after.answer ≡ replicate (length answer) 0

-- what an accepted call makes of pool w: a format leaves an empty index, place and remove take the state to that of Robinson's step and the
-- pool to its printed form, the others change nothing
abbrev pub Moves : List ℕ → Effect → List ℕ → Type 0
Moves w unchanged v = v ≡ w
Moves w (emptied k) v = Formatted w k v × (state_of L v ≡ none)
Moves w (added q) v = (s : State) × (stepped w q ≡ some s) × (v ≡ printed L (domains w) (pages_in L w) s) × (state_of L v ≡ s)
Moves w (dropped p) v = (v ≡ printed L (domains w) (pages_in L w) (removed (state_of L w) p)) × (state_of L v ≡ removed (state_of L w) p)

pub record ByTheSteps (w : List ℕ) (c : Call) (o : Outcome) : Type 0 where
  pub done : o.number ≡ 0 → Moves w (makes c) o.after.pool
  pub refused : (o.number ≡ 0 → ⊥) → o.after.pool ≡ w

-- the pool before, the calls, their outcomes, the pool after: each call is by the steps
pub data Built : List ℕ → List Call → List Outcome → List ℕ → Type 0 where
  unbuilt : {w : List ℕ} → Built w [] [] w
  onto : {w v : List ℕ} {c : Call} {cs : List Call} {o : Outcome} {os : List Outcome} → ByTheSteps w c o → Built o.after.pool cs os v → Built w (c ∷ cs) (o ∷ os) v

-- Demand 2, of calls cs on pool w with outcomes os that leave pool v: it is built by Robinson's steps and is a K-D-B-tree by his section 2;
-- rs, the records live by the calls and what they answered, are those in it, each once; and a list or a find that keeps its promise tells
-- exactly them
pub record Demand2 (w : List ℕ) (cs : List Call) (os : List Outcome) (v : List ℕ) (rs : List Rec) : Type 0 where
  pub built : Built w cs os v
  pub sound : Sound L v
  pub contents : SameRecords (records_of (state_of L v)) rs
  pub once : (p : Key) → tally (keyed p) rs ≤ 1
  pub lists : (win slots : List ℕ) (o : Outcome) → T (good_window (domains v) win) → Promise v (list win slots) o → ListsExactly v rs win slots o
  pub finds : (p : List ℕ) (o : Outcome) → T (good_point (domains v) p) → Promise v (find p) o → FindsExactly rs p o

-- x has rank r among the numbers, counted from 0: no more than r are smaller, and those equal to it fill the place
pub record Ranks (l : List ℕ) (r x : ℕ) : Type 0 where
  pub smaller : tally (λ a. ltb a x) l ≤ r
  pub equal : r < tally (λ a. ltb a x) l + many x l

-- a cut by counting: the key of rank n div 2 or, where none is smaller than that, the next greater
pub record CutsAt (l : List ℕ) (x : ℕ) : Type 0 where
  pub ranked : ℕ
  pub middle : Ranks l (length l / 2) ranked
  pub taken : 1 ≤ tally (λ a. ltb a ranked) l → x ≡ ranked
  pub next : tally (λ a. ltb a ranked) l ≡ 0 → Ranks l (many ranked l) x

-- no cut: all are one number
abbrev pub Alike : List ℕ → Type 0
Alike l = (s : ℕ) × (many s l ≡ length l)

-- the cut of an overfull page of domain e: of the domains from e on, cyclically, the first whose keys differ, and its cut
pub record CutFor (k e : ℕ) (keys : ℕ → List ℕ) (d x : ℕ) : Type 0 where
  pub steps : ℕ
  pub few : steps < k
  pub domain : d ≡ (e + steps) % k
  pub cuts : CutsAt (keys d) x
  pub before : (i : ℕ) → i < steps → Alike (keys ((e + i) % k))

-- where pages are cut: a point page by its keys, a region page by its entries' lower ends
pub record ByTheCuts (k e : ℕ) : Type 0 where
  pub points : (rs : List Rec) (d x : ℕ) → cut_points k e rs ≡ cut d x → CutFor k e (λ c. map (λ r. key_at c r.key) rs) d x
  pub regions : (bs : List Box) (d x : ℕ) → cut_regions k e bs ≡ cut d x → CutFor k e (λ c. map (lower_at c) bs) d x

-- the region, where there is one, shares a point with the window: by a point, and as a test
abbrev pub Shares : Box → Option Box → Type 0
Shares v own = (r : Box) × (own ≡ some r) × ((p : Key) × T (within r p) × T (in_window v p))

abbrev pub met : Box → Option Box → Bool
met v none = false
met v (some r) = meets r v

-- Demand 3, on a sound pool: the walk reads exactly the pages whose own region shares a point with the window, each once, and the count
-- returned is their number; a window of one point, and a find that succeeds, read one page a level
pub record Demand3 (w : List ℕ) : Type 0 where
  pub reads : (v slots : List ℕ) → T (good_window (domains w) v) → (j : ℕ)
      → (1 ≤ many j (walk_of w (list v slots))) ↔ Shares (window_of (domains w) v) (own_region L w j)
  pub once : (v slots : List ℕ) → T (good_window (domains w) v) → (j : ℕ) → many j (walk_of w (list v slots)) ≤ 1
  pub count : (v slots : List ℕ) → T (good_window (domains w) v)
      → get_or (outcome w (list v slots)).values 1 0 ≡ tally (λ j. met (window_of (domains w) v) (own_region L w j)) (numbers L w)
  pub point : (p slots : List ℕ) → T (good_point (domains w) p) → get_or (outcome w (list (p ++ p) slots)).values 1 0 ≡ levels_at w
  pub levelled : (p : List ℕ) → (outcome w (find p)).number ≡ 0 → get_or (outcome w (find p)).values 1 0 ≡ levels_at w
  -- find's walk, answered or refused, is that of the window of its point
  pub path : (p slots : List ℕ) → T (good_point (domains w) p) → walk_of w (find p) ≡ walk_of w (list (p ++ p) slots)

-- Demand 3, on any words: no walk is longer than N − 1, refused walks included, its numbers are those of pages, a call refused before its
-- walk begins reads nothing, another reads the pages of its trail up to the first bad one, list no more than N − 1; a find that is not
-- refused reads one page a level, and the count returned is the walk's length
pub record Bounded (w : List ℕ) : Type 0 where
  pub most : (c : Call) → length (walk_of w c) ≤ pages_in L w - 1
  pub pages : (c : Call) (j : ℕ) → 1 ≤ many j (walk_of w c) → (1 ≤ j) × (j < pages_in L w)
  pub silent : (c : Call) → begins w c ≡ false → walk_of w c ≡ []
  pub levelled : (p : List ℕ) → T (begins w (find p)) → ((outcome w (find p)).number ≡ 6 → ⊥) → length (walk_of w (find p)) ≡ levels_at w
  pub finds : (p : List ℕ) → T (begins w (find p)) → walk_of w (find p) ≡ up_to_bad L w (find_trail L w p)
  pub lists : (v slots : List ℕ) → T (begins w (list v slots)) → walk_of w (list v slots) ≡ take (pages_in L w - 1) (up_to_bad L w (list_trail L w (window_of (domains w) v)))
  pub found : (p : List ℕ) → (outcome w (find p)).number ≡ 0 → get_or (outcome w (find p)).values 1 0 ≡ length (walk_of w (find p))
  pub listed : (v slots : List ℕ) → (outcome w (list v slots)).number ≡ 0 → get_or (outcome w (list v slots)).values 1 0 ≡ length (walk_of w (list v slots))

-- two pools of one length, with the same header and the same pages of a list
pub record Agree (M : ℕ) (w w' : List ℕ) (read : List ℕ) : Type 0 where
  pub long : length w' ≡ length w
  pub header : page M w' 0 ≡ page M w 0
  pub pages : (j : ℕ) → 1 ≤ many j read → page M w' j ≡ page M w j

-- the same number, the same values, the same answer buffer
pub record Told (o o' : Outcome) : Type 0 where
  pub number : o'.number ≡ o.number
  pub values : o'.values ≡ o.values
  pub answer : o'.after.answer ≡ o.after.answer

-- there is a walk
abbrev pub walks : Route → Bool
walks no_walk = false
walks (to_point p) = true
walks (over_window v) = true

-- Locality: find and list depend on nothing but length, header and the pages on the list, refused calls included
abbrev pub Local : List ℕ → List ℕ → Type 0
Local w w' = (c : Call) → T (walks ((row c).route w)) → Agree L w w' (walk_of w c) → (walk_of w' c ≡ walk_of w c) × Told (outcome w c) (outcome w' c)
