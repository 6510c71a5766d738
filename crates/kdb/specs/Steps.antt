-- Placing and removing on the tree: Robinson's I1 to I6 and S1 to S3 with document 01's choices. `free` is always the list of the free
-- page numbers, lowest first; claiming a page takes its head, and a step for which none is left fails.
use Rattle.std.specs.Prelude.{true, false, List, [], ◌∷◌, ◌++◌, ℕ, suc, ◌+◌, ◌-◌, ◌%◌, leb, eqb, length}
use Rattle.std.proofs.Math.Option.{Option, none, some}
use Rattle.kdb.specs.Lists.{only, many, up_from, same, and_then}
use Rattle.kdb.specs.Box.{Box, Key, whole, within, left_part, right_part}
use Rattle.kdb.specs.Tree.{Rec, Tree, leaf, node, Forest, fnil, fcons, State, dom, boxes, pages_of}
use Rattle.kdb.specs.Cut.{Cut, nowhere, cut, cut_points, cut_regions, Lies, left, right, across, lies, is_left, is_right}

-- the pages from 1 to N − 1 that are not among these
abbrev pub free_of : ℕ → List ℕ → List ℕ
free_of N used = only (λ c. eqb (many c used) 0) (up_from (N - 1) 1)

-- the splitting domain of both pages after a chosen split along domain d, and after a forced split of a page of domain e
abbrev pub after_chosen : ℕ → ℕ → ℕ
after_chosen k d = (d + 1) % k

abbrev pub after_forced : ℕ → ℕ → ℕ
after_forced k e = e

-- the left page, the right page, and the pages still free
pub record Two : Type 0 where
  pub lt : Tree
  pub rt : Tree
  pub free : List ℕ

pub record TwoF : Type 0 where
  pub lt : Forest
  pub rt : Forest
  pub free : List ℕ

-- S1 to S3, in k domains, along x in domain d
module _ (k d x : ℕ) where
  -- an entry goes left, or right, or its region and its page are split and each half takes its side
  abbrev pub deal : Lies → Box → Tree → Option Two → (List ℕ → Option TwoF) → List ℕ → Option TwoF
  deal left b t halves rest free = and_then (rest free) (λ r. some (record { lt = fcons b t r.lt; rt = r.rt; free = r.free }))
  deal right b t halves rest free = and_then (rest free) (λ r. some (record { lt = r.lt; rt = fcons b t r.rt; free = r.free }))
  deal across b t halves rest free =
      and_then halves (λ h. and_then (rest h.free) (λ r.
      some (record { lt = fcons (left_part d x b) h.lt r.lt; rt = fcons (right_part d x b) h.rt r.rt; free = r.free })))

  -- the left page keeps the number, the right page is claimed first; both get domain e
  abbrev mutual
    pub split : Tree → ℕ → List ℕ → Option Two
    split (leaf p d₀ rs) e [] = none
    split (leaf p d₀ rs) e (q ∷ free) = some (record { lt = leaf p e (only (is_left d x) rs); rt = leaf q e (only (is_right d x) rs); free = free })
    split (node p d₀ f) e [] = none
    split (node p d₀ f) e (q ∷ free) = and_then (split_f f free) (λ r. some (record { lt = node p e r.lt; rt = node q e r.rt; free = r.free }))

    -- the entries in page order, each to its end
    pub split_f : Forest → List ℕ → Option TwoF
    split_f fnil free = some (record { lt = fnil; rt = fnil; free = free })
    split_f (fcons b t f) free = deal (lies d x b) b t (split t (after_forced k (dom t)) free) (split_f f) free

-- what a page becomes: nothing, where no page is free (on a well-formed state never for another reason: no cut, no entry that holds the
-- point); one page; two pages, cut along a key of a domain
pub data Up : Type 0 where
  failed : Up
  fits : Tree → List ℕ → Up
  parts : ℕ → ℕ → Two → Up

-- what a region page's entries become: nothing; as many; one more
pub data UpF : Type 0 where
  failed_f : UpF
  kept : Forest → List ℕ → UpF
  wider : Forest → List ℕ → UpF

abbrev pub size : Forest → ℕ
size fnil = 0
size (fcons b t f) = suc (size f)

abbrev pub join_f : Forest → Forest → Forest
join_f fnil g = g
join_f (fcons b t f) g = fcons b t (join_f f g)

-- a page that was split, unless a page was wanting
abbrev pub parted : ℕ → ℕ → Option Two → Up
parted d x none = failed
parted d x (some h) = parts d x h

-- I5: the left entry takes the old place, the right entry goes last
abbrev pub enter : Box → Up → Forest → UpF
enter b failed f = failed_f
enter b (fits t free) f = kept (fcons b t f) free
enter b (parts d x h) f = wider (fcons (left_part d x b) h.lt (join_f f (fcons (right_part d x b) h.rt fnil))) h.free

-- an entry that the point passed by stays before what the others become
abbrev pub behind : Box → Tree → UpF → UpF
behind b t failed_f = failed_f
behind b t (kept f free) = kept (fcons b t f) free
behind b t (wider f free) = wider (fcons b t f) free

-- k domains, R regions and P points a page
module _ (k R P : ℕ) where
  -- I4: an overfull page is split along its cut
  abbrev pub chosen : Cut → Tree → List ℕ → Up
  chosen nowhere t free = failed
  chosen (cut d x) t free = parted d x (split k d x t (after_chosen k d) free)

  abbrev pub settle_leaf : ℕ → ℕ → List Rec → List ℕ → Up
  settle_leaf p e rs free = elim (leb (length rs) P) [ true ↦ fits (leaf p e rs) free | false ↦ chosen (cut_points k e rs) (leaf p e rs) free ]

  abbrev pub settle_node : ℕ → ℕ → UpF → Up
  settle_node p e failed_f = failed
  settle_node p e (kept f free) = fits (node p e f) free
  settle_node p e (wider f free) = elim (leb (size f) R) [ true ↦ fits (node p e f) free | false ↦ chosen (cut_regions k e (boxes f)) (node p e f) free ]

  -- I2 to I5: down the first entry that holds the point, to the point page, where the record goes last; and up again
  abbrev mutual
    pub grow : Tree → Rec → List ℕ → Up
    grow (leaf p e rs) q free = settle_leaf p e (rs ++ (q ∷ [])) free
    grow (node p e f) q free = settle_node p e (grow_f f q free)

    pub grow_f : Forest → Rec → List ℕ → UpF
    grow_f fnil q free = failed_f
    grow_f (fcons b t f) q free = elim (within b q.key) [ true ↦ enter b (grow t q free) f | false ↦ behind b t (grow_f f q free) ]

-- I6: a new root is claimed last, has domain 0, and lists left, then right
abbrev pub new_root : ℕ → ℕ → ℕ → Two → List ℕ → Option State
new_root k d x h [] = none
new_root k d x h (r ∷ free) = some (some (node r 0 (fcons (left_part d x (whole k)) h.lt (fcons (right_part d x (whole k)) h.rt fnil))))

-- what the root became: wanting a page, one page, or two under a new root
abbrev pub topped : ℕ → Up → Option State
topped k failed = none
topped k (fits t free) = some (some t)
topped k (parts d x h) = new_root k d x h h.free

-- I1: the first point claims a point page of domain 0
abbrev pub first : Rec → List ℕ → Option State
first q [] = none
first q (r ∷ free) = some (some (leaf r 0 (q ∷ [])))

-- the state after a record is placed with these pages free; none where a page is wanting, on a well-formed state exactly then
abbrev pub placed_on : ℕ → ℕ → ℕ → State → Rec → List ℕ → Option State
placed_on k R P none q free = first q free
placed_on k R P (some t) q free = topped k (grow k R P t q free)

-- with the free ones of N pages
abbrev pub placed : ℕ → ℕ → ℕ → ℕ → State → Rec → Option State
placed k R P N s q = placed_on k R P s q (free_of N (pages_of s))

-- removing: down the first entry that holds the point, to the point page, where the first record with those keys goes
abbrev pub without : Key → List Rec → List Rec
without p [] = []
without p (r ∷ rs) = elim (same p r.key) [ true ↦ rs | false ↦ r ∷ without p rs ]

abbrev mutual
  pub remove : Tree → Key → Tree
  remove (leaf q e rs) p = leaf q e (without p rs)
  remove (node q e f) p = node q e (remove_f f p)

  pub remove_f : Forest → Key → Forest
  remove_f fnil p = fnil
  remove_f (fcons b t f) p = elim (within b p) [ true ↦ fcons b (remove t p) f | false ↦ fcons b t (remove_f f p) ]

abbrev pub removed : State → Key → State
removed none p = none
removed (some t) p = some (remove t p)
