-- Growing in place: down the first entry that holds the point, to the point page, and up again as long as pages break. A page that
-- counts more than it can hold, as no sound pool has, takes nothing.
use Rattle.std.specs.Prelude.{cond, List, [], ◌∷◌, ◌++◌, map, ℕ, zero, suc, ◌+◌, ◌*◌, ltb, eqb, take, drop, get_or, set}
use Rattle.kdb.specs.Box.{Key, within}
use Rattle.kdb.specs.Pages.{read_recs, read_ents}
use Rattle.kdb.specs.Cut.{Cut, nowhere, cut, cut_points, cut_regions}
use Rattle.kdb.specs.Steps.{after_chosen}
use Rattle.words.specs.Words.{region_at, word}
use Rattle.steps.specs.Machine.{Claimed, append_in, overfull}
use Rattle.steps.specs.Split.{part_points, part_regions, split_in}

-- how a page took the point: not, for want of a page; with room; in two pages, cut along a key of a domain, the right one given
pub data How : Type 0 where
  short fine : How
  broke : ℕ → ℕ → ℕ → How

pub record Grown : Type 0 where
  pub how : How
  pub words : List ℕ

abbrev pub broke_at : ℕ → ℕ → Claimed → Grown
broke_at d x o = cond (eqb o.page 0) (record { how = short; words = o.words }) (record { how = broke d x o.page; words = o.words })

-- the place of the first of n entries from word a on whose region holds the point, or 0
unfoldable pub seek_in : ℕ → Key → ℕ → List ℕ → ℕ → ℕ
seek_in k p zero src a = 0
seek_in k p (suc n) src a = let later = seek_in k p n src (a + (2 * k + 1)) in cond (within (region_at k src a) p) a later

-- page j takes the entry u of wd words behind its m entries: with room, or, full, as the copy with one entry more is broken
unfoldable pub settle_in : ℕ → ℕ → ℕ → (List ℕ → Grown) → ℕ → List ℕ → ℕ → List ℕ → Grown
settle_in L wd most breaks m u j w =
    let roomy : Grown = record { how = fine; words = append_in L wd w j u } in
    let full = breaks (overfull L wd w j u) in
    cond (ltb m most) roomy (cond (eqb m most) full (record { how = short; words = w }))

-- L words a page, N pages, k domains, R regions and P points a page
module _ (L N k R P : ℕ) where
  -- the m records of src are cut between page j and a claimed page
  abbrev pub break_points : Cut → List ℕ → ℕ → ℕ → List ℕ → Grown
  break_points nowhere src m j w = record { how = short; words = w }
  break_points (cut d x) src m j w = broke_at d x (part_points L N k d x src m (after_chosen k d) j w)

  -- the m entries of src likewise, n levels above their children's
  abbrev pub break_regions : ℕ → Cut → List ℕ → ℕ → ℕ → List ℕ → Grown
  break_regions n nowhere src m j w = record { how = short; words = w }
  break_regions n (cut d x) src m j w = broke_at d x (part_regions L N k d x (split_in L N k d x n) src m (after_chosen k d) j w)

  -- page j, whose child in the entry at word a of the pool broke along x in domain d, with r as its right page
  unfoldable pub widen_in : ℕ → ℕ → ℕ → ℕ → ℕ → ℕ → List ℕ → Grown
  widen_in n d x r a j w =
      let wd = 2 * k + 1 in
      let m = word L w j 1 in
      let u = set (set (take wd (drop a w)) d x) (2 * k) r in
      let v = set w (a + k + d) x in
      settle_in L wd R (λ src. break_regions n (cut_regions k (word L w j 2) (map (λ e. e.box) (read_ents k (m + 1) (drop 4 src)))) src (m + 1) j v) m u j v

  abbrev pub up_in : ℕ → ℕ → ℕ → Grown → Grown
  up_in n a j g = elim g.how [ short ↦ g | fine ↦ g | broke d x r ↦ widen_in n d x r a j g.words ]

  -- page j, n levels above the point pages, takes the point p with location l
  unfoldable pub grow_in : Key → ℕ → ℕ → ℕ → List ℕ → Grown
  grow_in p l zero j w =
      let m = word L w j 1 in
      settle_in L (k + 1) P (λ src. break_points (cut_points k (word L w j 2) (read_recs k (m + 1) (drop 4 src))) src (m + 1) j w) m (p ++ (l ∷ [])) j w
  grow_in p l (suc n) j w =
      let a = seek_in k p (word L w j 1) w (L * j + 4) in
      let lost : Grown = record { how = short; words = w } in
      let found = up_in n a j (grow_in p l n (get_or w (a + 2 * k) 0) w) in
      cond (eqb a 0) lost found
