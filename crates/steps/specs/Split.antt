-- Splitting a page in place: the right page is claimed, the left page cleared, and the entries are dealt out from a copy of the page, in
-- page order; an entry that crosses has its child's page split first.
use Rattle.std.specs.Prelude.{true, false, cond, List, ℕ, zero, suc, ◌+◌, ◌*◌, leb, ltb, eqb, take, drop, get_or, set}
use Rattle.kdb.specs.Pages.{page}
use Rattle.kdb.specs.Steps.{after_forced}
use Rattle.words.specs.Words.{word}
use Rattle.steps.specs.Machine.{Passed, Claimed, fresh_in, append_in}
use Rattle.steps.specs.Claim.{claim_in}

-- L words a page, k domains, along x in domain d
module _ (L k d x : ℕ) where
  -- n records of src from word a on, to page j or page r
  unfoldable pub points_in : ℕ → List ℕ → ℕ → ℕ → ℕ → List ℕ → List ℕ
  points_in zero src a j r w = w
  points_in (suc n) src a j r w =
      let to = cond (ltb (get_or src (a + d) 0) x) j r in
      points_in n src (a + (k + 1)) j r (append_in L (k + 1) w to (take (k + 1) (drop a src)))

  -- n entries of src from word a on, to page j, page r or both; below splits a child's page
  unfoldable pub entries_in : (ℕ → List ℕ → Claimed) → ℕ → List ℕ → ℕ → ℕ → ℕ → List ℕ → Passed
  entries_in below zero src a j r w = record { ok = true; words = w }
  entries_in below (suc n) src a j r w =
      let wd = 2 * k + 1 in
      let u = take wd (drop a src) in
      let toLeft = entries_in below n src (a + wd) j r (append_in L wd w j u) in
      let toRight = entries_in below n src (a + wd) j r (append_in L wd w r u) in
      let child = below (get_or src (a + 2 * k) 0) w in
      let half = append_in L wd child.words j (set u (k + d) x) in
      let both = entries_in below n src (a + wd) j r (append_in L wd half r (set (set u d x) (2 * k) child.page)) in
      cond (leb (get_or src (a + k + d) 0) x) toLeft
      (cond (leb x (get_or src (a + d) 0)) toRight
      (cond (eqb child.page 0) (record { ok = false; words = child.words }) both))

-- on N pages
module _ (L N k d x : ℕ) where
  -- the m records of src, from word 4 on, go to page j and to a claimed page, both of domain e
  unfoldable pub part_points : List ℕ → ℕ → ℕ → ℕ → List ℕ → Claimed
  part_points src m e j w =
      let r = claim_in L N 2 e w in
      let parted : Claimed = record { page = r.page; words = points_in L k d x m src 4 j r.page (fresh_in L r.words j 2 e) } in
      cond (eqb r.page 0) r parted

  -- the page split off, unless a page was wanting on the way
  abbrev pub reported : ℕ → Passed → Claimed
  reported r o = cond o.ok (record { page = r; words = o.words }) (record { page = 0; words = o.words })

  -- the m entries of src, from word 4 on, likewise
  unfoldable pub part_regions : (ℕ → List ℕ → Claimed) → List ℕ → ℕ → ℕ → ℕ → List ℕ → Claimed
  part_regions below src m e j w =
      let r = claim_in L N 1 e w in
      let parted = reported r.page (entries_in L k d x below m src 4 j r.page (fresh_in L r.words j 1 e)) in
      cond (eqb r.page 0) r parted

  -- the forced split of page j, n levels above the point pages
  unfoldable pub split_in : ℕ → ℕ → List ℕ → Claimed
  split_in zero j w = part_points (page L w j) (word L w j 1) (after_forced k (word L w j 2)) j w
  split_in (suc n) j w = part_regions (split_in n) (page L w j) (word L w j 1) (after_forced k (word L w j 2)) j w
