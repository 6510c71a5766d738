-- Placing in place: growing from the root, then a new root where the root broke, or the first point's page where there is no root, and the
-- header last. Where a page was wanting the words are those before.
use Rattle.std.specs.Prelude.{true, false, cond, List, [], ◌∷◌, ◌++◌, ℕ, ◌+◌, ◌-◌, ◌*◌, eqb, set}
use Rattle.kdb.specs.Box.{Key, whole}
use Rattle.kdb.specs.Pages.{regions_per, points_per, words_e}
use Rattle.kdb.specs.Pool.{domains, root_at, levels_at, count_at, pages_in}
use Rattle.steps.specs.Machine.{Passed, head_in, append_in}
use Rattle.steps.specs.Claim.{claim_in}
use Rattle.steps.specs.Grow.{short, fine, broke, Grown, grow_in}

-- an entry of the whole space
abbrev pub space : ℕ → List ℕ
space k = words_e (record { box = whole k; child = 0 })

module _ (L N k : ℕ) where
  -- I6: the root became pages l and r, cut along x in domain d, under n levels with c records before
  unfoldable pub root_in : ℕ → ℕ → ℕ → ℕ → ℕ → ℕ → List ℕ → Passed
  root_in d x l r n c w =
      let wd = 2 * k + 1 in
      let top = claim_in L N 1 0 w in
      let one = append_in L wd top.words top.page (set (set (space k) (k + d) x) (2 * k) l) in
      let two = append_in L wd one top.page (set (set (space k) d x) (2 * k) r) in
      let done : Passed = record { ok = true; words = head_in two top.page (n + 1) (c + 1) } in
      cond (eqb top.page 0) (record { ok = false; words = top.words }) done

  -- what the root, page j under n levels with c records before, became
  unfoldable pub topped_in : ℕ → ℕ → ℕ → Grown → Passed
  topped_in j n c g =
      elim g.how [ short ↦ record { ok = false; words = g.words } | fine ↦ record { ok = true; words = head_in g.words j n (c + 1) } | broke d x r ↦ root_in d x j r n c g.words ]

  -- I1: the first point
  unfoldable pub first_in : Key → ℕ → List ℕ → Passed
  first_in p l w =
      let r = claim_in L N 2 0 w in
      let done : Passed = record { ok = true; words = head_in (append_in L (k + 1) r.words r.page (p ++ (l ∷ []))) r.page 1 1 } in
      cond (eqb r.page 0) (record { ok = false; words = r.words }) done

-- where a page was wanting, the words before
abbrev pub restored : List ℕ → Passed → Passed
restored w o = cond o.ok o (record { ok = false; words = w })

unfoldable pub place_in : ℕ → Key → ℕ → List ℕ → Passed
place_in L p l w =
    let k = domains w in
    let N = pages_in L w in
    let start = first_in L N k p l w in
    let grown = grow_in L N k (regions_per L k) (points_per L k) p l (levels_at w - 1) (root_at w) w in
    let grew = topped_in L N k (root_at w) (levels_at w) (count_at w) grown in
    restored w (cond (eqb (levels_at w) 0) start grew)
