-- The parts of a split that have a function of their own, in the terms of the machine forms.
use Rattle.std.specs.Prelude.{cond, List, ℕ, ◌+◌, ◌*◌, ◌≤◌, ◌<◌, eqb, set, Result, Ok, Err}
use Rattle.kdb.specs.Calls.{L}
use Rattle.kdb.specs.declared.Form.{Form}
use Rattle.steps.specs.Machine.{Claimed, fresh_in, append_in}
use Rattle.steps.specs.Claim.{claim_in}
use Rattle.deal.specs.declared.Wanting.{Wanting}

-- the page claimed, 0 where none was free
abbrev pub claimed : Result ℕ Wanting → List ℕ → Claimed
claimed (Ok r) w = record { page = r; words = w }
claimed (Err _) w = record { page = 0; words = w }

-- a page that there is, which is not the header's
pub record PageIn (f : Form) (r : ℕ) : Type 0 where
  pub some : 1 ≤ r
  pub few : r < f.pages

-- the right page is claimed and page j cleared
unfoldable pub open_in : ℕ → ℕ → ℕ → ℕ → List ℕ → Claimed
open_in n kind e j w =
    let r = claim_in L n kind e w in
    cond (eqb r.page 0) r (record { page = r.page; words = fresh_in L r.words j kind e })

-- one half of the entry u: its word i becomes x, its child q
abbrev pub half_in : ℕ → List ℕ → ℕ → ℕ → ℕ → List ℕ
half_in k u i x q = set (set u i x) (2 * k) q

-- both halves of the entry u, to pages j and r; q is the child's right page
unfoldable pub both_in : ℕ → ℕ → ℕ → List ℕ → ℕ → ℕ → ℕ → List ℕ → List ℕ
both_in k d x u j r q w =
    let wd = 2 * k + 1 in
    append_in L wd (append_in L wd w j (set u (k + d) x)) r (set (set u d x) (2 * k) q)
