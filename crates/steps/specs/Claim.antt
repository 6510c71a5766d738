-- Claiming a page: document 01, "The right page is the lowest-numbered free page"; a new root and the first point page likewise.
use Rattle.std.specs.Prelude.{cond, List, ℕ, eqb}
use Rattle.words.specs.Words.{lowest}
use Rattle.steps.specs.Machine.{Claimed, fresh_in}

-- L is the words of a page, N the pages
module _ (L N : ℕ) where
  -- the lowest free page becomes a page of that kind and splitting domain, with no entry
  unfoldable pub claim_in : ℕ → ℕ → List ℕ → Claimed
  claim_in kind e w =
      let c = lowest L N w in
      let taken : Claimed = record { page = c; words = fresh_in L w c kind e } in
      cond (eqb c N) (record { page = 0; words = w }) taken
