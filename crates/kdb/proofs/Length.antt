-- The words of a page are enough for the header, and a page for a point or two regions. The laws over any length ask no more of theirs.
use Prim.Native.Nat.{ℕ, zero, suc, ◌≤◌}
use native.Mathlib.Omega.{arith}
use lib.Dec.{lit≤}
use Rattle.kdb.specs.Calls.{L}
use Rattle.kdb.proofs.Grow.{Roomy}

pub big : 5 ≤ L
big = lit≤ tt

pub four : 4 ≤ L
four = lit≤ tt

pub roomy : (k : ℕ) → 1 ≤ k → k ≤ 4 → Roomy L k
roomy zero h i = absurd (omega arith)
roomy (suc zero) h i = record { domains = lit≤ tt; points = lit≤ tt; regions = lit≤ tt }
roomy (suc (suc zero)) h i = record { domains = lit≤ tt; points = lit≤ tt; regions = lit≤ tt }
roomy (suc (suc (suc zero))) h i = record { domains = lit≤ tt; points = lit≤ tt; regions = lit≤ tt }
roomy (suc (suc (suc (suc zero)))) h i = record { domains = lit≤ tt; points = lit≤ tt; regions = lit≤ tt }
roomy (suc (suc (suc (suc (suc k))))) h i = absurd (omega arith)
