-- The loop of `split::entry_pass`: the entries passed, then those left, give what all of them give. `split::split_page`, `part_regions` and it
-- call each other, by way of `part_entries`: the level falls from page to entries.
use Rattle.std.proofs.Common.{Option, Some, None}
use Prim.Native.Nat.{ℕ, ◌-◌, ◌+◌, ◌*◌}
use mathlib.Core.Path.{◌≡◌}
use Rattle.steps.specs.Split.{entries_in, split_in}
use Rattle.split.proofs.+entry_pass_split_page.Given as goal

abbrev pub invariant-entry_pass-loop-i : goal.invariant-entry_pass-loop-i
invariant-entry_pass-loop-i l =
    let k = l.f.domains in
    let below = split_in 32 l.f.pages k l.cut.domain l.cut.key l.level in
    entries_in 32 k l.cut.domain l.cut.key below (l.m - l.i) l.src (4 + l.i * (2 * k + 1)) l.j l.r l.pool ≡ entries_in 32 k l.cut.domain l.cut.key below l.m l.src 4 l.j l.r l.initial.pool

-- the level that the pages at hand stand above the point pages
abbrev pub rank : Option ℕ → ℕ
rank None = 0
rank (Some level) = 4 * level + 7

abbrev pub decreases-entry_pass : goal.decreases-entry_pass
decreases-entry_pass l = 4 * l.level + 5

abbrev pub decreases-part_entries : goal.decreases-part_entries
decreases-part_entries l = rank l.below

abbrev pub decreases-part_regions : goal.decreases-part_regions
decreases-part_regions l = 4 * l.level + 6

abbrev pub decreases-split_page : goal.decreases-split_page
decreases-split_page l = 4 * l.level + 4
