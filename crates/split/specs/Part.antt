-- What an entry pass answers, and the split of a page of either kind, in the terms of the machine forms.
use Rattle.std.specs.Prelude.{true, false, List, ℕ, Option, Some, None, Result, Ok, Err}
use Rattle.kdb.specs.Calls.{L}
use Rattle.steps.specs.Machine.{Passed, Claimed}
use Rattle.steps.specs.Split.{part_points, part_regions, split_in}
use Rattle.deal.specs.declared.Wanting.{Wanting}

-- whether every page wanted was free
abbrev pub passed : Result (Unit {0}) Wanting → List ℕ → Passed
passed (Ok _) w = record { ok = true; words = w }
passed (Err _) w = record { ok = false; words = w }

-- the m entries of src are parted along x in domain d: records or, with a level below, regions
abbrev pub part_at : ℕ → ℕ → ℕ → ℕ → Option ℕ → List ℕ → ℕ → ℕ → ℕ → List ℕ → Claimed
part_at n k d x None src m e j w = part_points L n k d x src m e j w
part_at n k d x (Some level) src m e j w = part_regions L n k d x (split_in L n k d x level) src m e j w
