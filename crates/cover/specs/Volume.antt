-- How many keys a region holds.
use Rattle.std.specs.Prelude.{List, [], ◌∷◌, ℕ, ◌+◌, ◌*◌, ◌-◌}
use Rattle.kdb.specs.Box.{Box}

-- the keys of one region, and of regions of which no two share a key
abbrev pub volume_of : Box → ℕ
volume_of [] = 1
volume_of (s ∷ b) = (s.hi - s.lo) * volume_of b

abbrev pub volumes_of : List Box → ℕ
volumes_of [] = 0
volumes_of (b ∷ bs) = volume_of b + volumes_of bs
