-- A loop that tests with a flag, and the values that a loop meets: one definition for every such loop of the code.
use Rattle.std.specs.Prelude.{ℕ, zero, suc, ◌+◌, Bool, ◌&&◌, [], ◌∷◌}
use Rattle.kdb.specs.Box.{Key}

-- ok, and the test holds n times, at a, a + d, a + 2 d and so on; the test is told how many are left after it
unfoldable pub all_by : ℕ → (ℕ → ℕ → Bool) → ℕ → ℕ → Bool → Bool
all_by zero f d a ok = ok
all_by (suc n) f d a ok = all_by n f d (a + d) (ok && f n a)

-- m values of f from i on
abbrev pub keys_by : ℕ → (ℕ → ℕ) → ℕ → Key
keys_by zero f i = []
keys_by (suc m) f i = f i ∷ keys_by m f (i + 1)
