-- Keys, regions and windows: document 01, "A region holds the points with lower ≤ key < upper in each domain. A window is closed:
-- lower ≤ key ≤ upper." A region is a list of sides, one for each domain, and so is a window; a key is a list of numbers.
use Rattle.std.specs.Prelude.{Bool, true, false, ◌&&◌, List, [], ◌∷◌, ℕ, zero, suc, max, leb, ltb}

-- the word that stands for ∞
abbrev pub ∞ : ℕ
∞ = 4294967295

pub record Side : Type 0 where
  pub lo : ℕ
  pub hi : ℕ

abbrev pub Box : Type 0
Box = List Side

abbrev pub Key : Type 0
Key = List ℕ

-- the sides with these lower ends and these upper ends, as many as there are of both
abbrev pub sides : List ℕ → List ℕ → Box
sides [] us = []
sides (l ∷ ls) [] = []
sides (l ∷ ls) (u ∷ us) = record { lo = l; hi = u } ∷ sides ls us

-- the whole space of k domains
abbrev pub whole : ℕ → Box
whole zero = []
whole (suc k) = record { lo = 0; hi = ∞ } ∷ whole k

-- the region holds the key
abbrev pub within : Box → Key → Bool
within [] [] = true
within [] (x ∷ p) = false
within (s ∷ b) [] = false
within (s ∷ b) (x ∷ p) = leb s.lo x && ltb x s.hi && within b p

-- the window holds the key
abbrev pub in_window : Box → Key → Bool
in_window [] [] = true
in_window [] (x ∷ p) = false
in_window (s ∷ b) [] = false
in_window (s ∷ b) (x ∷ p) = leb s.lo x && leb x s.hi && in_window b p

-- the region holds some key
abbrev pub solid : Box → Bool
solid [] = true
solid (s ∷ b) = ltb s.lo s.hi && solid b

-- the region meets the window: in each domain the larger lower end lies in both
abbrev pub meets : Box → Box → Bool
meets [] [] = true
meets [] (v ∷ w) = false
meets (s ∷ b) [] = false
meets (s ∷ b) (v ∷ w) = ltb (max s.lo v.lo) s.hi && leb (max s.lo v.lo) v.hi && meets b w

-- the key, the lower end and the upper end in domain d
abbrev pub key_at : ℕ → Key → ℕ
key_at d [] = 0
key_at zero (x ∷ p) = x
key_at (suc d) (x ∷ p) = key_at d p

abbrev pub lower_at : ℕ → Box → ℕ
lower_at d [] = 0
lower_at zero (s ∷ b) = s.lo
lower_at (suc d) (s ∷ b) = lower_at d b

abbrev pub upper_at : ℕ → Box → ℕ
upper_at d [] = 0
upper_at zero (s ∷ b) = s.hi
upper_at (suc d) (s ∷ b) = upper_at d b

-- the region's parts below x and from x on, in domain d
abbrev pub left_part : ℕ → ℕ → Box → Box
left_part d x [] = []
left_part zero x (s ∷ b) = record { lo = s.lo; hi = x } ∷ b
left_part (suc d) x (s ∷ b) = s ∷ left_part d x b

abbrev pub right_part : ℕ → ℕ → Box → Box
right_part d x [] = []
right_part zero x (s ∷ b) = record { lo = x; hi = s.hi } ∷ b
right_part (suc d) x (s ∷ b) = s ∷ right_part d x b
