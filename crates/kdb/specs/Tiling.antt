-- Regions that are disjoint, not empty and together are a region: Robinson's property 3 and document 01's sound pool. `Tiles` is in
-- the document's words, over sets of points; `Counted` says the same by counting; `tiles` is a test of it for every arrangement. Here and in
-- the files that follow a capital is a statement and the same name in small letters its test; theorems say that they agree.
use Rattle.std.specs.Prelude.{Bool, true, false, ◌&&◌, not, List, [], ◌∷◌, ◌≡◌, ℕ, min, max, T, ltb}
use Rattle.kdb.specs.Lists.{bit, tally, every, any_of, Each}
use Rattle.kdb.specs.Box.{Side, Box, Key, within, solid}

-- no key lies in both
abbrev pub Disjoint : Box → Box → Type 0
Disjoint a b = (p : Key) → T (within a p) → T (within b p) → ⊥

-- each region is disjoint from those after it
abbrev pub Apart : List Box → Type 0
Apart [] = Unit {0}
Apart (b ∷ bs) = Each (Disjoint b) bs × Apart bs

-- the regions together are r: a key lies in one of them exactly if it lies in r
abbrev pub Together : Box → List Box → Type 0
Together r bs = (p : Key) → any_of (λ b. within b p) bs ≡ within r p

pub record Tiles (r : Box) (bs : List Box) : Type 0 where
  pub solids : T (every solid bs)
  pub apart : Apart bs
  pub together : Together r bs

-- how many of the regions hold the key
abbrev pub holders : List Box → Key → ℕ
holders bs p = tally (λ b. within b p) bs

pub record Counted (r : Box) (bs : List Box) : Type 0 where
  pub solids : T (every solid bs)
  pub once : (p : Key) → holders bs p ≡ bit (within r p)

-- two regions share a key
abbrev pub share : Box → Box → Bool
share [] [] = true
share [] (t ∷ c) = false
share (s ∷ b) [] = false
share (s ∷ b) (t ∷ c) = ltb (max s.lo t.lo) (min s.hi t.hi) && share b c

abbrev pub apart : List Box → Bool
apart [] = true
apart (b ∷ bs) = every (λ c. not (share b c)) bs && apart bs

-- the side before each region
abbrev pub fronted : Side → List Box → List Box
fronted s [] = []
fronted s (q ∷ qs) = (s ∷ q) ∷ fronted s qs

-- the pieces of b that lie outside c; some may be empty
abbrev pub minus : Box → Box → List Box
minus [] [] = []
minus [] (t ∷ c) = [] ∷ []
minus (s ∷ b) [] = (s ∷ b) ∷ []
minus (s ∷ b) (t ∷ c) =
    (record { lo = s.lo; hi = min s.hi t.lo } ∷ b) ∷ (record { lo = max s.lo t.hi; hi = s.hi } ∷ b)
    ∷ fronted (record { lo = max s.lo t.lo; hi = min s.hi t.hi }) (minus b c)

-- every key of b lies in one of the regions
abbrev pub covers : List Box → Box → Bool
covers [] b = not (solid b)
covers (c ∷ cs) b = every (covers cs) (minus b c)

abbrev pub tiles : Box → List Box → Bool
tiles r bs = every solid bs && apart bs && every (covers (r ∷ [])) bs && covers bs r
