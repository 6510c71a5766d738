-- The choices of placing, with walks and removes over many levels and in domains 2 and 3: one table, one statement, `choices`. Every pool
-- here was written by the second program (rust/second), not by the definitions.
use mathlib.Core.Bool.{true}
use mathlib.Core.List.{List, [], ◌∷◌}
use mathlib.Core.Path.{◌≡◌, refl}
use Prim.Native.Nat.{ℕ}
use Rattle.kdb.specs.Pool.{good_length, good_header}
use Rattle.kdb.specs.Print.{sound}
use Rattle.kdb.specs.Calls.{format, check, place, remove, find, outcome}
use Rattle.kdb.proofs.Rows.{Row, pass_all, tells, turns, leaves, lists, walks, stores, junk, pool_of, done, top, inf}

-- the first of three entries is split; pages 3 and 6 are free
abbrev pub first_entry : List ℕ
first_entry =
    pool_of ((2 ∷ 7 ∷ 5 ∷ 2 ∷ 11 ∷ [])
    ∷ (2 ∷ 1 ∷ 0 ∷ 0 ∷ 50 ∷ 30 ∷ 31 ∷ [])
    ∷ (2 ∷ 9 ∷ 0 ∷ 0 ∷ 5 ∷ 40 ∷ 11 ∷ 45 ∷ 3 ∷ 12 ∷ 20 ∷ 9 ∷ 13 ∷ 33 ∷ 8 ∷ 14 ∷ 10 ∷ 7 ∷ 15 ∷ 49 ∷ 6 ∷ 16 ∷ 2 ∷ 5 ∷ 17 ∷ 28 ∷ 4 ∷ 18 ∷ 16 ∷ 2 ∷ 19 ∷ [])
    ∷ []
    ∷ (2 ∷ 1 ∷ 1 ∷ 0 ∷ 60 ∷ 29 ∷ 21 ∷ [])
    ∷ (1 ∷ 3 ∷ 1 ∷ 0 ∷ 0 ∷ 0 ∷ 50 ∷ inf ∷ 2 ∷ 50 ∷ 0 ∷ inf ∷ 30 ∷ 4 ∷ 50 ∷ 30 ∷ inf ∷ inf ∷ 1 ∷ [])
    ∷ [] ∷ [])

abbrev pub first_entry_after : List ℕ
first_entry_after =
    pool_of ((2 ∷ 7 ∷ 5 ∷ 2 ∷ 12 ∷ [])
    ∷ (2 ∷ 1 ∷ 0 ∷ 0 ∷ 50 ∷ 30 ∷ 31 ∷ [])
    ∷ (2 ∷ 5 ∷ 1 ∷ 0 ∷ 5 ∷ 40 ∷ 11 ∷ 20 ∷ 9 ∷ 13 ∷ 10 ∷ 7 ∷ 15 ∷ 2 ∷ 5 ∷ 17 ∷ 16 ∷ 2 ∷ 19 ∷ [])
    ∷ (2 ∷ 5 ∷ 1 ∷ 0 ∷ 45 ∷ 3 ∷ 12 ∷ 33 ∷ 8 ∷ 14 ∷ 49 ∷ 6 ∷ 16 ∷ 28 ∷ 4 ∷ 18 ∷ 25 ∷ 60 ∷ 20 ∷ [])
    ∷ (2 ∷ 1 ∷ 1 ∷ 0 ∷ 60 ∷ 29 ∷ 21 ∷ [])
    ∷ (1 ∷ 4 ∷ 1 ∷ 0 ∷ 0 ∷ 0 ∷ 25 ∷ inf ∷ 2 ∷ 50 ∷ 0 ∷ inf ∷ 30 ∷ 4 ∷ 50 ∷ 30 ∷ inf ∷ inf ∷ 1 ∷ 25 ∷ 0 ∷ 50 ∷ inf ∷ 3 ∷ [])
    ∷ [] ∷ [])

-- a full root, of pages 8, 4, 3, 9 and 1: page 4 is split, then the root along 50 in domain 0, which pages 8 and 3 cross; page 8 has no
-- point right of it
abbrev pub two_cross : List ℕ
two_cross =
    pool_of ((2 ∷ 12 ∷ 6 ∷ 2 ∷ 17 ∷ [])
    ∷ (2 ∷ 1 ∷ 1 ∷ 0 ∷ 0 ∷ 20 ∷ 61 ∷ [])
    ∷ []
    ∷ (2 ∷ 4 ∷ 0 ∷ 0 ∷ 60 ∷ 5 ∷ 41 ∷ 10 ∷ 5 ∷ 42 ∷ 50 ∷ 0 ∷ 43 ∷ 49 ∷ 7 ∷ 44 ∷ [])
    ∷ (2 ∷ 9 ∷ 1 ∷ 0 ∷ 50 ∷ 25 ∷ 11 ∷ 51 ∷ 21 ∷ 12 ∷ 52 ∷ 29 ∷ 13 ∷ 53 ∷ 23 ∷ 14 ∷ 54 ∷ 27 ∷ 15 ∷ 55 ∷ 20 ∷ 16 ∷ 56 ∷ 28 ∷ 17 ∷ 57 ∷ 22 ∷ 18 ∷ 58 ∷ 24 ∷ 19 ∷ [])
    ∷ []
    ∷ (1 ∷ 5 ∷ 0 ∷ 0 ∷ 0 ∷ 10 ∷ inf ∷ 20 ∷ 8 ∷ 50 ∷ 20 ∷ inf ∷ 30 ∷ 4 ∷ 0 ∷ 0 ∷ inf ∷ 10 ∷ 3 ∷ 50 ∷ 30 ∷ inf ∷ inf ∷ 9 ∷ 0 ∷ 20 ∷ 50 ∷ inf ∷ 1 ∷ [])
    ∷ []
    ∷ (2 ∷ 2 ∷ 1 ∷ 0 ∷ 30 ∷ 15 ∷ 31 ∷ 20 ∷ 11 ∷ 32 ∷ [])
    ∷ (2 ∷ 1 ∷ 0 ∷ 0 ∷ 70 ∷ 70 ∷ 51 ∷ [])
    ∷ []
    ∷ [] ∷ [])

abbrev pub two_cross_after : List ℕ
two_cross_after =
    pool_of ((2 ∷ 12 ∷ 11 ∷ 3 ∷ 18 ∷ [])
    ∷ (2 ∷ 1 ∷ 1 ∷ 0 ∷ 0 ∷ 20 ∷ 61 ∷ [])
    ∷ (2 ∷ 5 ∷ 0 ∷ 0 ∷ 50 ∷ 25 ∷ 11 ∷ 52 ∷ 29 ∷ 13 ∷ 54 ∷ 27 ∷ 15 ∷ 56 ∷ 28 ∷ 17 ∷ 59 ∷ 26 ∷ 20 ∷ [])
    ∷ (2 ∷ 2 ∷ 0 ∷ 0 ∷ 10 ∷ 5 ∷ 42 ∷ 49 ∷ 7 ∷ 44 ∷ [])
    ∷ (2 ∷ 5 ∷ 0 ∷ 0 ∷ 51 ∷ 21 ∷ 12 ∷ 53 ∷ 23 ∷ 14 ∷ 55 ∷ 20 ∷ 16 ∷ 57 ∷ 22 ∷ 18 ∷ 58 ∷ 24 ∷ 19 ∷ [])
    ∷ (1 ∷ 5 ∷ 1 ∷ 0 ∷ 50 ∷ 10 ∷ inf ∷ 20 ∷ 7 ∷ 50 ∷ 20 ∷ inf ∷ 25 ∷ 4 ∷ 50 ∷ 0 ∷ inf ∷ 10 ∷ 10 ∷ 50 ∷ 30 ∷ inf ∷ inf ∷ 9 ∷ 50 ∷ 25 ∷ inf ∷ 30 ∷ 2 ∷ [])
    ∷ (1 ∷ 3 ∷ 1 ∷ 0 ∷ 0 ∷ 10 ∷ 50 ∷ 20 ∷ 8 ∷ 0 ∷ 0 ∷ 50 ∷ 10 ∷ 3 ∷ 0 ∷ 20 ∷ 50 ∷ inf ∷ 1 ∷ [])
    ∷ (2 ∷ 0 ∷ 1 ∷ [])
    ∷ (2 ∷ 2 ∷ 1 ∷ 0 ∷ 30 ∷ 15 ∷ 31 ∷ 20 ∷ 11 ∷ 32 ∷ [])
    ∷ (2 ∷ 1 ∷ 0 ∷ 0 ∷ 70 ∷ 70 ∷ 51 ∷ [])
    ∷ (2 ∷ 2 ∷ 0 ∷ 0 ∷ 60 ∷ 5 ∷ 41 ∷ 50 ∷ 0 ∷ 43 ∷ [])
    ∷ (1 ∷ 2 ∷ 0 ∷ 0 ∷ 0 ∷ 0 ∷ 50 ∷ inf ∷ 6 ∷ 50 ∷ 0 ∷ inf ∷ inf ∷ 5 ∷ []) ∷ [])

-- the same with one page fewer
abbrev pub two_cross_short : List ℕ
two_cross_short =
    pool_of ((2 ∷ 11 ∷ 6 ∷ 2 ∷ 17 ∷ [])
    ∷ (2 ∷ 1 ∷ 1 ∷ 0 ∷ 0 ∷ 20 ∷ 61 ∷ [])
    ∷ []
    ∷ (2 ∷ 4 ∷ 0 ∷ 0 ∷ 60 ∷ 5 ∷ 41 ∷ 10 ∷ 5 ∷ 42 ∷ 50 ∷ 0 ∷ 43 ∷ 49 ∷ 7 ∷ 44 ∷ [])
    ∷ (2 ∷ 9 ∷ 1 ∷ 0 ∷ 50 ∷ 25 ∷ 11 ∷ 51 ∷ 21 ∷ 12 ∷ 52 ∷ 29 ∷ 13 ∷ 53 ∷ 23 ∷ 14 ∷ 54 ∷ 27 ∷ 15 ∷ 55 ∷ 20 ∷ 16 ∷ 56 ∷ 28 ∷ 17 ∷ 57 ∷ 22 ∷ 18 ∷ 58 ∷ 24 ∷ 19 ∷ [])
    ∷ []
    ∷ (1 ∷ 5 ∷ 0 ∷ 0 ∷ 0 ∷ 10 ∷ inf ∷ 20 ∷ 8 ∷ 50 ∷ 20 ∷ inf ∷ 30 ∷ 4 ∷ 0 ∷ 0 ∷ inf ∷ 10 ∷ 3 ∷ 50 ∷ 30 ∷ inf ∷ inf ∷ 9 ∷ 0 ∷ 20 ∷ 50 ∷ inf ∷ 1 ∷ [])
    ∷ []
    ∷ (2 ∷ 2 ∷ 1 ∷ 0 ∷ 30 ∷ 15 ∷ 31 ∷ 20 ∷ 11 ∷ 32 ∷ [])
    ∷ (2 ∷ 1 ∷ 0 ∷ 0 ∷ 70 ∷ 70 ∷ 51 ∷ [])
    ∷ [] ∷ [])

-- three levels, K = 4: the sixth point splits page 14, that splits page 9 along 50 in domain 0, and that the root, which pages 2 and 12
-- cross, and below them pages 1 and 16
abbrev pub three_levels : List ℕ
three_levels =
    pool_of ((4 ∷ 19 ∷ 7 ∷ 3 ∷ 11 ∷ [])
    ∷ (2 ∷ 3 ∷ 2 ∷ 0 ∷ 50 ∷ 3 ∷ 0 ∷ 0 ∷ 31 ∷ 40 ∷ 3 ∷ 0 ∷ 0 ∷ 32 ∷ 60 ∷ 1 ∷ 0 ∷ 0 ∷ 33 ∷ [])
    ∷ (1 ∷ 2 ∷ 3 ∷ 0 ∷ 0 ∷ 0 ∷ 0 ∷ 0 ∷ 30 ∷ 10 ∷ inf ∷ inf ∷ 4 ∷ 30 ∷ 0 ∷ 0 ∷ 0 ∷ inf ∷ 10 ∷ inf ∷ inf ∷ 1 ∷ [])
    ∷ []
    ∷ (2 ∷ 0 ∷ 1 ∷ [])
    ∷ (2 ∷ [])
    ∷ []
    ∷ (1 ∷ 3 ∷ 0 ∷ 0 ∷ 0 ∷ 0 ∷ 0 ∷ 0 ∷ inf ∷ 10 ∷ inf ∷ inf ∷ 2 ∷ 0 ∷ 20 ∷ 0 ∷ 0 ∷ inf ∷ inf ∷ inf ∷ inf ∷ 9 ∷ 0 ∷ 10 ∷ 0 ∷ 0 ∷ inf ∷ 20 ∷ inf ∷ inf ∷ 12 ∷ [])
    ∷ (2 ∷ 1 ∷ 0 ∷ 0 ∷ 50 ∷ 30 ∷ 9 ∷ 9 ∷ 41 ∷ [])
    ∷ (1 ∷ 3 ∷ 0 ∷ 0 ∷ 0 ∷ 20 ∷ 0 ∷ 0 ∷ 50 ∷ inf ∷ inf ∷ inf ∷ 5 ∷ 50 ∷ 20 ∷ 0 ∷ 0 ∷ inf ∷ 30 ∷ inf ∷ inf ∷ 14 ∷ 50 ∷ 30 ∷ 0 ∷ 0 ∷ inf ∷ inf ∷ inf ∷ inf ∷ 8 ∷ [])
    ∷ []
    ∷ []
    ∷ (1 ∷ 1 ∷ 1 ∷ 0 ∷ 0 ∷ 10 ∷ 0 ∷ 0 ∷ inf ∷ 20 ∷ inf ∷ inf ∷ 16 ∷ [])
    ∷ []
    ∷ (2 ∷ 5 ∷ 1 ∷ 0 ∷ 50 ∷ 24 ∷ 1 ∷ 2 ∷ 11 ∷ 51 ∷ 21 ∷ 3 ∷ 4 ∷ 12 ∷ 52 ∷ 28 ∷ 5 ∷ 6 ∷ 13 ∷ 53 ∷ 22 ∷ 7 ∷ 8 ∷ 14 ∷ 54 ∷ 26 ∷ 9 ∷ 9 ∷ 15 ∷ [])
    ∷ []
    ∷ (2 ∷ 2 ∷ 3 ∷ 0 ∷ 49 ∷ 19 ∷ 0 ∷ 1 ∷ 51 ∷ 50 ∷ 10 ∷ 0 ∷ 1 ∷ 52 ∷ [])
    ∷ []
    ∷ [] ∷ [])

abbrev pub three_levels_after : List ℕ
three_levels_after =
    pool_of ((4 ∷ 19 ∷ 18 ∷ 4 ∷ 12 ∷ [])
    ∷ (2 ∷ 1 ∷ 2 ∷ 0 ∷ 40 ∷ 3 ∷ 0 ∷ 0 ∷ 32 ∷ [])
    ∷ (1 ∷ 2 ∷ 3 ∷ 0 ∷ 0 ∷ 0 ∷ 0 ∷ 0 ∷ 30 ∷ 10 ∷ inf ∷ inf ∷ 4 ∷ 30 ∷ 0 ∷ 0 ∷ 0 ∷ 50 ∷ 10 ∷ inf ∷ inf ∷ 1 ∷ [])
    ∷ (2 ∷ 3 ∷ 2 ∷ 0 ∷ 52 ∷ 28 ∷ 5 ∷ 6 ∷ 13 ∷ 54 ∷ 26 ∷ 9 ∷ 9 ∷ 15 ∷ 55 ∷ 25 ∷ 9 ∷ 9 ∷ 16 ∷ [])
    ∷ (2 ∷ 0 ∷ 1 ∷ [])
    ∷ (2 ∷ [])
    ∷ (1 ∷ 3 ∷ 1 ∷ 0 ∷ 50 ∷ 20 ∷ 0 ∷ 0 ∷ inf ∷ 25 ∷ inf ∷ inf ∷ 14 ∷ 50 ∷ 30 ∷ 0 ∷ 0 ∷ inf ∷ inf ∷ inf ∷ inf ∷ 8 ∷ 50 ∷ 25 ∷ 0 ∷ 0 ∷ inf ∷ 30 ∷ inf ∷ inf ∷ 3 ∷ [])
    ∷ (1 ∷ 3 ∷ 1 ∷ 0 ∷ 0 ∷ 0 ∷ 0 ∷ 0 ∷ 50 ∷ 10 ∷ inf ∷ inf ∷ 2 ∷ 0 ∷ 20 ∷ 0 ∷ 0 ∷ 50 ∷ inf ∷ inf ∷ inf ∷ 9 ∷ 0 ∷ 10 ∷ 0 ∷ 0 ∷ 50 ∷ 20 ∷ inf ∷ inf ∷ 12 ∷ [])
    ∷ (2 ∷ 1 ∷ 0 ∷ 0 ∷ 50 ∷ 30 ∷ 9 ∷ 9 ∷ 41 ∷ [])
    ∷ (1 ∷ 1 ∷ 1 ∷ 0 ∷ 0 ∷ 20 ∷ 0 ∷ 0 ∷ 50 ∷ inf ∷ inf ∷ inf ∷ 5 ∷ [])
    ∷ (1 ∷ 3 ∷ 1 ∷ 0 ∷ 50 ∷ 0 ∷ 0 ∷ 0 ∷ inf ∷ 10 ∷ inf ∷ inf ∷ 11 ∷ 50 ∷ 10 ∷ 0 ∷ 0 ∷ inf ∷ 20 ∷ inf ∷ inf ∷ 15 ∷ 50 ∷ 20 ∷ 0 ∷ 0 ∷ inf ∷ inf ∷ inf ∷ inf ∷ 6 ∷ [])
    ∷ (1 ∷ 1 ∷ 3 ∷ 0 ∷ 50 ∷ 0 ∷ 0 ∷ 0 ∷ inf ∷ 10 ∷ inf ∷ inf ∷ 13 ∷ [])
    ∷ (1 ∷ 1 ∷ 1 ∷ 0 ∷ 0 ∷ 10 ∷ 0 ∷ 0 ∷ 50 ∷ 20 ∷ inf ∷ inf ∷ 16 ∷ [])
    ∷ (2 ∷ 2 ∷ 2 ∷ 0 ∷ 50 ∷ 3 ∷ 0 ∷ 0 ∷ 31 ∷ 60 ∷ 1 ∷ 0 ∷ 0 ∷ 33 ∷ [])
    ∷ (2 ∷ 3 ∷ 2 ∷ 0 ∷ 50 ∷ 24 ∷ 1 ∷ 2 ∷ 11 ∷ 51 ∷ 21 ∷ 3 ∷ 4 ∷ 12 ∷ 53 ∷ 22 ∷ 7 ∷ 8 ∷ 14 ∷ [])
    ∷ (1 ∷ 1 ∷ 1 ∷ 0 ∷ 50 ∷ 10 ∷ 0 ∷ 0 ∷ inf ∷ 20 ∷ inf ∷ inf ∷ 17 ∷ [])
    ∷ (2 ∷ 1 ∷ 3 ∷ 0 ∷ 49 ∷ 19 ∷ 0 ∷ 1 ∷ 51 ∷ [])
    ∷ (2 ∷ 1 ∷ 3 ∷ 0 ∷ 50 ∷ 10 ∷ 0 ∷ 1 ∷ 52 ∷ [])
    ∷ (1 ∷ 2 ∷ 0 ∷ 0 ∷ 0 ∷ 0 ∷ 0 ∷ 0 ∷ 50 ∷ inf ∷ inf ∷ inf ∷ 7 ∷ 50 ∷ 0 ∷ 0 ∷ 0 ∷ inf ∷ inf ∷ inf ∷ inf ∷ 10 ∷ []) ∷ [])

-- K = 3: the eighth point splits page 6 along 40 in domain 2, since domain 1 offers no cut, and that the root, for the same reason, along
-- the same, which pages 1, 4 and 8 cross
abbrev pub third : List ℕ
third =
    pool_of ((3 ∷ 12 ∷ 3 ∷ 2 ∷ 8 ∷ [])
    ∷ (2 ∷ [])
    ∷ []
    ∷ (1 ∷ 4 ∷ 1 ∷ 0 ∷ 0 ∷ 0 ∷ 0 ∷ 10 ∷ inf ∷ inf ∷ 1 ∷ 10 ∷ 0 ∷ 0 ∷ 20 ∷ inf ∷ inf ∷ 6 ∷ 20 ∷ 0 ∷ 0 ∷ 30 ∷ inf ∷ inf ∷ 4 ∷ 30 ∷ 0 ∷ 0 ∷ inf ∷ inf ∷ inf ∷ 8 ∷ [])
    ∷ (2 ∷ 1 ∷ 2 ∷ 0 ∷ 29 ∷ 0 ∷ 0 ∷ 21 ∷ [])
    ∷ []
    ∷ (2 ∷ 7 ∷ 1 ∷ 0 ∷ 12 ∷ 4 ∷ 30 ∷ 11 ∷ 13 ∷ 4 ∷ 10 ∷ 12 ∷ 14 ∷ 4 ∷ 50 ∷ 13 ∷ 15 ∷ 4 ∷ 20 ∷ 14 ∷ 16 ∷ 4 ∷ 60 ∷ 15 ∷ 17 ∷ 4 ∷ 40 ∷ 16 ∷ 18 ∷ 4 ∷ 70 ∷ 17 ∷ [])
    ∷ []
    ∷ (2 ∷ [])
    ∷ []
    ∷ []
    ∷ [] ∷ [])

abbrev pub third_after : List ℕ
third_after =
    pool_of ((3 ∷ 12 ∷ 11 ∷ 3 ∷ 9 ∷ [])
    ∷ (2 ∷ [])
    ∷ (2 ∷ 4 ∷ 0 ∷ 0 ∷ 14 ∷ 4 ∷ 50 ∷ 13 ∷ 16 ∷ 4 ∷ 60 ∷ 15 ∷ 17 ∷ 4 ∷ 40 ∷ 16 ∷ 18 ∷ 4 ∷ 70 ∷ 17 ∷ [])
    ∷ (1 ∷ 4 ∷ 0 ∷ 0 ∷ 0 ∷ 0 ∷ 0 ∷ 10 ∷ inf ∷ 40 ∷ 1 ∷ 10 ∷ 0 ∷ 0 ∷ 20 ∷ inf ∷ 40 ∷ 6 ∷ 20 ∷ 0 ∷ 0 ∷ 30 ∷ inf ∷ 40 ∷ 4 ∷ 30 ∷ 0 ∷ 0 ∷ inf ∷ inf ∷ 40 ∷ 8 ∷ [])
    ∷ (2 ∷ 1 ∷ 2 ∷ 0 ∷ 29 ∷ 0 ∷ 0 ∷ 21 ∷ [])
    ∷ (1 ∷ 4 ∷ 0 ∷ 0 ∷ 0 ∷ 0 ∷ 40 ∷ 10 ∷ inf ∷ inf ∷ 7 ∷ 20 ∷ 0 ∷ 40 ∷ 30 ∷ inf ∷ inf ∷ 9 ∷ 30 ∷ 0 ∷ 40 ∷ inf ∷ inf ∷ inf ∷ 10 ∷ 10 ∷ 0 ∷ 40 ∷ 20 ∷ inf ∷ inf ∷ 2 ∷ [])
    ∷ (2 ∷ 4 ∷ 0 ∷ 0 ∷ 12 ∷ 4 ∷ 30 ∷ 11 ∷ 13 ∷ 4 ∷ 10 ∷ 12 ∷ 15 ∷ 4 ∷ 20 ∷ 14 ∷ 19 ∷ 4 ∷ 0 ∷ 18 ∷ [])
    ∷ (2 ∷ [])
    ∷ (2 ∷ [])
    ∷ (2 ∷ 0 ∷ 2 ∷ [])
    ∷ (2 ∷ [])
    ∷ (1 ∷ 2 ∷ 0 ∷ 0 ∷ 0 ∷ 0 ∷ 0 ∷ inf ∷ inf ∷ 40 ∷ 3 ∷ 0 ∷ 0 ∷ 40 ∷ inf ∷ inf ∷ inf ∷ 5 ∷ []) ∷ [])

-- K = 4: page 3 is split, and the root takes the third entry
abbrev pub entry : List ℕ
entry =
    pool_of ((4 ∷ 6 ∷ 4 ∷ 2 ∷ 5 ∷ [])
    ∷ (2 ∷ [])
    ∷ []
    ∷ (2 ∷ 5 ∷ 2 ∷ 0 ∷ 0 ∷ 7 ∷ 3 ∷ 0 ∷ 11 ∷ 1 ∷ 7 ∷ 2 ∷ 0 ∷ 12 ∷ 2 ∷ 7 ∷ 3 ∷ 0 ∷ 13 ∷ 3 ∷ 7 ∷ 2 ∷ 0 ∷ 14 ∷ 4 ∷ 7 ∷ 3 ∷ 0 ∷ 15 ∷ [])
    ∷ (1 ∷ 2 ∷ 2 ∷ 0 ∷ 0 ∷ 0 ∷ 0 ∷ 0 ∷ inf ∷ inf ∷ 9 ∷ inf ∷ 3 ∷ 0 ∷ 0 ∷ 9 ∷ 0 ∷ inf ∷ inf ∷ inf ∷ inf ∷ 1 ∷ [])
    ∷ [] ∷ [])

abbrev pub entry_after : List ℕ
entry_after =
    pool_of ((4 ∷ 6 ∷ 4 ∷ 2 ∷ 6 ∷ [])
    ∷ (2 ∷ [])
    ∷ (2 ∷ 3 ∷ 3 ∷ 0 ∷ 0 ∷ 7 ∷ 3 ∷ 0 ∷ 11 ∷ 2 ∷ 7 ∷ 3 ∷ 0 ∷ 13 ∷ 4 ∷ 7 ∷ 3 ∷ 0 ∷ 15 ∷ [])
    ∷ (2 ∷ 3 ∷ 3 ∷ 0 ∷ 1 ∷ 7 ∷ 2 ∷ 0 ∷ 12 ∷ 3 ∷ 7 ∷ 2 ∷ 0 ∷ 14 ∷ 1 ∷ 1 ∷ 1 ∷ 1 ∷ 20 ∷ [])
    ∷ (1 ∷ 3 ∷ 2 ∷ 0 ∷ 0 ∷ 0 ∷ 0 ∷ 0 ∷ inf ∷ inf ∷ 3 ∷ inf ∷ 3 ∷ 0 ∷ 0 ∷ 9 ∷ 0 ∷ inf ∷ inf ∷ inf ∷ inf ∷ 1 ∷ 0 ∷ 0 ∷ 3 ∷ 0 ∷ inf ∷ inf ∷ 9 ∷ inf ∷ 2 ∷ [])
    ∷ [] ∷ [])

-- the record of 30, 15 is gone; pages and domains stay
abbrev pub two_cross_removed : List ℕ
two_cross_removed =
    pool_of ((2 ∷ 12 ∷ 11 ∷ 3 ∷ 17 ∷ [])
    ∷ (2 ∷ 1 ∷ 1 ∷ 0 ∷ 0 ∷ 20 ∷ 61 ∷ [])
    ∷ (2 ∷ 5 ∷ 0 ∷ 0 ∷ 50 ∷ 25 ∷ 11 ∷ 52 ∷ 29 ∷ 13 ∷ 54 ∷ 27 ∷ 15 ∷ 56 ∷ 28 ∷ 17 ∷ 59 ∷ 26 ∷ 20 ∷ [])
    ∷ (2 ∷ 2 ∷ 0 ∷ 0 ∷ 10 ∷ 5 ∷ 42 ∷ 49 ∷ 7 ∷ 44 ∷ [])
    ∷ (2 ∷ 5 ∷ 0 ∷ 0 ∷ 51 ∷ 21 ∷ 12 ∷ 53 ∷ 23 ∷ 14 ∷ 55 ∷ 20 ∷ 16 ∷ 57 ∷ 22 ∷ 18 ∷ 58 ∷ 24 ∷ 19 ∷ [])
    ∷ (1 ∷ 5 ∷ 1 ∷ 0 ∷ 50 ∷ 10 ∷ inf ∷ 20 ∷ 7 ∷ 50 ∷ 20 ∷ inf ∷ 25 ∷ 4 ∷ 50 ∷ 0 ∷ inf ∷ 10 ∷ 10 ∷ 50 ∷ 30 ∷ inf ∷ inf ∷ 9 ∷ 50 ∷ 25 ∷ inf ∷ 30 ∷ 2 ∷ [])
    ∷ (1 ∷ 3 ∷ 1 ∷ 0 ∷ 0 ∷ 10 ∷ 50 ∷ 20 ∷ 8 ∷ 0 ∷ 0 ∷ 50 ∷ 10 ∷ 3 ∷ 0 ∷ 20 ∷ 50 ∷ inf ∷ 1 ∷ [])
    ∷ (2 ∷ 0 ∷ 1 ∷ [])
    ∷ (2 ∷ 1 ∷ 1 ∷ 0 ∷ 20 ∷ 11 ∷ 32 ∷ [])
    ∷ (2 ∷ 1 ∷ 0 ∷ 0 ∷ 70 ∷ 70 ∷ 51 ∷ [])
    ∷ (2 ∷ 2 ∷ 0 ∷ 0 ∷ 60 ∷ 5 ∷ 41 ∷ 50 ∷ 0 ∷ 43 ∷ [])
    ∷ (1 ∷ 2 ∷ 0 ∷ 0 ∷ 0 ∷ 0 ∷ 50 ∷ inf ∷ 6 ∷ 50 ∷ 0 ∷ inf ∷ inf ∷ 5 ∷ []) ∷ [])

-- K = 3: the eighth point splits page 1 in domain 1, since domain 0 offers no cut
abbrev pub eighth : List ℕ
eighth =
    pool_of ((3 ∷ 4 ∷ 1 ∷ 1 ∷ 7 ∷ [])
    ∷ (2 ∷ 7 ∷ 0 ∷ 0 ∷ 3 ∷ 0 ∷ 1 ∷ 10 ∷ 3 ∷ 5 ∷ 1 ∷ 11 ∷ 3 ∷ 2 ∷ 1 ∷ 12 ∷ 3 ∷ 7 ∷ 1 ∷ 13 ∷ 3 ∷ 4 ∷ 1 ∷ 14 ∷ 3 ∷ 1 ∷ 1 ∷ 15 ∷ 3 ∷ 6 ∷ 1 ∷ 16 ∷ [])
    ∷ []
    ∷ [] ∷ [])

abbrev pub eighth_after : List ℕ
eighth_after =
    pool_of ((3 ∷ 4 ∷ 3 ∷ 2 ∷ 8 ∷ [])
    ∷ (2 ∷ 4 ∷ 2 ∷ 0 ∷ 3 ∷ 0 ∷ 1 ∷ 10 ∷ 3 ∷ 2 ∷ 1 ∷ 12 ∷ 3 ∷ 1 ∷ 1 ∷ 15 ∷ 3 ∷ 3 ∷ 1 ∷ 17 ∷ [])
    ∷ (2 ∷ 4 ∷ 2 ∷ 0 ∷ 3 ∷ 5 ∷ 1 ∷ 11 ∷ 3 ∷ 7 ∷ 1 ∷ 13 ∷ 3 ∷ 4 ∷ 1 ∷ 14 ∷ 3 ∷ 6 ∷ 1 ∷ 16 ∷ [])
    ∷ (1 ∷ 2 ∷ 0 ∷ 0 ∷ 0 ∷ 0 ∷ 0 ∷ inf ∷ 4 ∷ inf ∷ 1 ∷ 0 ∷ 4 ∷ 0 ∷ inf ∷ inf ∷ inf ∷ 2 ∷ []) ∷ [])

-- K = 4: the sixth point splits page 1 in domain 3, since no other offers a cut
abbrev pub sixth : List ℕ
sixth =
    pool_of ((4 ∷ 5 ∷ 1 ∷ 1 ∷ 5 ∷ [])
    ∷ (2 ∷ 5 ∷ 0 ∷ 0 ∷ 3 ∷ 5 ∷ 9 ∷ 2 ∷ 10 ∷ 3 ∷ 5 ∷ 9 ∷ 0 ∷ 11 ∷ 3 ∷ 5 ∷ 9 ∷ 5 ∷ 12 ∷ 3 ∷ 5 ∷ 9 ∷ 3 ∷ 13 ∷ 3 ∷ 5 ∷ 9 ∷ 1 ∷ 14 ∷ [])
    ∷ []
    ∷ []
    ∷ [] ∷ [])

abbrev pub sixth_after : List ℕ
sixth_after =
    pool_of ((4 ∷ 5 ∷ 3 ∷ 2 ∷ 6 ∷ [])
    ∷ (2 ∷ 3 ∷ 0 ∷ 0 ∷ 3 ∷ 5 ∷ 9 ∷ 2 ∷ 10 ∷ 3 ∷ 5 ∷ 9 ∷ 0 ∷ 11 ∷ 3 ∷ 5 ∷ 9 ∷ 1 ∷ 14 ∷ [])
    ∷ (2 ∷ 3 ∷ 0 ∷ 0 ∷ 3 ∷ 5 ∷ 9 ∷ 5 ∷ 12 ∷ 3 ∷ 5 ∷ 9 ∷ 3 ∷ 13 ∷ 3 ∷ 5 ∷ 9 ∷ 6 ∷ 15 ∷ [])
    ∷ (1 ∷ 2 ∷ 0 ∷ 0 ∷ 0 ∷ 0 ∷ 0 ∷ 0 ∷ inf ∷ inf ∷ inf ∷ 3 ∷ 1 ∷ 0 ∷ 0 ∷ 0 ∷ 3 ∷ inf ∷ inf ∷ inf ∷ inf ∷ 2 ∷ [])
    ∷ [] ∷ [])

-- three levels, K = 4, on n pages: the root, page 5, lists page 2 alone, and that pages 4, 1 and 3, which domains 2 and 3 tell apart. The
-- sixth point of page 3 splits it along 20 in domain 2, since domains 3, 0 and 1 offer no cut, and that page 2 along 50 in domain 3, which
-- page 4 crosses
abbrev pub deep : ℕ → List (List ℕ) → List ℕ
deep n free =
    pool_of ((4 ∷ n ∷ 5 ∷ 3 ∷ 8 ∷ [])
    ∷ (2 ∷ 1 ∷ 2 ∷ 0 ∷ 1 ∷ 2 ∷ 30 ∷ 49 ∷ 11 ∷ [])
    ∷ (1 ∷ 3 ∷ 3 ∷ 0 ∷ 0 ∷ 0 ∷ 0 ∷ 0 ∷ inf ∷ inf ∷ 10 ∷ inf ∷ 4 ∷ 0 ∷ 0 ∷ 10 ∷ 0 ∷ inf ∷ inf ∷ inf ∷ 50 ∷ 1 ∷ 0 ∷ 0 ∷ 10 ∷ 50 ∷ inf ∷ inf ∷ inf ∷ inf ∷ 3 ∷ [])
    ∷ (2 ∷ 5 ∷ 3 ∷ 0 ∷ 7 ∷ 7 ∷ 12 ∷ 50 ∷ 31 ∷ 7 ∷ 7 ∷ 30 ∷ 50 ∷ 32 ∷ 7 ∷ 7 ∷ 20 ∷ 50 ∷ 33 ∷ 7 ∷ 7 ∷ 14 ∷ 50 ∷ 34 ∷ 7 ∷ 7 ∷ 25 ∷ 50 ∷ 35 ∷ [])
    ∷ (2 ∷ 2 ∷ 1 ∷ 0 ∷ 1 ∷ 2 ∷ 3 ∷ 40 ∷ 41 ∷ 1 ∷ 2 ∷ 3 ∷ 60 ∷ 42 ∷ [])
    ∷ (1 ∷ 1 ∷ 0 ∷ 0 ∷ 0 ∷ 0 ∷ 0 ∷ 0 ∷ inf ∷ inf ∷ inf ∷ inf ∷ 2 ∷ [])
    ∷ free)

abbrev pub deep_after : List ℕ
deep_after =
    pool_of ((4 ∷ 9 ∷ 5 ∷ 3 ∷ 9 ∷ [])
    ∷ (2 ∷ 1 ∷ 2 ∷ 0 ∷ 1 ∷ 2 ∷ 30 ∷ 49 ∷ 11 ∷ [])
    ∷ (1 ∷ 2 ∷ 0 ∷ 0 ∷ 0 ∷ 0 ∷ 0 ∷ 0 ∷ inf ∷ inf ∷ 10 ∷ 50 ∷ 4 ∷ 0 ∷ 0 ∷ 10 ∷ 0 ∷ inf ∷ inf ∷ inf ∷ 50 ∷ 1 ∷ [])
    ∷ (2 ∷ 3 ∷ 3 ∷ 0 ∷ 7 ∷ 7 ∷ 12 ∷ 50 ∷ 31 ∷ 7 ∷ 7 ∷ 14 ∷ 50 ∷ 34 ∷ 7 ∷ 7 ∷ 16 ∷ 50 ∷ 19 ∷ [])
    ∷ (2 ∷ 1 ∷ 1 ∷ 0 ∷ 1 ∷ 2 ∷ 3 ∷ 40 ∷ 41 ∷ [])
    ∷ (1 ∷ 2 ∷ 0 ∷ 0 ∷ 0 ∷ 0 ∷ 0 ∷ 0 ∷ inf ∷ inf ∷ inf ∷ 50 ∷ 2 ∷ 0 ∷ 0 ∷ 0 ∷ 50 ∷ inf ∷ inf ∷ inf ∷ inf ∷ 7 ∷ [])
    ∷ (2 ∷ 3 ∷ 3 ∷ 0 ∷ 7 ∷ 7 ∷ 30 ∷ 50 ∷ 32 ∷ 7 ∷ 7 ∷ 20 ∷ 50 ∷ 33 ∷ 7 ∷ 7 ∷ 25 ∷ 50 ∷ 35 ∷ [])
    ∷ (1 ∷ 3 ∷ 0 ∷ 0 ∷ 0 ∷ 0 ∷ 0 ∷ 50 ∷ inf ∷ inf ∷ 10 ∷ inf ∷ 8 ∷ 0 ∷ 0 ∷ 10 ∷ 50 ∷ inf ∷ inf ∷ 20 ∷ inf ∷ 3 ∷ 0 ∷ 0 ∷ 20 ∷ 50 ∷ inf ∷ inf ∷ inf ∷ inf ∷ 6 ∷ [])
    ∷ (2 ∷ 1 ∷ 1 ∷ 0 ∷ 1 ∷ 2 ∷ 3 ∷ 60 ∷ 42 ∷ []) ∷ [])

-- the records of 7, 7, 20, 50 and of 1, 2, 3, 60 are gone
abbrev pub deep_removed : List ℕ
deep_removed =
    pool_of ((4 ∷ 9 ∷ 5 ∷ 3 ∷ 6 ∷ [])
    ∷ (2 ∷ 1 ∷ 2 ∷ 0 ∷ 1 ∷ 2 ∷ 30 ∷ 49 ∷ 11 ∷ [])
    ∷ (1 ∷ 3 ∷ 3 ∷ 0 ∷ 0 ∷ 0 ∷ 0 ∷ 0 ∷ inf ∷ inf ∷ 10 ∷ inf ∷ 4 ∷ 0 ∷ 0 ∷ 10 ∷ 0 ∷ inf ∷ inf ∷ inf ∷ 50 ∷ 1 ∷ 0 ∷ 0 ∷ 10 ∷ 50 ∷ inf ∷ inf ∷ inf ∷ inf ∷ 3 ∷ [])
    ∷ (2 ∷ 4 ∷ 3 ∷ 0 ∷ 7 ∷ 7 ∷ 12 ∷ 50 ∷ 31 ∷ 7 ∷ 7 ∷ 30 ∷ 50 ∷ 32 ∷ 7 ∷ 7 ∷ 14 ∷ 50 ∷ 34 ∷ 7 ∷ 7 ∷ 25 ∷ 50 ∷ 35 ∷ [])
    ∷ (2 ∷ 1 ∷ 1 ∷ 0 ∷ 1 ∷ 2 ∷ 3 ∷ 40 ∷ 41 ∷ [])
    ∷ (1 ∷ 1 ∷ 0 ∷ 0 ∷ 0 ∷ 0 ∷ 0 ∷ 0 ∷ inf ∷ inf ∷ inf ∷ inf ∷ 2 ∷ [])
    ∷ []
    ∷ []
    ∷ [] ∷ [])

abbrev pub table : List Row
table =
    leaves "the first of three entries is split" first_entry (place (junk 224) (25 ∷ 60 ∷ []) 20 ∷ []) ((0 ∷ []) ∷ []) first_entry_after first_entry
    ∷ leaves "two crossing entries" two_cross (place (junk 384) (59 ∷ 26 ∷ []) 20 ∷ []) ((0 ∷ []) ∷ []) two_cross_after two_cross
    ∷ lists "an empty page is read" two_cross_after (50 ∷ 15 ∷ 60 ∷ 16 ∷ []) (9 ∷ 9 ∷ []) (0 ∷ 0 ∷ 3 ∷ []) (9 ∷ 9 ∷ [])
    ∷ lists "an empty page among others" two_cross_after (49 ∷ 5 ∷ 60 ∷ 15 ∷ []) (9 ∷ 9 ∷ 9 ∷ 9 ∷ []) (0 ∷ 2 ∷ 7 ∷ []) (44 ∷ 41 ∷ 9 ∷ 9 ∷ [])
    ∷ leaves "no page for the new root" two_cross_short (place (junk 352) (59 ∷ 26 ∷ []) 20 ∷ []) ((9 ∷ []) ∷ []) two_cross_short two_cross_short
    ∷ leaves "three levels" three_levels (place (junk 608) (55 ∷ 25 ∷ 9 ∷ 9 ∷ []) 16 ∷ []) ((0 ∷ []) ∷ []) three_levels_after three_levels
    ∷ lists "four levels in walk order" three_levels_after (0 ∷ 0 ∷ 0 ∷ 0 ∷ top ∷ top ∷ top ∷ top ∷ []) (9 ∷ 9 ∷ 9 ∷ 9 ∷ 9 ∷ 9 ∷ 9 ∷ 9 ∷ 9 ∷ 9 ∷ 9 ∷ 9 ∷ 9 ∷ []) (0 ∷ 12 ∷ 18 ∷ []) (32 ∷ 51 ∷ 31 ∷ 33 ∷ 52 ∷ 11 ∷ 12 ∷ 14 ∷ 41 ∷ 13 ∷ 15 ∷ 16 ∷ 9 ∷ [])
    ∷ lists "four levels, one slot too few" three_levels_after (0 ∷ 0 ∷ 0 ∷ 0 ∷ top ∷ top ∷ top ∷ top ∷ []) (9 ∷ 9 ∷ 9 ∷ 9 ∷ 9 ∷ 9 ∷ 9 ∷ 9 ∷ 9 ∷ 9 ∷ 9 ∷ []) (0 ∷ 12 ∷ 18 ∷ []) (32 ∷ 51 ∷ 31 ∷ 33 ∷ 52 ∷ 11 ∷ 12 ∷ 14 ∷ 41 ∷ 13 ∷ 15 ∷ [])
    ∷ leaves "K = 3, a new root above a region page" third (place (junk 384) (19 ∷ 4 ∷ 0 ∷ []) 18 ∷ []) ((0 ∷ []) ∷ []) third_after third
    ∷ leaves "K = 4, the third entry" entry (place (junk 192) (1 ∷ 1 ∷ 1 ∷ 1 ∷ []) 20 ∷ []) ((0 ∷ []) ∷ []) entry_after entry
    ∷ turns "remove below three levels" two_cross_after (remove (30 ∷ 15 ∷ []) ∷ check ∷ []) ((0 ∷ 31 ∷ []) ∷ (0 ∷ []) ∷ []) two_cross_removed
    ∷ leaves "K = 3, the eighth point" (junk 128) (format 3 ∷ stores 128 ((3 ∷ 0 ∷ 1 ∷ []) ∷ (3 ∷ 5 ∷ 1 ∷ []) ∷ (3 ∷ 2 ∷ 1 ∷ []) ∷ (3 ∷ 7 ∷ 1 ∷ []) ∷ (3 ∷ 4 ∷ 1 ∷ []) ∷ (3 ∷ 1 ∷ 1 ∷ []) ∷ (3 ∷ 6 ∷ 1 ∷ []) ∷ (3 ∷ 3 ∷ 1 ∷ []) ∷ []) 10) (done 9) eighth_after eighth
    ∷ leaves "K = 4, the sixth point" (junk 160) (format 4 ∷ stores 160 ((3 ∷ 5 ∷ 9 ∷ 2 ∷ []) ∷ (3 ∷ 5 ∷ 9 ∷ 0 ∷ []) ∷ (3 ∷ 5 ∷ 9 ∷ 5 ∷ []) ∷ (3 ∷ 5 ∷ 9 ∷ 3 ∷ []) ∷ (3 ∷ 5 ∷ 9 ∷ 1 ∷ []) ∷ (3 ∷ 5 ∷ 9 ∷ 6 ∷ []) ∷ []) 10) (done 7) sixth_after sixth
    ∷ leaves "K = 4, a crossing entry below the root" (deep 9 ([] ∷ [] ∷ [] ∷ [])) (place (junk 288) (7 ∷ 7 ∷ 16 ∷ 50 ∷ []) 19 ∷ []) (done 1) deep_after (deep 9 ([] ∷ [] ∷ [] ∷ []))
    ∷ leaves "no page for a crossing entry" (deep 8 ([] ∷ [] ∷ [])) (place (junk 256) (7 ∷ 7 ∷ 16 ∷ 50 ∷ []) 19 ∷ []) ((9 ∷ []) ∷ []) (deep 8 ([] ∷ [] ∷ [])) (deep 8 ([] ∷ [] ∷ []))
    ∷ leaves "no page for a region page's right half" (deep 7 ([] ∷ [])) (place (junk 224) (7 ∷ 7 ∷ 16 ∷ 50 ∷ []) 19 ∷ []) ((9 ∷ []) ∷ []) (deep 7 ([] ∷ [])) (deep 7 ([] ∷ []))
    ∷ tells "K = 4, a find in each page" (deep 9 ([] ∷ [] ∷ [] ∷ [])) (find (1 ∷ 2 ∷ 3 ∷ 60 ∷ []) ∷ find (1 ∷ 2 ∷ 30 ∷ 49 ∷ []) ∷ find (7 ∷ 7 ∷ 25 ∷ 50 ∷ []) ∷ []) ((0 ∷ 42 ∷ 3 ∷ []) ∷ (0 ∷ 11 ∷ 3 ∷ []) ∷ (0 ∷ 35 ∷ 3 ∷ []) ∷ [])
    ∷ lists "K = 4, a window of domain 3" (deep 9 ([] ∷ [] ∷ [] ∷ [])) (0 ∷ 0 ∷ 0 ∷ 55 ∷ top ∷ top ∷ top ∷ 60 ∷ []) (9 ∷ 9 ∷ []) (0 ∷ 1 ∷ 4 ∷ []) (42 ∷ 9 ∷ [])
    ∷ lists "K = 4, a window of domain 2" (deep 9 ([] ∷ [] ∷ [] ∷ [])) (0 ∷ 0 ∷ 11 ∷ 0 ∷ top ∷ top ∷ 19 ∷ top ∷ []) (9 ∷ 9 ∷ 9 ∷ []) (0 ∷ 2 ∷ 4 ∷ []) (31 ∷ 34 ∷ 9 ∷ [])
    ∷ turns "K = 4, a remove in the first page and in the third" (deep 9 ([] ∷ [] ∷ [] ∷ [])) (remove (7 ∷ 7 ∷ 20 ∷ 50 ∷ []) ∷ remove (1 ∷ 2 ∷ 3 ∷ 60 ∷ []) ∷ []) ((0 ∷ 33 ∷ []) ∷ (0 ∷ 42 ∷ []) ∷ []) deep_removed
    ∷ tells "K = 3, a find on each side of the cut" third_after (find (12 ∷ 4 ∷ 30 ∷ []) ∷ find (14 ∷ 4 ∷ 50 ∷ []) ∷ []) ((0 ∷ 11 ∷ 3 ∷ []) ∷ (0 ∷ 13 ∷ 3 ∷ []) ∷ [])
    ∷ lists "K = 3, a window of domain 2" third_after (0 ∷ 0 ∷ 20 ∷ top ∷ top ∷ 30 ∷ []) (9 ∷ 9 ∷ 9 ∷ []) (0 ∷ 2 ∷ 6 ∷ []) (11 ∷ 14 ∷ 9 ∷ [])
    ∷ walks "a find over four levels" three_levels_after (find (50 ∷ 10 ∷ 0 ∷ 1 ∷ [])) (0 ∷ 52 ∷ 4 ∷ []) [] (18 ∷ 10 ∷ 15 ∷ 17 ∷ [])
    ∷ []

pub choices : pass_all table ≡ true
unfolding outcome good_length good_header sound
choices = refl
