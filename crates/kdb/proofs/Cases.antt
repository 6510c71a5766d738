-- The starred cases of document 01: one table, one statement, `starred`.
use mathlib.Core.List.{List, [], ◌∷◌, ◌++◌, map}
use mathlib.Core.Bool.{true}
use mathlib.Core.Path.{◌≡◌, refl}
use Prim.Native.Nat.{ℕ, zero, suc, ◌+◌}
use lib.ListN.{replicate}
use Rattle.kdb.specs.Pages.{regions_per, points_per}
use Rattle.kdb.specs.Pool.{good_length, good_header}
use Rattle.kdb.specs.Print.{sound}
use Rattle.kdb.specs.Calls.{L, Call, format, check, place, remove, find, list, outcome}
use Rattle.kdb.proofs.Rows.{Row, pass_all, tells, turns, leaves, lists, junk, pool_of, done, top, inf}

-- n placings with the keys a, a + 10, .. of K 1, each with its key as location
abbrev pub tens : ℕ → ℕ → ℕ → List Call
tens zero words a = []
tens (suc n) words a = place (junk words) (a ∷ []) a ∷ tens n words (a + 10)

-- n placings of the first key x and the second keys y, y + 1, .., with locations from l on
abbrev pub column : ℕ → ℕ → ℕ → ℕ → List Call
column zero x y l = []
column (suc n) x y l = place (junk 128) (x ∷ y ∷ []) l ∷ column n x (y + 1) (l + 1)

-- case 6 before and after the fifteenth placing, on n pages
abbrev pub fourteen : ℕ → List (List ℕ) → List ℕ
fourteen n rest =
    pool_of ((1 ∷ n ∷ 1 ∷ 1 ∷ 14 ∷ [])
    ∷ (2 ∷ 14 ∷ 0 ∷ 0 ∷ 10 ∷ 10 ∷ 20 ∷ 20 ∷ 30 ∷ 30 ∷ 40 ∷ 40 ∷ 50 ∷ 50 ∷ 60 ∷ 60 ∷ 70 ∷ 70 ∷ 80 ∷ 80 ∷ 90 ∷ 90 ∷ 100 ∷ 100 ∷ 110 ∷ 110 ∷ 120 ∷ 120 ∷ 130 ∷ 130 ∷ 140 ∷ 140 ∷ [])
    ∷ rest)

abbrev pub fifteen : List ℕ
fifteen =
    pool_of ((1 ∷ 4 ∷ 3 ∷ 2 ∷ 15 ∷ [])
    ∷ (2 ∷ 7 ∷ 0 ∷ 0 ∷ 10 ∷ 10 ∷ 20 ∷ 20 ∷ 30 ∷ 30 ∷ 40 ∷ 40 ∷ 50 ∷ 50 ∷ 60 ∷ 60 ∷ 70 ∷ 70 ∷ [])
    ∷ (2 ∷ 8 ∷ 0 ∷ 0 ∷ 80 ∷ 80 ∷ 90 ∷ 90 ∷ 100 ∷ 100 ∷ 110 ∷ 110 ∷ 120 ∷ 120 ∷ 130 ∷ 130 ∷ 140 ∷ 140 ∷ 150 ∷ 150 ∷ [])
    ∷ (1 ∷ 2 ∷ 0 ∷ 0 ∷ 0 ∷ 80 ∷ 1 ∷ 80 ∷ inf ∷ 2 ∷ []) ∷ [])

abbrev pub without_30 : List ℕ
without_30 =
    pool_of ((1 ∷ 4 ∷ 3 ∷ 2 ∷ 14 ∷ [])
    ∷ (2 ∷ 6 ∷ 0 ∷ 0 ∷ 10 ∷ 10 ∷ 20 ∷ 20 ∷ 40 ∷ 40 ∷ 50 ∷ 50 ∷ 60 ∷ 60 ∷ 70 ∷ 70 ∷ [])
    ∷ (2 ∷ 8 ∷ 0 ∷ 0 ∷ 80 ∷ 80 ∷ 90 ∷ 90 ∷ 100 ∷ 100 ∷ 110 ∷ 110 ∷ 120 ∷ 120 ∷ 130 ∷ 130 ∷ 140 ∷ 140 ∷ 150 ∷ 150 ∷ [])
    ∷ (1 ∷ 2 ∷ 0 ∷ 0 ∷ 0 ∷ 80 ∷ 1 ∷ 80 ∷ inf ∷ 2 ∷ []) ∷ [])

-- case 9 before and after the tenth placing
abbrev pub nine_fives : List ℕ
nine_fives =
    pool_of ((2 ∷ 4 ∷ 1 ∷ 1 ∷ 9 ∷ [])
    ∷ (2 ∷ 9 ∷ 0 ∷ 0 ∷ 5 ∷ 0 ∷ 100 ∷ 5 ∷ 1 ∷ 101 ∷ 5 ∷ 2 ∷ 102 ∷ 5 ∷ 3 ∷ 103 ∷ 5 ∷ 4 ∷ 104 ∷ 5 ∷ 5 ∷ 105 ∷ 5 ∷ 6 ∷ 106 ∷ 5 ∷ 7 ∷ 107 ∷ 5 ∷ 8 ∷ 108 ∷ [])
    ∷ [] ∷ [] ∷ [])

abbrev pub ten_fives : List ℕ
ten_fives =
    pool_of ((2 ∷ 4 ∷ 3 ∷ 2 ∷ 10 ∷ [])
    ∷ (2 ∷ 5 ∷ 0 ∷ 0 ∷ 5 ∷ 0 ∷ 100 ∷ 5 ∷ 1 ∷ 101 ∷ 5 ∷ 2 ∷ 102 ∷ 5 ∷ 3 ∷ 103 ∷ 5 ∷ 4 ∷ 104 ∷ [])
    ∷ (2 ∷ 5 ∷ 0 ∷ 0 ∷ 5 ∷ 5 ∷ 105 ∷ 5 ∷ 6 ∷ 106 ∷ 5 ∷ 7 ∷ 107 ∷ 5 ∷ 8 ∷ 108 ∷ 5 ∷ 9 ∷ 109 ∷ [])
    ∷ (1 ∷ 2 ∷ 0 ∷ 0 ∷ 0 ∷ 0 ∷ inf ∷ 5 ∷ 1 ∷ 0 ∷ 5 ∷ inf ∷ inf ∷ 2 ∷ []) ∷ [])

-- case 10 before and after the tenth placing
abbrev pub nine_threes : List ℕ
nine_threes =
    pool_of ((2 ∷ 4 ∷ 1 ∷ 1 ∷ 9 ∷ [])
    ∷ (2 ∷ 9 ∷ 0 ∷ 0 ∷ 3 ∷ 0 ∷ 200 ∷ 3 ∷ 1 ∷ 201 ∷ 3 ∷ 2 ∷ 202 ∷ 3 ∷ 3 ∷ 203 ∷ 3 ∷ 4 ∷ 204 ∷ 3 ∷ 5 ∷ 205 ∷ 3 ∷ 6 ∷ 206 ∷ 3 ∷ 7 ∷ 207 ∷ 3 ∷ 8 ∷ 208 ∷ [])
    ∷ [] ∷ [] ∷ [])

abbrev pub one_eight : List ℕ
one_eight =
    pool_of ((2 ∷ 4 ∷ 3 ∷ 2 ∷ 10 ∷ [])
    ∷ (2 ∷ 9 ∷ 1 ∷ 0 ∷ 3 ∷ 0 ∷ 200 ∷ 3 ∷ 1 ∷ 201 ∷ 3 ∷ 2 ∷ 202 ∷ 3 ∷ 3 ∷ 203 ∷ 3 ∷ 4 ∷ 204 ∷ 3 ∷ 5 ∷ 205 ∷ 3 ∷ 6 ∷ 206 ∷ 3 ∷ 7 ∷ 207 ∷ 3 ∷ 8 ∷ 208 ∷ [])
    ∷ (2 ∷ 1 ∷ 1 ∷ 0 ∷ 8 ∷ 9 ∷ 209 ∷ [])
    ∷ (1 ∷ 2 ∷ 0 ∷ 0 ∷ 0 ∷ 0 ∷ 8 ∷ inf ∷ 1 ∷ 8 ∷ 0 ∷ inf ∷ inf ∷ 2 ∷ []) ∷ [])

-- a full root: placing 27, 7 splits page 6, then the root along 5 in domain 0, which the region of page 4 crosses and that of page 6 touches
abbrev pub uncrossed : List ℕ
uncrossed =
    pool_of ((2 ∷ 11 ∷ 3 ∷ 2 ∷ 28 ∷ [])
    ∷ (2 ∷ 2 ∷ 1 ∷ 0 ∷ 1 ∷ 28 ∷ 16 ∷ 4 ∷ 12 ∷ 21 ∷ [])
    ∷ (2 ∷ 5 ∷ 0 ∷ 0 ∷ 36 ∷ 5 ∷ 3 ∷ 39 ∷ 7 ∷ 7 ∷ 33 ∷ 15 ∷ 17 ∷ 37 ∷ 15 ∷ 19 ∷ 34 ∷ 9 ∷ 25 ∷ [])
    ∷ (1 ∷ 5 ∷ 0 ∷ 0 ∷ 0 ∷ 0 ∷ 5 ∷ 29 ∷ 1 ∷ 31 ∷ 0 ∷ inf ∷ 24 ∷ 2 ∷ 0 ∷ 29 ∷ 31 ∷ inf ∷ 4 ∷ 31 ∷ 24 ∷ inf ∷ inf ∷ 5 ∷ 5 ∷ 0 ∷ 31 ∷ 29 ∷ 6 ∷ [])
    ∷ (2 ∷ 7 ∷ 0 ∷ 0 ∷ 2 ∷ 37 ∷ 0 ∷ 26 ∷ 37 ∷ 5 ∷ 6 ∷ 31 ∷ 10 ∷ 16 ∷ 36 ∷ 11 ∷ 13 ∷ 29 ∷ 14 ∷ 13 ∷ 39 ∷ 18 ∷ 22 ∷ 39 ∷ 28 ∷ [])
    ∷ (2 ∷ 5 ∷ 0 ∷ 0 ∷ 31 ∷ 24 ∷ 2 ∷ 39 ∷ 30 ∷ 8 ∷ 34 ∷ 38 ∷ 9 ∷ 31 ∷ 36 ∷ 20 ∷ 36 ∷ 34 ∷ 22 ∷ [])
    ∷ (2 ∷ 9 ∷ 1 ∷ 0 ∷ 5 ∷ 3 ∷ 1 ∷ 30 ∷ 14 ∷ 4 ∷ 5 ∷ 26 ∷ 6 ∷ 5 ∷ 18 ∷ 12 ∷ 29 ∷ 20 ∷ 15 ∷ 5 ∷ 23 ∷ 23 ∷ 19 ∷ 19 ∷ 24 ∷ 26 ∷ 21 ∷ 26 ∷ 11 ∷ 0 ∷ 27 ∷ [])
    ∷ [] ∷ [] ∷ [] ∷ [] ∷ [])

abbrev pub crossed : List ℕ
crossed =
    pool_of ((2 ∷ 11 ∷ 10 ∷ 3 ∷ 29 ∷ [])
    ∷ (2 ∷ 2 ∷ 1 ∷ 0 ∷ 1 ∷ 28 ∷ 16 ∷ 4 ∷ 12 ∷ 21 ∷ [])
    ∷ (2 ∷ 5 ∷ 0 ∷ 0 ∷ 36 ∷ 5 ∷ 3 ∷ 39 ∷ 7 ∷ 7 ∷ 33 ∷ 15 ∷ 17 ∷ 37 ∷ 15 ∷ 19 ∷ 34 ∷ 9 ∷ 25 ∷ [])
    ∷ (1 ∷ 2 ∷ 1 ∷ 0 ∷ 0 ∷ 0 ∷ 5 ∷ 29 ∷ 1 ∷ 0 ∷ 29 ∷ 5 ∷ inf ∷ 4 ∷ [])
    ∷ (2 ∷ 1 ∷ 0 ∷ 0 ∷ 2 ∷ 37 ∷ [])
    ∷ (2 ∷ 5 ∷ 0 ∷ 0 ∷ 31 ∷ 24 ∷ 2 ∷ 39 ∷ 30 ∷ 8 ∷ 34 ∷ 38 ∷ 9 ∷ 31 ∷ 36 ∷ 20 ∷ 36 ∷ 34 ∷ 22 ∷ [])
    ∷ (2 ∷ 5 ∷ 0 ∷ 0 ∷ 5 ∷ 3 ∷ 1 ∷ 30 ∷ 14 ∷ 4 ∷ 5 ∷ 18 ∷ 12 ∷ 11 ∷ 0 ∷ 27 ∷ 27 ∷ 7 ∷ 29 ∷ [])
    ∷ (2 ∷ 5 ∷ 0 ∷ 0 ∷ 5 ∷ 26 ∷ 6 ∷ 29 ∷ 20 ∷ 15 ∷ 5 ∷ 23 ∷ 23 ∷ 19 ∷ 19 ∷ 24 ∷ 26 ∷ 21 ∷ 26 ∷ [])
    ∷ (1 ∷ 5 ∷ 1 ∷ 0 ∷ 31 ∷ 0 ∷ inf ∷ 24 ∷ 2 ∷ 5 ∷ 29 ∷ 31 ∷ inf ∷ 9 ∷ 31 ∷ 24 ∷ inf ∷ inf ∷ 5 ∷ 5 ∷ 0 ∷ 31 ∷ 19 ∷ 6 ∷ 5 ∷ 19 ∷ 31 ∷ 29 ∷ 7 ∷ [])
    ∷ (2 ∷ 6 ∷ 0 ∷ 0 ∷ 26 ∷ 37 ∷ 5 ∷ 6 ∷ 31 ∷ 10 ∷ 16 ∷ 36 ∷ 11 ∷ 13 ∷ 29 ∷ 14 ∷ 13 ∷ 39 ∷ 18 ∷ 22 ∷ 39 ∷ 28 ∷ [])
    ∷ (1 ∷ 2 ∷ 0 ∷ 0 ∷ 0 ∷ 0 ∷ 5 ∷ inf ∷ 3 ∷ 5 ∷ 0 ∷ inf ∷ inf ∷ 8 ∷ []) ∷ [])

-- spoilt pools: page 1 has one entry, [0, hi) with page 2; page 1 names page 2 twice
abbrev pub one_entry : ℕ → List ℕ → List ℕ
one_entry hi page = pool_of ((1 ∷ 3 ∷ 1 ∷ 2 ∷ []) ∷ (1 ∷ 1 ∷ 0 ∷ 0 ∷ 0 ∷ hi ∷ 2 ∷ []) ∷ page ∷ [])

abbrev pub named_twice : List ℕ
named_twice = pool_of ((1 ∷ 3 ∷ 1 ∷ 2 ∷ []) ∷ (1 ∷ 2 ∷ 0 ∷ 0 ∷ 0 ∷ inf ∷ 2 ∷ 0 ∷ inf ∷ 2 ∷ []) ∷ (2 ∷ 1 ∷ 0 ∷ 0 ∷ 5 ∷ 7 ∷ []) ∷ [])

abbrev pub table : List Row
table =
    -- 1. lengths 64 and 16,384 are taken; 0, 32, 63 and 16,416 give 1
    turns "1: format of 64 words" (junk 64) (format 2 ∷ []) (done 1) (2 ∷ 2 ∷ replicate 62 0)
    ∷ tells "1: format of 16,384 words" (junk 16384) (format 1 ∷ check ∷ []) (done 2)
    ∷ tells "1: format of no words" [] (format 1 ∷ []) ((1 ∷ []) ∷ [])
    ∷ tells "1: format of 32 words" (junk 32) (format 1 ∷ []) ((1 ∷ []) ∷ [])
    ∷ tells "1: format of 63 words" (junk 63) (format 1 ∷ []) ((1 ∷ []) ∷ [])
    ∷ tells "1: format of 16,416 words" (junk 16416) (format 1 ∷ []) ((1 ∷ []) ∷ [])
    -- 2. K 0 and K 5 give 2; K 5 with 63 words gives 1
    ∷ tells "2: K 0 and K 5" (junk 64) (format 0 ∷ format 5 ∷ []) ((2 ∷ []) ∷ (2 ∷ []) ∷ [])
    ∷ tells "2: K 5 with 63 words" (junk 63) (format 5 ∷ []) ((1 ∷ []) ∷ [])
    -- 3. the key 4,294,967,294 is placed; 4,294,967,295 gives 4
    ∷ tells "3: the last key and ∞" (junk 64) (format 1 ∷ place (junk 64) (top ∷ []) 3 ∷ place (junk 64) (inf ∷ []) 3 ∷ find (top ∷ []) ∷ find (inf ∷ []) ∷ [])
    ((0 ∷ []) ∷ (0 ∷ []) ∷ (4 ∷ []) ∷ (0 ∷ 3 ∷ 1 ∷ []) ∷ (4 ∷ []) ∷ [])
    -- 4. lower 6, upper 5 gives 5; 5 and 5 is taken; lower 6, upper 4,294,967,295 gives 4
    ∷ tells "4: windows" (junk 64) (format 1 ∷ list (6 ∷ 5 ∷ []) [] ∷ list (5 ∷ 5 ∷ []) [] ∷ list (6 ∷ inf ∷ []) [] ∷ [])
    ((0 ∷ []) ∷ (5 ∷ []) ∷ (0 ∷ 0 ∷ 0 ∷ []) ∷ (4 ∷ []) ∷ [])
    -- 5. nothing placed: a list has total 0 and reads 0
    ∷ lists "5: nothing placed" (2 ∷ 2 ∷ replicate 62 0) (0 ∷ 0 ∷ top ∷ top ∷ []) (9 ∷ 9 ∷ []) (0 ∷ 0 ∷ 0 ∷ []) (9 ∷ 9 ∷ [])
    -- 6. K 1, keys 10, 20 .. 150 in order: the fifteenth cuts at 80
    ∷ leaves "6: the fifteenth key" (junk 128) (format 1 ∷ tens 15 128 10) (done 16) fifteen (fourteen 4 ([] ∷ [] ∷ []))
    -- 7. the same with N = 3: the fifteenth gives 9
    ∷ leaves "7: the same with N = 3" (junk 96) (format 1 ∷ tens 15 96 10) (done 15 ++ ((9 ∷ []) ∷ [])) (fourteen 3 ([] ∷ [])) (fourteen 3 ([] ∷ []))
    -- 8. in case 6, window 80 to 80 reads 2 pages, total 1; 79 to 80 reads 3, total 1; 70 to 79 reads 2, total 1
    ∷ lists "8: 80 to 80" fifteen (80 ∷ 80 ∷ []) (9 ∷ 9 ∷ []) (0 ∷ 1 ∷ 2 ∷ []) (80 ∷ 9 ∷ [])
    ∷ lists "8: 79 to 80" fifteen (79 ∷ 80 ∷ []) (9 ∷ 9 ∷ []) (0 ∷ 1 ∷ 3 ∷ []) (80 ∷ 9 ∷ [])
    ∷ lists "8: 70 to 79" fifteen (70 ∷ 79 ∷ []) (9 ∷ 9 ∷ []) (0 ∷ 1 ∷ 2 ∷ []) (70 ∷ 9 ∷ [])
    -- 9. K 2, ten points with first key 5 and second keys 0 to 9: the cut is 5 in domain 1; both pages get domain 0
    ∷ leaves "9: ten first keys of 5" (junk 128) (format 2 ∷ column 10 5 0 100) (done 11) ten_fives nine_fives
    -- 10. K 2, first keys nine 3s and one 8, second keys all different: the cut is 8 in domain 0, nine left and one right
    ∷ leaves "10: nine 3s and one 8" (junk 128) (format 2 ∷ (column 9 3 0 200 ++ column 1 8 9 209)) (done 11) one_eight nine_threes
    -- besides the ten: a chosen split of a region page with a crossing entry
    ∷ leaves "one crossing entry" uncrossed (place (junk 352) (27 ∷ 7 ∷ []) 29 ∷ []) (done 1) crossed uncrossed
    ∷ tells "one crossing entry, checked" crossed (check ∷ []) (done 1)
    -- a remove closes the gap, keeps the order and lowers word 4
    ∷ turns "remove of 30" fifteen (remove (30 ∷ []) ∷ []) ((0 ∷ 30 ∷ []) ∷ []) without_30
    -- a refused place leaves work
    ∷ leaves "place of a key that is there" fifteen (place (junk 128) (80 ∷ []) 5 ∷ []) ((7 ∷ []) ∷ []) fifteen (junk 128)
    ∷ leaves "place of ∞" fifteen (place (junk 128) (inf ∷ []) 5 ∷ []) ((4 ∷ []) ∷ []) fifteen (junk 128)
    ∷ leaves "place with a short work buffer" fifteen (place (junk 96) (5 ∷ []) 5 ∷ []) ((3 ∷ []) ∷ []) fifteen (junk 96)
    -- a bad page: 6, every slot 0
    ∷ lists "list at a free page" (one_entry inf []) (0 ∷ top ∷ []) (9 ∷ 9 ∷ []) (6 ∷ []) (0 ∷ 0 ∷ [])
    -- pages 1, 2 and 2 again would be N pages read: 6, every slot 0; a find reads 2
    ∷ lists "list of N pages" named_twice (0 ∷ top ∷ []) (9 ∷ 9 ∷ []) (6 ∷ []) (0 ∷ 0 ∷ [])
    ∷ tells "find in a page named twice" named_twice (find (5 ∷ []) ∷ []) ((0 ∷ 7 ∷ 2 ∷ []) ∷ [])
    -- no entry holds the point: find 6; the window meets no entry: one page read, the slots unchanged
    ∷ tells "find where no entry holds the point" (one_entry 10 (2 ∷ [])) (find (20 ∷ []) ∷ []) ((6 ∷ []) ∷ [])
    ∷ lists "list where no entry meets the window" (one_entry 10 (2 ∷ [])) (20 ∷ 20 ∷ []) (9 ∷ 9 ∷ []) (0 ∷ 0 ∷ 1 ∷ []) (9 ∷ 9 ∷ [])
    ∷ []

pub starred : pass_all table ≡ true
unfolding outcome good_length good_header sound
starred = refl

-- document 01's table of R and P is the rule that the definitions use
pub capacities : (map (regions_per L) (1 ∷ 2 ∷ 3 ∷ 4 ∷ []) ≡ 9 ∷ 5 ∷ 4 ∷ 3 ∷ []) × (map (points_per L) (1 ∷ 2 ∷ 3 ∷ 4 ∷ []) ≡ 14 ∷ 9 ∷ 7 ∷ 5 ∷ [])
capacities = (refl, refl)
