-- Refusals in their order, headers, pools that are not sound, bad pages and removals: one table, one statement, `spoilt`. Every answer, word
-- and walk here was given by the second program (rust/second), not by the definitions.
use mathlib.Core.Bool.{true}
use mathlib.Core.List.{List, [], ◌∷◌}
use mathlib.Core.Path.{◌≡◌, refl}
use Prim.Native.Nat.{ℕ}
use Rattle.kdb.specs.Pool.{good_length, good_header}
use Rattle.kdb.specs.Print.{sound}
use Rattle.kdb.specs.Calls.{format, check, place, remove, find, list, outcome}
use Rattle.kdb.proofs.Rows.{Row, pass_all, tells, turns, leaves, walks, unsound, junk, but, pool_of, done, top, inf}

-- two levels, K = 1: page 1 lists pages 2 and 3, page 4 is free
abbrev pub two : List ℕ
two =
    pool_of ((1 ∷ 5 ∷ 1 ∷ 2 ∷ 4 ∷ [])
    ∷ (1 ∷ 2 ∷ 0 ∷ 0 ∷ 0 ∷ 50 ∷ 2 ∷ 50 ∷ inf ∷ 3 ∷ [])
    ∷ (2 ∷ 2 ∷ 0 ∷ 0 ∷ 10 ∷ 11 ∷ 20 ∷ 12 ∷ [])
    ∷ (2 ∷ 2 ∷ 0 ∷ 0 ∷ 60 ∷ 13 ∷ 70 ∷ 14 ∷ [])
    ∷ [] ∷ [])

-- two levels, K = 4: page 3 lists pages 1 and 2, cut at 3 in domain 3
abbrev pub cut_3 : List ℕ
cut_3 =
    pool_of ((4 ∷ 4 ∷ 3 ∷ 2 ∷ 2 ∷ [])
    ∷ (2 ∷ 1 ∷ 0 ∷ 0 ∷ 3 ∷ 5 ∷ 9 ∷ 2 ∷ 10 ∷ [])
    ∷ (2 ∷ 1 ∷ 0 ∷ 0 ∷ 3 ∷ 5 ∷ 9 ∷ 3 ∷ 11 ∷ [])
    ∷ (1 ∷ 2 ∷ 0 ∷ 0 ∷ 0 ∷ 0 ∷ 0 ∷ 0 ∷ inf ∷ inf ∷ inf ∷ 3 ∷ 1 ∷ 0 ∷ 0 ∷ 0 ∷ 3 ∷ inf ∷ inf ∷ inf ∷ inf ∷ 2 ∷ []) ∷ [])

abbrev pub table : List Row
table =
    -- the order of the refusals: the pool's length before the header, the header before lengths, lengths before ∞, ∞ before a crossed window,
    -- all these before the pool's own faults
    turns "no words: 1" (junk 0) (check ∷ place [] (inf ∷ []) 1 ∷ remove (inf ∷ []) ∷ find (inf ∷ []) ∷ list (inf ∷ []) [] ∷ []) ((1 ∷ []) ∷ (1 ∷ []) ∷ (1 ∷ []) ∷ (1 ∷ []) ∷ (1 ∷ []) ∷ []) (junk 0)
    ∷ turns "32 words: 1" (junk 32) (check ∷ place [] (inf ∷ []) 1 ∷ remove (inf ∷ []) ∷ find (inf ∷ []) ∷ list (inf ∷ []) [] ∷ []) ((1 ∷ []) ∷ (1 ∷ []) ∷ (1 ∷ []) ∷ (1 ∷ []) ∷ (1 ∷ []) ∷ []) (junk 32)
    ∷ turns "63 words: 1" (junk 63) (check ∷ place [] (inf ∷ []) 1 ∷ remove (inf ∷ []) ∷ find (inf ∷ []) ∷ list (inf ∷ []) [] ∷ []) ((1 ∷ []) ∷ (1 ∷ []) ∷ (1 ∷ []) ∷ (1 ∷ []) ∷ (1 ∷ []) ∷ []) (junk 63)
    ∷ turns "95 words: 1" (junk 95) (check ∷ place [] (inf ∷ []) 1 ∷ remove (inf ∷ []) ∷ find (inf ∷ []) ∷ list (inf ∷ []) [] ∷ []) ((1 ∷ []) ∷ (1 ∷ []) ∷ (1 ∷ []) ∷ (1 ∷ []) ∷ (1 ∷ []) ∷ []) (junk 95)
    ∷ turns "a bad header: 6" (junk 64) (check ∷ place [] (inf ∷ []) 1 ∷ remove (inf ∷ []) ∷ find (inf ∷ []) ∷ list (inf ∷ []) [] ∷ []) ((6 ∷ []) ∷ (6 ∷ []) ∷ (6 ∷ []) ∷ (6 ∷ []) ∷ (6 ∷ []) ∷ []) (junk 64)
    ∷ turns "a point or a window of another length: 3" two (place (junk 160) (inf ∷ inf ∷ []) 1 ∷ place (junk 160) [] 1 ∷ place (junk 159) (inf ∷ []) 1 ∷ remove (inf ∷ inf ∷ []) ∷ remove [] ∷ find (inf ∷ inf ∷ []) ∷ find [] ∷ list (inf ∷ []) [] ∷ list (inf ∷ inf ∷ inf ∷ []) [] ∷ list [] [] ∷ []) ((3 ∷ []) ∷ (3 ∷ []) ∷ (3 ∷ []) ∷ (3 ∷ []) ∷ (3 ∷ []) ∷ (3 ∷ []) ∷ (3 ∷ []) ∷ (3 ∷ []) ∷ (3 ∷ []) ∷ (3 ∷ []) ∷ []) two
    ∷ turns "∞: 4" (but 4 5 (but 32 0 two)) (place (junk 160) (inf ∷ []) 1 ∷ remove (inf ∷ []) ∷ find (inf ∷ []) ∷ list (inf ∷ 5 ∷ []) [] ∷ list (6 ∷ inf ∷ []) [] ∷ []) ((4 ∷ []) ∷ (4 ∷ []) ∷ (4 ∷ []) ∷ (4 ∷ []) ∷ (4 ∷ []) ∷ []) (but 4 5 (but 32 0 two))
    ∷ turns "∞ in domain 3: 4" cut_3 (place (junk 128) (0 ∷ 0 ∷ 0 ∷ inf ∷ []) 1 ∷ remove (0 ∷ 0 ∷ 0 ∷ inf ∷ []) ∷ find (0 ∷ 0 ∷ 0 ∷ inf ∷ []) ∷ list (0 ∷ 0 ∷ 0 ∷ 0 ∷ 9 ∷ 9 ∷ 9 ∷ inf ∷ []) [] ∷ []) ((4 ∷ []) ∷ (4 ∷ []) ∷ (4 ∷ []) ∷ (4 ∷ []) ∷ []) cut_3
    ∷ turns "a crossed window: 5" (but 32 0 two) (list (6 ∷ 5 ∷ []) [] ∷ []) ((5 ∷ []) ∷ []) (but 32 0 two)
    ∷ tells "a window crossed in domain 1: 5" (pool_of ((2 ∷ 2 ∷ []) ∷ [] ∷ [])) (list (0 ∷ 6 ∷ 9 ∷ 5 ∷ []) [] ∷ []) ((5 ∷ []) ∷ [])
    ∷ tells "a window crossed in domain 3: 5" cut_3 (list (0 ∷ 0 ∷ 0 ∷ 6 ∷ 9 ∷ 9 ∷ 9 ∷ 5 ∷ []) [] ∷ []) ((5 ∷ []) ∷ [])
    ∷ turns "not sound: 6 before 7 and 8" (but 4 5 two) (place (junk 160) (10 ∷ []) 1 ∷ place (junk 160) (11 ∷ []) 1 ∷ remove (10 ∷ []) ∷ remove (11 ∷ []) ∷ find (10 ∷ []) ∷ find (11 ∷ []) ∷ list (0 ∷ 99 ∷ []) [] ∷ []) ((6 ∷ []) ∷ (6 ∷ []) ∷ (6 ∷ []) ∷ (6 ∷ []) ∷ (0 ∷ 11 ∷ 2 ∷ []) ∷ (8 ∷ []) ∷ (0 ∷ 4 ∷ 3 ∷ []) ∷ []) (but 4 5 two)
    ∷ turns "nothing there: 8" two (remove (11 ∷ []) ∷ find (11 ∷ []) ∷ find (50 ∷ []) ∷ remove (99 ∷ []) ∷ []) ((8 ∷ []) ∷ (8 ∷ []) ∷ (8 ∷ []) ∷ (8 ∷ []) ∷ []) two
    ∷ turns "no root: 8" (pool_of ((1 ∷ 2 ∷ []) ∷ [] ∷ [])) (remove (11 ∷ []) ∷ find (11 ∷ []) ∷ []) ((8 ∷ []) ∷ (8 ∷ []) ∷ []) (pool_of ((1 ∷ 2 ∷ []) ∷ [] ∷ []))
    ∷ leaves "no free page: 7 before 9" (pool_of ((1 ∷ 2 ∷ 1 ∷ 1 ∷ 14 ∷ []) ∷ (2 ∷ 14 ∷ 0 ∷ 0 ∷ 0 ∷ 0 ∷ 1 ∷ 1 ∷ 2 ∷ 2 ∷ 3 ∷ 3 ∷ 4 ∷ 4 ∷ 5 ∷ 5 ∷ 6 ∷ 6 ∷ 7 ∷ 7 ∷ 8 ∷ 8 ∷ 9 ∷ 9 ∷ 10 ∷ 10 ∷ 11 ∷ 11 ∷ 12 ∷ 12 ∷ 13 ∷ 13 ∷ []) ∷ [])) (place (junk 64) (3 ∷ []) 1 ∷ []) ((7 ∷ []) ∷ []) (pool_of ((1 ∷ 2 ∷ 1 ∷ 1 ∷ 14 ∷ []) ∷ (2 ∷ 14 ∷ 0 ∷ 0 ∷ 0 ∷ 0 ∷ 1 ∷ 1 ∷ 2 ∷ 2 ∷ 3 ∷ 3 ∷ 4 ∷ 4 ∷ 5 ∷ 5 ∷ 6 ∷ 6 ∷ 7 ∷ 7 ∷ 8 ∷ 8 ∷ 9 ∷ 9 ∷ 10 ∷ 10 ∷ 11 ∷ 11 ∷ 12 ∷ 12 ∷ 13 ∷ 13 ∷ []) ∷ [])) (junk 64)
    ∷ leaves "no free page: 9" (pool_of ((1 ∷ 2 ∷ 1 ∷ 1 ∷ 14 ∷ []) ∷ (2 ∷ 14 ∷ 0 ∷ 0 ∷ 0 ∷ 0 ∷ 1 ∷ 1 ∷ 2 ∷ 2 ∷ 3 ∷ 3 ∷ 4 ∷ 4 ∷ 5 ∷ 5 ∷ 6 ∷ 6 ∷ 7 ∷ 7 ∷ 8 ∷ 8 ∷ 9 ∷ 9 ∷ 10 ∷ 10 ∷ 11 ∷ 11 ∷ 12 ∷ 12 ∷ 13 ∷ 13 ∷ []) ∷ [])) (place (junk 64) (33 ∷ []) 1 ∷ []) ((9 ∷ []) ∷ []) (pool_of ((1 ∷ 2 ∷ 1 ∷ 1 ∷ 14 ∷ []) ∷ (2 ∷ 14 ∷ 0 ∷ 0 ∷ 0 ∷ 0 ∷ 1 ∷ 1 ∷ 2 ∷ 2 ∷ 3 ∷ 3 ∷ 4 ∷ 4 ∷ 5 ∷ 5 ∷ 6 ∷ 6 ∷ 7 ∷ 7 ∷ 8 ∷ 8 ∷ 9 ∷ 9 ∷ 10 ∷ 10 ∷ 11 ∷ 11 ∷ 12 ∷ 12 ∷ 13 ∷ 13 ∷ []) ∷ [])) (pool_of ((1 ∷ 2 ∷ 1 ∷ 1 ∷ 14 ∷ []) ∷ (2 ∷ 14 ∷ 0 ∷ 0 ∷ 0 ∷ 0 ∷ 1 ∷ 1 ∷ 2 ∷ 2 ∷ 3 ∷ 3 ∷ 4 ∷ 4 ∷ 5 ∷ 5 ∷ 6 ∷ 6 ∷ 7 ∷ 7 ∷ 8 ∷ 8 ∷ 9 ∷ 9 ∷ 10 ∷ 10 ∷ 11 ∷ 11 ∷ 12 ∷ 12 ∷ 13 ∷ 13 ∷ []) ∷ []))
    -- a refusal leaves pool, work and slots
    ∷ turns "a refused format" (junk 64) (format 5 ∷ []) ((2 ∷ []) ∷ []) (junk 64)
    ∷ leaves "place on a bad header" (but 1 4 two) (place (junk 160) (11 ∷ []) 1 ∷ []) ((6 ∷ []) ∷ []) (but 1 4 two) (junk 160)
    ∷ leaves "place on a pool that is not sound" (but 4 5 two) (place (junk 160) (11 ∷ []) 1 ∷ []) ((6 ∷ []) ∷ []) (but 4 5 two) (junk 160)
    ∷ walks "list of a short window" two (list (1 ∷ []) (9 ∷ 9 ∷ [])) (3 ∷ []) (9 ∷ 9 ∷ []) []
    ∷ walks "list of ∞" two (list (0 ∷ inf ∷ []) (9 ∷ 9 ∷ [])) (4 ∷ []) (9 ∷ 9 ∷ []) []
    ∷ walks "list of a crossed window" two (list (6 ∷ 5 ∷ []) (9 ∷ 9 ∷ [])) (5 ∷ []) (9 ∷ 9 ∷ []) []
    ∷ walks "list on a bad header" (but 1 4 two) (list (0 ∷ 9 ∷ []) (9 ∷ 9 ∷ [])) (6 ∷ []) (9 ∷ 9 ∷ []) []
    ∷ walks "find of a long point" two (find (10 ∷ 10 ∷ [])) (3 ∷ []) [] []
    -- the header, word by word; with a good header a find of two keys is 3
    ∷ tells "K 0" (but 0 0 two) (find (1 ∷ 1 ∷ []) ∷ []) ((6 ∷ []) ∷ [])
    ∷ tells "K 5" (but 0 5 two) (find (1 ∷ 1 ∷ []) ∷ []) ((6 ∷ []) ∷ [])
    ∷ tells "word 1 is not N" (but 1 4 two) (find (1 ∷ 1 ∷ []) ∷ []) ((6 ∷ []) ∷ [])
    ∷ tells "the root is page N − 1" (but 2 4 two) (find (1 ∷ 1 ∷ []) ∷ []) ((3 ∷ []) ∷ [])
    ∷ tells "the root is page N" (but 2 5 two) (find (1 ∷ 1 ∷ []) ∷ []) ((6 ∷ []) ∷ [])
    ∷ tells "N − 1 levels" (but 3 4 two) (find (1 ∷ 1 ∷ []) ∷ []) ((3 ∷ []) ∷ [])
    ∷ tells "N levels" (but 3 5 two) (find (1 ∷ 1 ∷ []) ∷ []) ((6 ∷ []) ∷ [])
    ∷ tells "a root without levels" (but 3 0 two) (find (1 ∷ 1 ∷ []) ∷ []) ((6 ∷ []) ∷ [])
    ∷ tells "levels without a root" (but 2 0 two) (find (1 ∷ 1 ∷ []) ∷ []) ((6 ∷ []) ∷ [])
    ∷ tells "word 5" (but 5 1 two) (find (1 ∷ 1 ∷ []) ∷ []) ((6 ∷ []) ∷ [])
    ∷ tells "word 31" (but 31 1 two) (find (1 ∷ 1 ∷ []) ∷ []) ((6 ∷ []) ∷ [])
    ∷ tells "word 4 may be anything" (but 4 99 two) (find (1 ∷ 1 ∷ []) ∷ []) ((3 ∷ []) ∷ [])
    -- pools that are not sound; page 1 is the region page [0, 50), [50, ∞) of pages 2 and 3, page 4 is free
    ∷ unsound "word 4 is too high" (but 4 5 two)
    ∷ unsound "word 4 is too low" (but 4 3 two)
    ∷ unsound "a region page's word 3" (but 35 1 two)
    ∷ unsound "a point page's word 3" (but 67 1 two)
    ∷ unsound "a word after the last entry" (but 42 1 two)
    ∷ unsound "a word after the last record" (but 72 1 two)
    ∷ unsound "the last word of a page" (but 95 1 two)
    ∷ unsound "a free page with a word" (but 159 1 two)
    ∷ unsound "a page in use that is not reached" (but 128 2 two)
    ∷ unsound "a page of kind 3" (but 128 3 two)
    ∷ unsound "a region page's domain is K" (but 34 1 two)
    ∷ unsound "a point page's domain is K" (but 66 1 two)
    ∷ unsound "no entry holds 40 to 49" (but 37 40 two)
    ∷ unsound "two entries hold 40 to 49" (but 39 40 two)
    ∷ unsound "an empty region" (pool_of ((1 ∷ 5 ∷ 1 ∷ 2 ∷ 0 ∷ []) ∷ (1 ∷ 3 ∷ 0 ∷ 0 ∷ 0 ∷ 50 ∷ 2 ∷ 50 ∷ 50 ∷ 4 ∷ 50 ∷ inf ∷ 3 ∷ []) ∷ (2 ∷ []) ∷ (2 ∷ []) ∷ (2 ∷ []) ∷ []))
    ∷ unsound "no entry holds the last keys" (but 40 top two)
    ∷ unsound "no entry holds the first key" (but 36 1 two)
    ∷ unsound "a point outside its region" (but 70 50 two)
    ∷ unsound "two points with one key" (but 70 10 two)
    ∷ unsound "the second and the third of three points have one key" (but 73 5 (but 72 20 (but 65 3 (but 4 5 two))))
    ∷ unsound "two points with one key in the second page" (but 102 60 two)
    ∷ unsound "a page named twice" (pool_of ((1 ∷ 3 ∷ 1 ∷ 2 ∷ 0 ∷ []) ∷ (1 ∷ 2 ∷ 0 ∷ 0 ∷ 0 ∷ 50 ∷ 2 ∷ 50 ∷ inf ∷ 2 ∷ []) ∷ (2 ∷ []) ∷ []))
    ∷ unsound "a page named first and third" (pool_of ((1 ∷ 4 ∷ 1 ∷ 2 ∷ 0 ∷ []) ∷ (1 ∷ 3 ∷ 0 ∷ 0 ∷ 0 ∷ 50 ∷ 2 ∷ 50 ∷ 60 ∷ 3 ∷ 60 ∷ inf ∷ 2 ∷ []) ∷ (2 ∷ []) ∷ (2 ∷ []) ∷ []))
    ∷ unsound "an entry names page 0" (pool_of ((1 ∷ 3 ∷ 1 ∷ 2 ∷ 0 ∷ []) ∷ (1 ∷ 2 ∷ 0 ∷ 0 ∷ 0 ∷ 50 ∷ 2 ∷ 50 ∷ inf ∷ 0 ∷ []) ∷ (2 ∷ []) ∷ []))
    ∷ unsound "an entry names page N" (pool_of ((1 ∷ 3 ∷ 1 ∷ 2 ∷ 0 ∷ []) ∷ (1 ∷ 2 ∷ 0 ∷ 0 ∷ 0 ∷ 50 ∷ 2 ∷ 50 ∷ inf ∷ 3 ∷ []) ∷ (2 ∷ []) ∷ []))
    ∷ unsound "an entry names its own page" (pool_of ((1 ∷ 3 ∷ 1 ∷ 2 ∷ 0 ∷ []) ∷ (1 ∷ 2 ∷ 0 ∷ 0 ∷ 0 ∷ 50 ∷ 2 ∷ 50 ∷ inf ∷ 1 ∷ []) ∷ (2 ∷ []) ∷ []))
    ∷ unsound "an entry names a free page" (but 41 4 two)
    ∷ unsound "the second and the third of three regions overlap" (pool_of ((1 ∷ 5 ∷ 1 ∷ 2 ∷ 0 ∷ []) ∷ (1 ∷ 3 ∷ 0 ∷ 0 ∷ 0 ∷ 50 ∷ 2 ∷ 50 ∷ inf ∷ 3 ∷ 60 ∷ 70 ∷ 4 ∷ []) ∷ (2 ∷ []) ∷ (2 ∷ []) ∷ (2 ∷ []) ∷ []))
    ∷ unsound "a level too few" (but 3 1 two)
    ∷ unsound "a level too many" (but 3 3 two)
    ∷ unsound "a region page without entries" (but 33 0 (but 37 0 (but 39 0 (but 40 0 two))))
    ∷ unsound "15 points of K 1" (but 65 15 two)
    ∷ unsound "10 regions of K 1" (but 33 10 two)
    ∷ unsound "points without a root" (pool_of ((1 ∷ 2 ∷ 0 ∷ 0 ∷ 1 ∷ []) ∷ [] ∷ []))
    ∷ unsound "a page without a root" (pool_of ((1 ∷ 2 ∷ []) ∷ (2 ∷ []) ∷ []))
    ∷ tells "K = 4: sound" cut_3 (check ∷ []) (done 1)
    ∷ unsound "K = 4: no entry holds the last keys of domain 3" (but 116 top cut_3)
    ∷ unsound "K = 4: two entries hold 2 in domain 3" (but 112 2 cut_3)
    ∷ unsound "K = 4: a point outside its region in domain 3" (but 39 4 cut_3)
    ∷ unsound "K = 4: a region that is empty in domain 3" (pool_of ((4 ∷ 5 ∷ 3 ∷ 2 ∷ 0 ∷ []) ∷ (2 ∷ []) ∷ (2 ∷ []) ∷ (1 ∷ 3 ∷ 0 ∷ 0 ∷ 0 ∷ 0 ∷ 0 ∷ 0 ∷ inf ∷ inf ∷ inf ∷ 3 ∷ 1 ∷ 0 ∷ 0 ∷ 0 ∷ 3 ∷ inf ∷ inf ∷ inf ∷ 3 ∷ 4 ∷ 0 ∷ 0 ∷ 0 ∷ 3 ∷ inf ∷ inf ∷ inf ∷ inf ∷ 2 ∷ []) ∷ (2 ∷ []) ∷ []))
    ∷ tells "a child's regions are its entry's region" (pool_of ((1 ∷ 6 ∷ 1 ∷ 3 ∷ 0 ∷ []) ∷ (1 ∷ 2 ∷ 0 ∷ 0 ∷ 0 ∷ 50 ∷ 2 ∷ 50 ∷ inf ∷ 3 ∷ []) ∷ (1 ∷ 1 ∷ 0 ∷ 0 ∷ 0 ∷ 50 ∷ 4 ∷ []) ∷ (1 ∷ 1 ∷ 0 ∷ 0 ∷ 50 ∷ inf ∷ 5 ∷ []) ∷ (2 ∷ []) ∷ (2 ∷ []) ∷ [])) (check ∷ []) (done 1)
    ∷ unsound "a child's regions are less than its entry's region" (pool_of ((1 ∷ 6 ∷ 1 ∷ 3 ∷ 0 ∷ []) ∷ (1 ∷ 2 ∷ 0 ∷ 0 ∷ 0 ∷ 50 ∷ 2 ∷ 50 ∷ inf ∷ 3 ∷ []) ∷ (1 ∷ 1 ∷ 0 ∷ 0 ∷ 0 ∷ 49 ∷ 4 ∷ []) ∷ (1 ∷ 1 ∷ 0 ∷ 0 ∷ 50 ∷ inf ∷ 5 ∷ []) ∷ (2 ∷ []) ∷ (2 ∷ []) ∷ []))
    ∷ unsound "a child's regions are more than its entry's region" (pool_of ((1 ∷ 6 ∷ 1 ∷ 3 ∷ 0 ∷ []) ∷ (1 ∷ 2 ∷ 0 ∷ 0 ∷ 0 ∷ 50 ∷ 2 ∷ 50 ∷ inf ∷ 3 ∷ []) ∷ (1 ∷ 1 ∷ 0 ∷ 0 ∷ 0 ∷ 51 ∷ 4 ∷ []) ∷ (1 ∷ 1 ∷ 0 ∷ 0 ∷ 50 ∷ inf ∷ 5 ∷ []) ∷ (2 ∷ []) ∷ (2 ∷ []) ∷ []))
    ∷ tells "an empty point page" (pool_of ((2 ∷ 2 ∷ 1 ∷ 1 ∷ 0 ∷ []) ∷ (2 ∷ 0 ∷ 1 ∷ []) ∷ [])) (check ∷ []) (done 1)
    ∷ tells "the other domains of a page" (pool_of ((4 ∷ 2 ∷ 1 ∷ 1 ∷ 0 ∷ []) ∷ (2 ∷ 0 ∷ 3 ∷ []) ∷ [])) (check ∷ []) (done 1)
    -- the walks: each sort of bad page
    ∷ walks "find: every page" two (find (10 ∷ [])) (0 ∷ 11 ∷ 2 ∷ []) [] (1 ∷ 2 ∷ [])
    ∷ walks "list: every page" two (list (0 ∷ 99 ∷ []) (9 ∷ 9 ∷ 9 ∷ [])) (0 ∷ 4 ∷ 3 ∷ []) (11 ∷ 12 ∷ 13 ∷ []) (1 ∷ 2 ∷ 3 ∷ [])
    ∷ walks "find: page 0" (but 38 0 two) (find (10 ∷ [])) (6 ∷ []) [] (1 ∷ [])
    ∷ walks "list: page 0" (but 38 0 two) (list (0 ∷ 99 ∷ []) (9 ∷ 9 ∷ 9 ∷ [])) (6 ∷ []) (0 ∷ 0 ∷ 0 ∷ []) (1 ∷ [])
    ∷ walks "find: page N" (but 38 5 two) (find (10 ∷ [])) (6 ∷ []) [] (1 ∷ [])
    ∷ walks "list: page N" (but 38 5 two) (list (0 ∷ 99 ∷ []) (9 ∷ 9 ∷ 9 ∷ [])) (6 ∷ []) (0 ∷ 0 ∷ 0 ∷ []) (1 ∷ [])
    ∷ walks "find: a number past N" (but 38 99 two) (find (10 ∷ [])) (6 ∷ []) [] (1 ∷ [])
    ∷ walks "list: a number past N" (but 38 99 two) (list (0 ∷ 99 ∷ []) (9 ∷ 9 ∷ 9 ∷ [])) (6 ∷ []) (0 ∷ 0 ∷ 0 ∷ []) (1 ∷ [])
    ∷ walks "find: a point page above the last level" (but 32 2 two) (find (10 ∷ [])) (6 ∷ []) [] (1 ∷ [])
    ∷ walks "list: a point page above the last level" (but 32 2 two) (list (0 ∷ 99 ∷ []) (9 ∷ 9 ∷ 9 ∷ [])) (6 ∷ []) (0 ∷ 0 ∷ 0 ∷ []) (1 ∷ [])
    ∷ walks "find: a free page above the last level" (but 32 0 two) (find (10 ∷ [])) (6 ∷ []) [] (1 ∷ [])
    ∷ walks "list: a free page above the last level" (but 32 0 two) (list (0 ∷ 99 ∷ []) (9 ∷ 9 ∷ 9 ∷ [])) (6 ∷ []) (0 ∷ 0 ∷ 0 ∷ []) (1 ∷ [])
    ∷ walks "find: kind 3 above the last level" (but 32 3 two) (find (10 ∷ [])) (6 ∷ []) [] (1 ∷ [])
    ∷ walks "list: kind 3 above the last level" (but 32 3 two) (list (0 ∷ 99 ∷ []) (9 ∷ 9 ∷ 9 ∷ [])) (6 ∷ []) (0 ∷ 0 ∷ 0 ∷ []) (1 ∷ [])
    ∷ walks "find: a region page at the last level" (but 64 1 two) (find (10 ∷ [])) (6 ∷ []) [] (1 ∷ 2 ∷ [])
    ∷ walks "list: a region page at the last level" (but 64 1 two) (list (0 ∷ 99 ∷ []) (9 ∷ 9 ∷ 9 ∷ [])) (6 ∷ []) (0 ∷ 0 ∷ 0 ∷ []) (1 ∷ 2 ∷ [])
    ∷ walks "find: a free page at the last level" (but 64 0 two) (find (10 ∷ [])) (6 ∷ []) [] (1 ∷ 2 ∷ [])
    ∷ walks "list: a free page at the last level" (but 64 0 two) (list (0 ∷ 99 ∷ []) (9 ∷ 9 ∷ 9 ∷ [])) (6 ∷ []) (0 ∷ 0 ∷ 0 ∷ []) (1 ∷ 2 ∷ [])
    ∷ walks "find: kind 3 at the last level" (but 64 3 two) (find (10 ∷ [])) (6 ∷ []) [] (1 ∷ 2 ∷ [])
    ∷ walks "list: kind 3 at the last level" (but 64 3 two) (list (0 ∷ 99 ∷ []) (9 ∷ 9 ∷ 9 ∷ [])) (6 ∷ []) (0 ∷ 0 ∷ 0 ∷ []) (1 ∷ 2 ∷ [])
    ∷ walks "find: 14 points of K 1" (but 65 14 two) (find (10 ∷ [])) (0 ∷ 11 ∷ 2 ∷ []) [] (1 ∷ 2 ∷ [])
    ∷ walks "list: 14 points of K 1" (but 65 14 two) (list (0 ∷ 99 ∷ []) (9 ∷ 9 ∷ 9 ∷ 9 ∷ 9 ∷ 9 ∷ 9 ∷ 9 ∷ 9 ∷ 9 ∷ 9 ∷ 9 ∷ 9 ∷ 9 ∷ 9 ∷ 9 ∷ 9 ∷ 9 ∷ 9 ∷ 9 ∷ [])) (0 ∷ 16 ∷ 3 ∷ []) (11 ∷ 12 ∷ 0 ∷ 0 ∷ 0 ∷ 0 ∷ 0 ∷ 0 ∷ 0 ∷ 0 ∷ 0 ∷ 0 ∷ 0 ∷ 0 ∷ 13 ∷ 14 ∷ 9 ∷ 9 ∷ 9 ∷ 9 ∷ []) (1 ∷ 2 ∷ 3 ∷ [])
    ∷ walks "find: 15 points of K 1" (but 65 15 two) (find (10 ∷ [])) (6 ∷ []) [] (1 ∷ 2 ∷ [])
    ∷ walks "list: 15 points of K 1" (but 65 15 two) (list (0 ∷ 99 ∷ []) (9 ∷ 9 ∷ 9 ∷ [])) (6 ∷ []) (0 ∷ 0 ∷ 0 ∷ []) (1 ∷ 2 ∷ [])
    ∷ walks "find: 9 regions of K 1" (but 33 9 two) (find (10 ∷ [])) (0 ∷ 11 ∷ 2 ∷ []) [] (1 ∷ 2 ∷ [])
    ∷ walks "list: 9 regions of K 1" (but 33 9 two) (list (0 ∷ 99 ∷ []) (9 ∷ 9 ∷ 9 ∷ [])) (0 ∷ 4 ∷ 3 ∷ []) (11 ∷ 12 ∷ 13 ∷ []) (1 ∷ 2 ∷ 3 ∷ [])
    ∷ walks "find: 10 regions of K 1" (but 33 10 two) (find (10 ∷ [])) (6 ∷ []) [] (1 ∷ [])
    ∷ walks "list: 10 regions of K 1" (but 33 10 two) (list (0 ∷ 99 ∷ []) (9 ∷ 9 ∷ 9 ∷ [])) (6 ∷ []) (0 ∷ 0 ∷ 0 ∷ []) (1 ∷ [])
    ∷ walks "find: 4 regions of K 4" (but 97 4 cut_3) (find (3 ∷ 5 ∷ 9 ∷ 2 ∷ [])) (6 ∷ []) [] (3 ∷ [])
    ∷ walks "find: 6 points of K 4" (but 33 6 cut_3) (find (3 ∷ 5 ∷ 9 ∷ 2 ∷ [])) (6 ∷ []) [] (3 ∷ 1 ∷ [])
    ∷ walks "find: a region page without entries" (but 33 0 two) (find (10 ∷ [])) (6 ∷ []) [] (1 ∷ [])
    ∷ walks "list: a region page without entries" (but 33 0 two) (list (0 ∷ 99 ∷ []) (9 ∷ 9 ∷ 9 ∷ [])) (6 ∷ []) (0 ∷ 0 ∷ 0 ∷ []) (1 ∷ [])
    ∷ walks "find: one level too many" (but 3 3 two) (find (10 ∷ [])) (6 ∷ []) [] (1 ∷ 2 ∷ [])
    ∷ walks "list: one level too many" (but 3 3 two) (list (0 ∷ 99 ∷ []) (9 ∷ 9 ∷ 9 ∷ [])) (6 ∷ []) (0 ∷ 0 ∷ 0 ∷ []) (1 ∷ 2 ∷ [])
    ∷ walks "list: the second child is bad" (but 96 0 two) (list (0 ∷ 99 ∷ []) (9 ∷ 9 ∷ 9 ∷ [])) (6 ∷ []) (0 ∷ 0 ∷ 0 ∷ []) (1 ∷ 2 ∷ 3 ∷ [])
    ∷ walks "list: the second child is bad and not met" (but 96 0 two) (list (0 ∷ 49 ∷ []) (9 ∷ 9 ∷ 9 ∷ [])) (0 ∷ 2 ∷ 2 ∷ []) (11 ∷ 12 ∷ 9 ∷ []) (1 ∷ 2 ∷ [])
    ∷ walks "find: no entry holds the point" (but 37 5 two) (find (10 ∷ [])) (6 ∷ []) [] (1 ∷ [])
    ∷ walks "find: the first of two entries" (but 39 5 two) (find (10 ∷ [])) (0 ∷ 11 ∷ 2 ∷ []) [] (1 ∷ 2 ∷ [])
    ∷ walks "find: an empty region holds no point" (pool_of ((1 ∷ 5 ∷ 1 ∷ 2 ∷ 1 ∷ []) ∷ (1 ∷ 3 ∷ 0 ∷ 0 ∷ 0 ∷ 50 ∷ 2 ∷ 50 ∷ 50 ∷ 4 ∷ 50 ∷ inf ∷ 3 ∷ []) ∷ (2 ∷ []) ∷ (2 ∷ 1 ∷ 0 ∷ 0 ∷ 50 ∷ 13 ∷ []) ∷ (2 ∷ []) ∷ [])) (find (50 ∷ [])) (0 ∷ 13 ∷ 2 ∷ []) [] (1 ∷ 3 ∷ [])
    ∷ walks "find: the first of two records" (but 70 10 two) (find (10 ∷ [])) (0 ∷ 11 ∷ 2 ∷ []) [] (1 ∷ 2 ∷ [])
    ∷ walks "find: a record of the second page" two (find (60 ∷ [])) (0 ∷ 13 ∷ 2 ∷ []) [] (1 ∷ 3 ∷ [])
    ∷ walks "find: the point is not in its page" two (find (11 ∷ [])) (8 ∷ []) [] (1 ∷ 2 ∷ [])
    ∷ walks "list: both of two entries" (but 39 5 two) (list (10 ∷ 10 ∷ []) (9 ∷ 9 ∷ 9 ∷ [])) (0 ∷ 1 ∷ 3 ∷ []) (11 ∷ 9 ∷ 9 ∷ []) (1 ∷ 2 ∷ 3 ∷ [])
    ∷ walks "list: an empty region meets no window" (but 40 50 two) (list (45 ∷ 60 ∷ []) (9 ∷ 9 ∷ [])) (0 ∷ 0 ∷ 2 ∷ []) (9 ∷ 9 ∷ []) (1 ∷ 2 ∷ [])
    ∷ walks "list: a region with its ends crossed" (but 40 40 two) (list (30 ∷ 60 ∷ []) (9 ∷ 9 ∷ [])) (0 ∷ 0 ∷ 2 ∷ []) (9 ∷ 9 ∷ []) (1 ∷ 2 ∷ [])
    ∷ walks "list: N − 1 pages" (pool_of ((1 ∷ 4 ∷ 1 ∷ 2 ∷ []) ∷ (1 ∷ 2 ∷ 0 ∷ 0 ∷ 0 ∷ inf ∷ 2 ∷ 0 ∷ inf ∷ 2 ∷ []) ∷ (2 ∷ 1 ∷ 0 ∷ 0 ∷ 5 ∷ 7 ∷ []) ∷ [] ∷ [])) (list (0 ∷ 9 ∷ []) (9 ∷ 9 ∷ 9 ∷ [])) (0 ∷ 2 ∷ 3 ∷ []) (7 ∷ 7 ∷ 9 ∷ []) (1 ∷ 2 ∷ 2 ∷ [])
    ∷ walks "list: N pages" (pool_of ((1 ∷ 3 ∷ 1 ∷ 2 ∷ []) ∷ (1 ∷ 2 ∷ 0 ∷ 0 ∷ 0 ∷ inf ∷ 2 ∷ 0 ∷ inf ∷ 2 ∷ []) ∷ (2 ∷ 1 ∷ 0 ∷ 0 ∷ 5 ∷ 7 ∷ []) ∷ [])) (list (0 ∷ 9 ∷ []) (9 ∷ 9 ∷ 9 ∷ [])) (6 ∷ []) (0 ∷ 0 ∷ 0 ∷ []) (1 ∷ 2 ∷ [])
    ∷ walks "list: no slot" two (list (10 ∷ 60 ∷ []) []) (0 ∷ 3 ∷ 3 ∷ []) [] (1 ∷ 2 ∷ 3 ∷ [])
    ∷ walks "list: one slot" two (list (20 ∷ 60 ∷ []) (9 ∷ [])) (0 ∷ 2 ∷ 3 ∷ []) (12 ∷ []) (1 ∷ 2 ∷ 3 ∷ [])
    ∷ walks "list: slots left over" two (list (20 ∷ 60 ∷ []) (9 ∷ 8 ∷ 7 ∷ 6 ∷ [])) (0 ∷ 2 ∷ 3 ∷ []) (12 ∷ 13 ∷ 7 ∷ 6 ∷ []) (1 ∷ 2 ∷ 3 ∷ [])
    ∷ walks "list: from the last key of a region" two (list (49 ∷ 49 ∷ []) (9 ∷ [])) (0 ∷ 0 ∷ 2 ∷ []) (9 ∷ []) (1 ∷ 2 ∷ [])
    ∷ walks "list: at a lower end" two (list (50 ∷ 50 ∷ []) (9 ∷ [])) (0 ∷ 0 ∷ 2 ∷ []) (9 ∷ []) (1 ∷ 3 ∷ [])
    -- removing: the gap is closed, word 4 falls, an empty page stays and takes points again
    ∷ turns "remove of a page's first record" two (remove (10 ∷ []) ∷ []) ((0 ∷ 11 ∷ []) ∷ []) (pool_of ((1 ∷ 5 ∷ 1 ∷ 2 ∷ 3 ∷ []) ∷ (1 ∷ 2 ∷ 0 ∷ 0 ∷ 0 ∷ 50 ∷ 2 ∷ 50 ∷ inf ∷ 3 ∷ []) ∷ (2 ∷ 1 ∷ 0 ∷ 0 ∷ 20 ∷ 12 ∷ []) ∷ (2 ∷ 2 ∷ 0 ∷ 0 ∷ 60 ∷ 13 ∷ 70 ∷ 14 ∷ []) ∷ [] ∷ []))
    ∷ turns "remove of a page's last record" two (remove (70 ∷ []) ∷ []) ((0 ∷ 14 ∷ []) ∷ []) (pool_of ((1 ∷ 5 ∷ 1 ∷ 2 ∷ 3 ∷ []) ∷ (1 ∷ 2 ∷ 0 ∷ 0 ∷ 0 ∷ 50 ∷ 2 ∷ 50 ∷ inf ∷ 3 ∷ []) ∷ (2 ∷ 2 ∷ 0 ∷ 0 ∷ 10 ∷ 11 ∷ 20 ∷ 12 ∷ []) ∷ (2 ∷ 1 ∷ 0 ∷ 0 ∷ 60 ∷ 13 ∷ []) ∷ [] ∷ []))
    ∷ turns "remove: every key counts" (pool_of ((2 ∷ 2 ∷ 1 ∷ 1 ∷ 3 ∷ []) ∷ (2 ∷ 3 ∷ 0 ∷ 0 ∷ 2 ∷ 7 ∷ 11 ∷ 1 ∷ 5 ∷ 12 ∷ 1 ∷ 7 ∷ 13 ∷ []) ∷ [])) (remove (1 ∷ 7 ∷ []) ∷ []) ((0 ∷ 13 ∷ []) ∷ []) (pool_of ((2 ∷ 2 ∷ 1 ∷ 1 ∷ 2 ∷ []) ∷ (2 ∷ 2 ∷ 0 ∷ 0 ∷ 2 ∷ 7 ∷ 11 ∷ 1 ∷ 5 ∷ 12 ∷ []) ∷ []))
    ∷ turns "remove of all records" two (remove (60 ∷ []) ∷ remove (10 ∷ []) ∷ remove (20 ∷ []) ∷ remove (70 ∷ []) ∷ check ∷ []) ((0 ∷ 13 ∷ []) ∷ (0 ∷ 11 ∷ []) ∷ (0 ∷ 12 ∷ []) ∷ (0 ∷ 14 ∷ []) ∷ (0 ∷ []) ∷ []) (pool_of ((1 ∷ 5 ∷ 1 ∷ 2 ∷ []) ∷ (1 ∷ 2 ∷ 0 ∷ 0 ∷ 0 ∷ 50 ∷ 2 ∷ 50 ∷ inf ∷ 3 ∷ []) ∷ (2 ∷ []) ∷ (2 ∷ []) ∷ [] ∷ []))
    ∷ turns "an empty page takes a point" two (remove (60 ∷ []) ∷ remove (70 ∷ []) ∷ place (junk 160) (50 ∷ []) 5 ∷ place (junk 160) (0 ∷ []) 6 ∷ []) ((0 ∷ 13 ∷ []) ∷ (0 ∷ 14 ∷ []) ∷ (0 ∷ []) ∷ (0 ∷ []) ∷ []) (pool_of ((1 ∷ 5 ∷ 1 ∷ 2 ∷ 4 ∷ []) ∷ (1 ∷ 2 ∷ 0 ∷ 0 ∷ 0 ∷ 50 ∷ 2 ∷ 50 ∷ inf ∷ 3 ∷ []) ∷ (2 ∷ 3 ∷ 0 ∷ 0 ∷ 10 ∷ 11 ∷ 20 ∷ 12 ∷ 0 ∷ 6 ∷ []) ∷ (2 ∷ 1 ∷ 0 ∷ 0 ∷ 50 ∷ 5 ∷ []) ∷ [] ∷ []))
    ∷ []

pub spoilt : pass_all table ≡ true
unfolding outcome good_length good_header sound
spoilt = refl
