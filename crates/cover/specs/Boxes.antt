-- The regions of a page in words, and the tests of them, side by side and one after the other.
use Rattle.std.specs.Prelude.{Bool, true, false, ◌&&◌, not, List, [], ◌∷◌, map, ℕ, ◌+◌, ◌*◌, ◌/◌, leb, ltb, length}
use Rattle.kdb.specs.Lists.{every}
use Rattle.kdb.specs.Box.{Side, Box}
use Rattle.kdb.specs.Pages.{Ent, read_ents}

-- the entries that stand in words one behind the other, and their regions; words behind the last whole entry count for nothing
abbrev pub ents_of : ℕ → List ℕ → List Ent
ents_of k ws = read_ents k (length ws / (2 * k + 1)) ws

abbrev pub regions_of : ℕ → List ℕ → List Box
regions_of k ws = map (λ e. e.box) (ents_of k ws)

-- a test of each side of one region and that of the other
abbrev pub side_by_side : (Side → Side → Bool) → Box → Box → Bool
side_by_side f [] [] = true
side_by_side f [] (t ∷ r) = false
side_by_side f (s ∷ e) [] = false
side_by_side f (s ∷ e) (t ∷ r) = f s t && side_by_side f e r

-- e is not empty and lies in r
abbrev pub inside_side : Side → Side → Bool
inside_side s t = ltb s.lo s.hi && leb t.lo s.lo && leb s.hi t.hi

abbrev pub inside_of : Box → Box → Bool
inside_of e r = side_by_side inside_side e r

-- two regions that are not empty share a key
abbrev pub overlap_side : Side → Side → Bool
overlap_side s t = ltb s.lo t.hi && ltb t.lo s.hi

abbrev pub overlap : Box → Box → Bool
overlap e c = side_by_side overlap_side e c

abbrev pub clear_of : Box → List Box → Bool
clear_of e es = every (λ c. not (overlap e c)) es

abbrev pub fitted : Box → List Box → Bool
fitted r [] = true
fitted r (e ∷ es) = (inside_of e r && clear_of e es) && fitted r es
