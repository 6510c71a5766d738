-- Removing in place: the later records of the page move down over the one that goes, the last one's words become zero, and page and header
-- count one less.
use Rattle.std.specs.Prelude.{List, ℕ, zero, suc, ◌+◌, ◌-◌, ◌*◌, get_or, set, replicate}
use Rattle.std.proofs.lemmas.List.Edits.{sets}
use Rattle.kdb.specs.Pool.{domains, root_at, levels_at, count_at}
use Rattle.words.specs.Words.{word}
use Rattle.steps.specs.Machine.{head_in}

-- n words, from word a + wd of the pool on, move down by wd, the first one first
unfoldable pub down_in : ℕ → ℕ → List ℕ → ℕ → List ℕ
down_in wd zero w a = w
down_in wd (suc n) w a = down_in wd n (set w a (get_or w (a + wd) 0)) (a + 1)

-- the entry of wd words at word a of the pool, in page c, goes
unfoldable pub close_in : ℕ → ℕ → List ℕ → ℕ → ℕ → List ℕ
close_in L wd w c a =
    let m = word L w c 1 in
    let n = L * c + 4 + m * wd - (a + wd) in
    set (sets (down_in wd n w a) (a + n) (replicate wd 0)) (L * c + 1) (m - 1)

-- the record in slot i of page c goes
unfoldable pub remove_in : ℕ → ℕ → ℕ → List ℕ → List ℕ
remove_in L c i w =
    let v = close_in L (domains w + 1) w c (L * c + 4 + i * (domains w + 1)) in
    head_in v (root_at v) (levels_at v) (count_at w - 1)
