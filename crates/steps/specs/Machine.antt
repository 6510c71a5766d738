-- The stores that every step on words is made of. A step's name ends in `_in` where it works in place, on a pool's words. L is the words of
-- a page, wd the words of an entry.
use Rattle.std.specs.Prelude.{Bool, cond, List, ℕ, ◌+◌, ◌*◌, leb, set, replicate}
use Rattle.std.proofs.lemmas.List.Edits.{sets}
use Rattle.kdb.specs.Lists.{pad}
use Rattle.kdb.specs.Header.{header_words, read_header, rooted}
use Rattle.kdb.specs.Pages.{page}
use Rattle.words.specs.Words.{word}

-- whether every page wanted was free, and the words
pub record Passed : Type 0 where
  pub ok : Bool
  pub words : List ℕ

-- the page claimed, or 0 where none was free, and the words
pub record Claimed : Type 0 where
  pub page : ℕ
  pub words : List ℕ

-- another root, levels and count in the header
unfoldable pub head_in : List ℕ → ℕ → ℕ → ℕ → List ℕ
head_in w r l c = sets w 0 (header_words (rooted (read_header w) r l c))

module _ (L : ℕ) where
  -- page c becomes a page with no entry: cleared, then its kind and its splitting domain
  unfoldable pub fresh_in : List ℕ → ℕ → ℕ → ℕ → List ℕ
  fresh_in w c kind e = set (set (sets w (L * c) (replicate L 0)) (L * c) kind) (L * c + 2) e

  -- the entry u goes behind the last entry of page c, unless the page ends there
  unfoldable pub append_in : ℕ → List ℕ → ℕ → List ℕ → List ℕ
  append_in wd w c u =
      let m = word L w c 1 in
      cond (leb (4 + (m + 1) * wd) L) (set (sets w (L * c + (4 + m * wd)) u) (L * c + 1) (m + 1)) w

  -- a copy of page c with room for one more entry, and u as that entry
  unfoldable pub overfull : ℕ → List ℕ → ℕ → List ℕ → List ℕ
  overfull wd w c u = sets (pad (L + wd) (page L w c)) (4 + word L w c 1 * wd) u
