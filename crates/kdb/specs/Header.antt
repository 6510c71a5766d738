-- A pool's header: document 01, "Pool layout". `print_header` gives the words of page 0 and `read_header` reads them back. Nothing else knows
-- where a word of the header stands but the statements that say it once more (`GoodHeader`, `Formatted`, `SameSize`).
use Rattle.std.specs.Prelude.{List, [], ◌∷◌, ℕ, get_or}
use Rattle.kdb.specs.Lists.{pad}

-- K, N, the root, the levels, the number of records
pub record Header : Type 0 where
  pub domains : ℕ
  pub pages : ℕ
  pub root : ℕ
  pub levels : ℕ
  pub count : ℕ

abbrev pub header_words : Header → List ℕ
header_words h = h.domains ∷ h.pages ∷ h.root ∷ h.levels ∷ h.count ∷ []

-- its words, then zeros, L in all
abbrev pub print_header : ℕ → Header → List ℕ
print_header L h = pad L (header_words h)

abbrev pub read_header : List ℕ → Header
read_header w = record { domains = get_or w 0 0; pages = get_or w 1 0; root = get_or w 2 0; levels = get_or w 3 0; count = get_or w 4 0 }

-- with another root, levels and count
abbrev pub rooted : Header → ℕ → ℕ → ℕ → Header
rooted h r l c = record { domains = h.domains; pages = h.pages; root = r; levels = l; count = c }
