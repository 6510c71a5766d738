-- What a walk knows of the pool and of a page, over its words.
use Rattle.std.specs.Prelude.{Bool, ◌&&◌, cond, List, ℕ, ◌+◌, ◌-◌, ◌*◌, ◌^◌, ◌≤◌, ◌<◌, leb, eqb, length, drop, Result, Ok, Err}
use Rattle.kdb.specs.Tree.{Rec}
use Rattle.kdb.specs.Pages.{Ent, read_ents}
use Rattle.kdb.specs.Pool.{domains, is_page}
use Rattle.kdb.specs.Calls.{L}
use Rattle.words.specs.Words.{word_at, capacity_of, records_from, RecordIn}
use Rattle.words.specs.declared.Kind.{Kind}
use Rattle.words.specs.declared.Kind.TheVariants.{Region, Point}
use Rattle.walk.specs.declared.Stopped.{Stopped}

-- kind and count of a region page, and of a point page, that a walk takes
abbrev pub region_words : List ℕ → ℕ → ℕ → Bool
region_words w k j = eqb (word_at w j 0) 1 && leb 1 (word_at w j 1) && leb (word_at w j 1) (capacity_of 0 k)

abbrev pub point_words : List ℕ → ℕ → ℕ → Bool
point_words w k j = eqb (word_at w j 0) 2 && leb (word_at w j 1) (capacity_of 1 k)

abbrev pub kind_words : List ℕ → ℕ → Kind → ℕ → Bool
kind_words w k Region j = region_words w k j
kind_words w k Point j = point_words w k j

-- page j lies in the pool and has room for the entries that it counts
pub record EntriesIn (w : List ℕ) (k j : ℕ) : Type 0 where
  pub some : 1 ≤ k
  pub few : k ≤ 4
  pub number : j < 2 ^ 32
  pub room : word_at w j 1 * (2 * k + 1) ≤ 28
  pub ends : L * j + L ≤ length w

-- page j lies in the pool, and so do the records that it counts
pub record RecordsIn (w : List ℕ) (k j : ℕ) : Type 0 where
  pub number : j < 2 ^ 32
  pub ends : L * j + L ≤ length w
  pub count : word_at w j 1 ≤ 28
  pub slots : (e : ℕ) → e < word_at w j 1 → RecordIn w k j e

-- where entry e of page j stands; of c entries, those from e on
abbrev pub entry_place : ℕ → ℕ → ℕ → ℕ
entry_place k j e = L * j + 4 + e * (2 * k + 1)

abbrev pub entries_from : ℕ → List ℕ → ℕ → ℕ → ℕ → List Ent
entries_from k w j c e = read_ents k (c - e) (drop (entry_place k j e) w)

-- the entries and the records that page j counts
abbrev pub entries_of : List ℕ → ℕ → List Ent
entries_of w j = entries_from (domains w) w j (word_at w j 1) 0

abbrev pub records_of : List ℕ → ℕ → List Rec
records_of w j = records_from (domains w) w j (word_at w j 1) 0

-- what a page of a kind holds
abbrev pub Inside : List ℕ → Kind → ℕ → Type 0
Inside w Region j = EntriesIn w (domains w) j
Inside w Point j = RecordsIn w (domains w) j

-- page j read, which is to be of the kind, after r others
abbrev pub reached : List ℕ → Kind → ℕ → ℕ → Result ℕ Stopped
reached w kind j r =
    cond (is_page L w j) (cond (kind_words w (domains w) kind j) (Ok (r + 1)) (Err (record { reads = r + 1 }))) (Err (record { reads = r }))
