-- The words that the accessors give, over a whole pool. A word past the end is 0.
use Rattle.std.specs.Prelude.{Bool, true, cond, List, [], ◌∷◌, ◌≡◌, ℕ, zero, suc, ◌+◌, ◌-◌, ◌*◌, ◌^◌, ◌≤◌, ◌<◌, eqb, length, take, drop, get_or, Option, Some, None, Result, Ok, Err}
use Rattle.kdb.specs.Lists.{only, up_from}
use Rattle.kdb.specs.Box.{∞, Box, Key, sides}
use Rattle.kdb.specs.Tree.{Rec}
use Rattle.kdb.specs.Pages.{regions_per, points_per, read_recs}
use Rattle.kdb.specs.Pool.{domains, pages_in, good_length, good_header}
use Rattle.kdb.specs.Calls.{L}
use Rattle.kdb.specs.declared.Form.{Form}
use Rattle.kdb.specs.declared.Refusal.{Refusal}
use Rattle.kdb.specs.declared.Refusal.TheVariants.{PoolLength, Unsound}
use Rattle.words.specs.declared.Kind.{Kind}
use Rattle.words.specs.declared.Kind.TheVariants.{Region, Point}
use Rattle.words.specs.Loops.{all_by}

-- word i of page j, where a page has M words; and where it has L
abbrev pub word : ℕ → List ℕ → ℕ → ℕ → ℕ
word M w j i = get_or w (M * j + i) 0

abbrev pub word_at : List ℕ → ℕ → ℕ → ℕ
word_at w j i = word L w j i

-- the number of pages of a pool of good length
abbrev pub page_count : List ℕ → Option ℕ
page_count w = cond (good_length L w) (Some (pages_in L w)) None

-- the form that a pool's length and header say
abbrev pub form_of : List ℕ → Form
form_of w = record { pages = pages_in L w; domains = domains w }

-- the words are a pool of form f: 2 to 512 pages, 1 to 4 domains
pub record Formed (w : List ℕ) (f : Form) : Type 0 where
  pub words : length w ≡ L * f.pages
  pub least : 2 ≤ f.pages
  pub most : f.pages ≤ 512
  pub some : 1 ≤ f.domains
  pub few : f.domains ≤ 4

-- and its header says its domains
pub record Fit (w : List ℕ) (f : Form) : Type 0 where
  pub formed : Formed w f
  pub says : domains w ≡ f.domains

-- a pool of good length with a good header, or why not
abbrev pub opened : List ℕ → Result (List ℕ) Refusal
opened w = cond (good_length L w) (cond (good_header L w) (Ok w) (Err Unsound)) (Err PoolLength)

-- the n words from a on are 0
abbrev pub zero_at : List ℕ → ℕ → ℕ → Bool
zero_at w n i = eqb 0 (get_or w i 0)

abbrev pub all_zero : List ℕ → ℕ → ℕ → Bool
all_zero w a n = all_by n (zero_at w) 1 a true

-- R in row 0, P in row 1
abbrev pub capacity_of : ℕ → ℕ → ℕ
capacity_of zero k = regions_per L k
capacity_of (suc kind) k = points_per L k

-- R or P by the kind of a page, its first word, and the words of an entry
abbrev pub capacity_by : Kind → ℕ → ℕ
capacity_by Region k = capacity_of 0 k
capacity_by Point k = capacity_of 1 k

abbrev pub code_of : Kind → ℕ
code_of Region = 1
code_of Point = 2

abbrev pub width_of : Kind → ℕ → ℕ
width_of Region k = 2 * k + 1
width_of Point k = k + 1

-- where key d of the record in slot e of page j stands, and its location, behind its keys
abbrev pub key_place : ℕ → ℕ → ℕ → ℕ → ℕ
key_place k j e d = L * j + 4 + e * (k + 1) + d

abbrev pub location_place : ℕ → ℕ → ℕ → ℕ
location_place k j e = key_place k j e k

abbrev pub point_location : List ℕ → ℕ → ℕ → ℕ → ℕ
point_location w k j e = get_or w (location_place k j e) 0

-- of m pages from j on, those whose kind is 0; the lowest of n pages, or n
abbrev pub free_from : ℕ → List ℕ → ℕ → ℕ → List ℕ
free_from M w m j = only (λ i. eqb (word M w i 0) 0) (up_from m j)

abbrev pub lowest : ℕ → ℕ → List ℕ → ℕ
lowest M n w = get_or (free_from M w (n - 1) 1) 0 n

-- the page that was found, or n
abbrev pub page_or : ℕ → Option ℕ → ℕ
page_or n None = n
page_or n (Some j) = j

-- the region at word a, and the keys of the record in slot e of page j
abbrev pub region_at : ℕ → List ℕ → ℕ → Box
region_at k w a = sides (take k (drop a w)) (take k (drop (a + k) w))

abbrev pub keys_of : ℕ → List ℕ → ℕ → ℕ → Key
keys_of k w j e = take k (drop (key_place k j e 0) w)

-- of c records of page j, those from slot e on
abbrev pub records_from : ℕ → List ℕ → ℕ → ℕ → ℕ → List Rec
records_from k w j c e = read_recs k (c - e) (drop (key_place k j e 0) w)

-- an entry of the whole space, as code has it
abbrev pub whole_words : List ℕ
whole_words = 0 ∷ 0 ∷ 0 ∷ 0 ∷ ∞ ∷ ∞ ∷ ∞ ∷ ∞ ∷ 0 ∷ []

-- the region at word a, and the record in slot e of page j, with its location, end within the pool
pub record RegionIn (w : List ℕ) (k a : ℕ) : Type 0 where
  pub few : k ≤ 4
  pub near : a < 2 ^ 40
  pub ends : a + 2 * k ≤ length w

pub record RecordIn (w : List ℕ) (k j e : ℕ) : Type 0 where
  pub some : 1 ≤ k
  pub few : k ≤ 4
  pub ends : location_place k j e < length w
