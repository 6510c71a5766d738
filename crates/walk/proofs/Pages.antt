-- What a walk's tests of a page's words tell of the page's view.
use mathlib.Core.Bool.{true}
use mathlib.Core.List.{List, ◌∷◌}
use mathlib.Core.Path.{◌≡◌, sym, ◌∙◌}
use Prim.Native.Nat.{ℕ, suc, ◌+◌, ◌*◌, ◌<◌, ◌≤◌}
use native.Mathlib.Omega.{arith}
use native.Mathlib.Nat.{suc-mul, zero-mul, sub-zero, mul-le-mul_left}
use lib.ListN.{drop, get_or}
use Rattle.kdb.specs.Pages.{recs_in, ents_in, read_ents}
use Rattle.kdb.specs.Pool.{domains, view, is_page}
use Rattle.kdb.specs.Walk.{good_points, good_regions}
use Rattle.kdb.specs.Calls.{L}
use Rattle.kdb.proofs.Words.{ent_turn, good_points_lem, good_regions_lem, points_in_lem, regions_in}
use Rattle.words.specs.Words.{word_at, region_at, records_from}
use Rattle.words.proofs.Slots.{records_all}
use Rattle.walk.specs.Pages.{region_words, point_words, entry_place, entries_from, EntriesIn}

-- of c entries of page j, the one after e others, and the rest
module _ (k : ℕ) (w : List ℕ) (j c e : ℕ) where
  pub entries_turn : e < c → entries_from k w j c e ≡ record { box = region_at k w (entry_place k j e); child = get_or w (entry_place k j e + 2 * k) 0 } ∷ entries_from k w j c (e + 1)
  entries_turn h =
      let s : e + 1 ≡ suc e = omega arith in
      let r : entry_place k j e + (2 * k + 1) ≡ entry_place k j (e + 1) = rw s (omega (arith, suc-mul e (2 * k + 1))) in
      rw r at (ent_turn k c e w (entry_place k j e) h)

-- all of them, from word 4 of the page on
entries_all : (k : ℕ) (w : List ℕ) (j c : ℕ) → entries_from k w j c 0 ≡ read_ents k c (drop (L * j + 4) w)
entries_all k w j c = let q : entry_place k j 0 ≡ L * j + 4 = omega (arith, zero-mul (2 * k + 1)) in rw (q, sub-zero c)

module _ (w : List ℕ) (j : ℕ) (h : is_page L w j ≡ true) where
  pub regions_good : good_regions L w j ≡ region_words w (domains w) j
  regions_good = good_regions_lem L w j (omega arith) h

  pub points_good : good_points L w j ≡ point_words w (domains w) j
  points_good = good_points_lem L w j (omega arith) h

  pub entries_seen : region_words w (domains w) j ≡ true → ents_in (view L w j) ≡ entries_from (domains w) w j (word_at w j 1) 0
  entries_seen t = (regions_in L w j (omega arith) h (regions_good ∙ t)).0 ∙ sym (entries_all (domains w) w j (word_at w j 1))

  pub records_seen : point_words w (domains w) j ≡ true → recs_in (view L w j) ≡ records_from (domains w) w j (word_at w j 1) 0
  records_seen t = (points_in_lem L w j (omega arith) h (points_good ∙ t)).0 ∙ sym (records_all (domains w) w j (word_at w j 1))

module _ (w : List ℕ) (k j : ℕ) (g : EntriesIn w k j) where
  -- a bound on a region page's count
  pub entries_few : word_at w j 1 ≤ 9
  entries_few = let s : word_at w j 1 * 3 ≤ word_at w j 1 * (2 * k + 1) = mul-le-mul_left (word_at w j 1) (omega (arith, g.some)) in omega (arith, g.room)
