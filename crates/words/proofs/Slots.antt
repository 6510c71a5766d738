-- Where the records of a point page stand, for those who read single keys: how far a slot is from the next is known here.
use mathlib.Core.List.{List, ◌∷◌}
use mathlib.Core.Path.{◌≡◌}
use Prim.Native.Nat.{ℕ, suc, ◌+◌, ◌*◌, ◌<◌}
use native.Mathlib.Omega.{arith}
use native.Mathlib.Nat.{suc-mul, zero-mul, sub-zero}
use lib.ListN.{drop}
use Rattle.kdb.specs.Pages.{read_recs}
use Rattle.kdb.specs.Calls.{L}
use Rattle.kdb.proofs.Words.{rec_turn}
use Rattle.words.specs.Words.{key_place, point_location, keys_of, records_from}

-- the keys one behind the other, then the location
pub key_from : (k j e d : ℕ) → key_place k j e 0 + d ≡ key_place k j e d
key_from k j e d = omega arith

module _ (k : ℕ) (w : List ℕ) (j c e : ℕ) where
  -- the record in a slot below the count, and the rest
  pub records_turn : e < c → records_from k w j c e ≡ record { key = keys_of k w j e; loc = point_location w k j e } ∷ records_from k w j c (e + 1)
  records_turn h =
      let s : e + 1 ≡ suc e = omega arith in
      let r : key_place k j e 0 + (k + 1) ≡ key_place k j (e + 1) 0 = rw s (omega (arith, suc-mul e (k + 1))) in
      rw (key_from k j e k, r) at (rec_turn k c e w (key_place k j e 0) h)

-- all of them, from word 4 of the page on
pub records_all : (k : ℕ) (w : List ℕ) (j c : ℕ) → records_from k w j c 0 ≡ read_recs k c (drop (L * j + 4) w)
records_all k w j c = let q : key_place k j 0 0 ≡ L * j + 4 = omega (arith, zero-mul (k + 1)) in rw (q, sub-zero c)
