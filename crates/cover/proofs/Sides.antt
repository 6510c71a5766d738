-- Two regions side by side, as chains over their ends test them, and the product of a region's sides.
use mathlib.Core.Bool.{Bool, ◌&&◌}
use mathlib.Core.List.{List, [], ◌∷◌}
use mathlib.Core.Path.{◌≡◌, refl, sym, ap, ◌∙◌}
use Prim.Native.Nat.{ℕ, zero, suc, ◌+◌, ◌-◌, ◌*◌, ◌^◌, ◌<◌, ◌≤◌}
use native.Mathlib.Omega.{arith}
use native.Mathlib.Numerals.{add-one}
use native.Mathlib.Nat.{mul_assoc, mul-one, mul-le-mul, pow-suc}
use lib.ListN.{length, drop, get_or, drop_of_length-le}
use Rattle.std.specs.List.{list_all, range_with_len}
use Rattle.boxes.proofs.Tests.{long}
use Rattle.kdb.specs.Box.{Side, Box, sides}
use Rattle.cover.specs.Boxes.{side_by_side}
use Rattle.cover.specs.Volume.{volume_of}

pub sides_turn : (ls us : List ℕ) (i : ℕ) → i < length ls → i < length us
    → drop i (sides ls us) ≡ record { lo = get_or ls i 0; hi = get_or us i 0 } ∷ drop (suc i) (sides ls us)
sides_turn [] us i h g = absurd (omega arith)
sides_turn (l ∷ ls) [] i h g = absurd (omega arith)
sides_turn (l ∷ ls) (u ∷ us) zero h g = refl
sides_turn (l ∷ ls) (u ∷ us) (suc i) h g = sides_turn ls us i (omega arith) (omega arith)

-- the side in domain d of these ends, and a test of two regions' sides in all domains
abbrev pub side_of : List ℕ → List ℕ → ℕ → Side
side_of ls us d = record { lo = get_or ls d 0; hi = get_or us d 0 }

pub beside : (f : Side → Side → Bool) (l u m v : List ℕ) → length l ≡ length u → length m ≡ length v → length m ≡ length l → (i n : ℕ) → i + n ≡ length l
    → list_all (λ d. f (side_of l u d) (side_of m v d)) (range_with_len i n) ≡ side_by_side f (drop i (sides l u)) (drop i (sides m v))
beside f l u m v e g h i zero q =
    rw (drop_of_length-le (sides l u) {i = i} (omega (arith, long l u)), drop_of_length-le (sides m v) {i = i} (omega (arith, long m v)))
beside f l u m v e g h i (suc n) q =
    rw (sides_turn l u i (omega arith) (omega arith), sides_turn m v i (omega arith) (omega arith))
    (ap (λ r. f (side_of l u i) (side_of m v i) && r) (beside f l u m v e g h (i + 1) n (omega arith) ∙ rw (add-one i)))

-- v is the product of the first n sides
pub record Product (b : Box) (v n : ℕ) : Type 0 where
  pub is : v * volume_of (drop n b) ≡ volume_of b
  pub most : v ≤ 4294967295 ^ n

-- one side more
pub product_turn : (ls us : List ℕ) (v i x : ℕ) → Product (sides ls us) v i → i < length ls → i < length us → x ≡ get_or us i 0 - get_or ls i 0 → x < 2 ^ 32
    → Product (sides ls us) (v * x) (i + 1)
product_turn ls us v i x p h g e f =
    record {
      is = rw (add-one i, mul_assoc v x (volume_of (drop (suc i) (sides ls us))), e) (rw (sides_turn ls us i h g) at p.is);
      most = rw (add-one, pow-suc) (mul-le-mul p.most (omega arith));
    }

-- at most three sides have a product that a fourth keeps below 2 ^ 128
pub product_fits : (b : Box) (v i x : ℕ) → Product b v i → i < 4 → x < 2 ^ 32 → v * x < 2 ^ 128
product_fits b v i x p h f = let m : v * x ≤ 4294967295 ^ i * 4294967295 = mul-le-mul p.most (omega arith) in omega (arith, powers i h)
  where
    powers : (i : ℕ) → i < 4 → 4294967295 ^ i * 4294967295 < 2 ^ 128
    powers zero h = omega arith
    powers (suc zero) h = omega arith
    powers (suc (suc zero)) h = omega arith
    powers (suc (suc (suc zero))) h = omega arith
    powers (suc (suc (suc (suc i)))) h = absurd (omega arith)

pub product_end : (b : Box) (v i : ℕ) → Product b v i → length b ≤ i → v ≡ volume_of b
product_end b v i p h = sym (mul-one v) ∙ (rw (drop_of_length-le b {i = i} h) at p.is)
