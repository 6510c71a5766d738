-- The tests that chains make of pairs of ends and of keys are the definitions' tests of regions and windows.
use mathlib.Core.Bool.{Bool, ◌&&◌}
use mathlib.Core.List.{List, [], ◌∷◌}
use mathlib.Core.Path.{◌≡◌, refl, sym, ap, ◌∙◌}
use Prim.Native.Nat.{ℕ, suc, ◌+◌, ◌-◌, ◌*◌, max}
use native.Mathlib.Omega.{arith}
use lib.Dec.{leb, ltb}
use lib.ListN.{length, take, drop, length-drop}
use lib.Seq.{take_all, length-take-le}
use Rattle.std.specs.List.{list_all, zip}
use Rattle.kdb.specs.Box.{Box, sides, within, in_window, meets}
use Rattle.kdb.specs.Calls.{window_of, ordered}
use Rattle.words.specs.Words.{region_at, RegionIn}

-- lower ≤ key < upper; lower ≤ key ≤ upper; the larger lower end in both
abbrev pub holds_at : (ℕ × ℕ) × ℕ → Bool
holds_at t = leb t.0.0 t.1 && ltb t.1 t.0.1

abbrev pub takes_at : (ℕ × ℕ) × ℕ → Bool
takes_at t = leb t.0.0 t.1 && leb t.1 t.0.1

abbrev pub meets_at : (ℕ × ℕ) × (ℕ × ℕ) → Bool
meets_at t = ltb (max t.0.0 t.1.0) t.0.1 && leb (max t.0.0 t.1.0) t.1.1

abbrev pub ordered_at : ℕ × ℕ → Bool
ordered_at t = leb t.0 t.1

pub holds : (l u p : List ℕ) → length l ≡ length u → length p ≡ length l → list_all holds_at (zip (zip l u) p) ≡ within (sides l u) p
holds [] [] [] e h = refl
holds [] [] (x ∷ p) e h = absurd (omega arith)
holds [] (b ∷ u) p e h = absurd (omega arith)
holds (a ∷ l) [] p e h = absurd (omega arith)
holds (a ∷ l) (b ∷ u) [] e h = absurd (omega arith)
holds (a ∷ l) (b ∷ u) (x ∷ p) e h = ap (λ r. (leb a x && ltb x b) && r) (holds l u p (omega arith) (omega arith))

pub takes : (l u p : List ℕ) → length l ≡ length u → length p ≡ length l → list_all takes_at (zip (zip l u) p) ≡ in_window (sides l u) p
takes [] [] [] e h = refl
takes [] [] (x ∷ p) e h = absurd (omega arith)
takes [] (b ∷ u) p e h = absurd (omega arith)
takes (a ∷ l) [] p e h = absurd (omega arith)
takes (a ∷ l) (b ∷ u) [] e h = absurd (omega arith)
takes (a ∷ l) (b ∷ u) (x ∷ p) e h = ap (λ r. (leb a x && leb x b) && r) (takes l u p (omega arith) (omega arith))

pub ordered_lem : (l u : List ℕ) → length l ≡ length u → list_all ordered_at (zip l u) ≡ ordered (sides l u)
ordered_lem [] [] e = refl
ordered_lem [] (b ∷ u) e = absurd (omega arith)
ordered_lem (a ∷ l) [] e = absurd (omega arith)
ordered_lem (a ∷ l) (b ∷ u) e = ap (λ r. leb a b && r) (ordered_lem l u (omega arith))

pub long : (l u : List ℕ) → length l ≡ length u → length (sides l u) ≡ length l
long [] [] e = refl
long [] (b ∷ u) e = absurd (omega arith)
long (a ∷ l) [] e = absurd (omega arith)
long (a ∷ l) (b ∷ u) e = ap suc (long l u (omega arith))

pub meets_lem : (l u m v : List ℕ) → length l ≡ length u → length m ≡ length v → length m ≡ length l
    → list_all meets_at (zip (zip l u) (zip m v)) ≡ meets (sides l u) (sides m v)
meets_lem [] [] [] [] e f h = refl
meets_lem [] [] [] (d ∷ v) e f h = absurd (omega arith)
meets_lem [] [] (c ∷ m) v e f h = absurd (omega arith)
meets_lem [] (b ∷ u) m v e f h = absurd (omega arith)
meets_lem (a ∷ l) [] m v e f h = absurd (omega arith)
meets_lem (a ∷ l) (b ∷ u) [] v e f h = absurd (omega arith)
meets_lem (a ∷ l) (b ∷ u) (c ∷ m) [] e f h = absurd (omega arith)
meets_lem (a ∷ l) (b ∷ u) (c ∷ m) (d ∷ v) e f h = ap (λ r. (ltb (max a c) b && leb (max a c) d) && r) (meets_lem l u m v (omega arith) (omega arith) (omega arith))

-- what the parts of a pool's words and of a window's say
pub region_lem : (w : List ℕ) (k a : ℕ) → RegionIn w k a
    → (sides (take (a + k - a) (drop a w)) (take (a + 2 * k - (a + k)) (drop (a + k) w)) ≡ region_at k w a) × (length (region_at k w a) ≡ k)
region_lem w k a g =
    let p : a + k - a ≡ k = omega arith in
    let q : a + 2 * k - (a + k) ≡ k = omega arith in
    let l : length (take k (drop a w)) ≡ k = length-take-le k (drop a w) (omega (arith, length-drop a w, g.ends)) in
    let u : length (take k (drop (a + k) w)) ≡ k = length-take-le k (drop (a + k) w) (omega (arith, length-drop (a + k) w, g.ends)) in
    (rw (p, q), long _ _ (l ∙ sym u) ∙ l)

pub window_lem : (v : List ℕ) (k : ℕ) → length v ≡ 2 * k → (sides (take k v) (take (length v - k) (drop k v)) ≡ window_of k v) × (length (window_of k v) ≡ k)
window_lem v k e =
    let l : length (take k v) ≡ k = length-take-le k v (omega arith) in
    let u : length (drop k v) ≡ k = length-drop k v ∙ omega arith in
    (ap (sides (take k v)) (take_all (length v - k) (drop k v) (omega arith)), long _ _ (l ∙ sym u) ∙ l)

-- the view of a value that was opened
pub seen : (b : Box) (l u : List ℕ) (n : ℕ) → sides l u ≡ b → length l ≡ length u → n ≡ length b → n ≡ length l
seen b l u n v e h = h ∙ (ap length (sym v) ∙ long l u e)

-- two values that were opened, with as many domains
pub as_long : (b d : Box) (l u m n : List ℕ) → sides l u ≡ b → sides m n ≡ d → length l ≡ length u → length m ≡ length n → length d ≡ length b → length m ≡ length l
as_long b d l u m n v w e f h = seen b l u (length m) v e (sym (long m n f) ∙ ap length w ∙ h)
