-- Laws of regions and windows. `meets_iff`: a region meets a window exactly if some key lies in both.
use mathlib.Core.Bool.{◌&&◌}
use mathlib.Core.List.{[], ◌∷◌}
use mathlib.Core.Logic.{◌↔◌}
use mathlib.Core.Path.{◌≡◌, refl, ap}
use Prim.Native.Nat.{ℕ, ◌<◌, ◌≤◌, max, suc}
use native.Mathlib.Omega.{arith}
use lib.Dec.{T, leb, ltb, leb→le, le→leb, ltb→lt, lt→ltb}
use lib.ListN.{length}
use Rattle.kdb.specs.Box.{Side, Box, Key, within, in_window, meets}
use Rattle.kdb.proofs.Tests.{and_l, and_r, and_i}

-- the tests of one side, and the rest
pub within_i : (s : Side) (x : ℕ) (b : Box) (p : Key) → s.lo ≤ x → x < s.hi → T (within b p) → T (within (s ∷ b) (x ∷ p))
within_i s x b p h k t = and_i (leb s.lo x && ltb x s.hi) _ (and_i (leb s.lo x) (ltb x s.hi) (le→leb s.lo x h) (lt→ltb x s.hi k)) t

pub within_e : (s : Side) (x : ℕ) (b : Box) (p : Key) → T (within (s ∷ b) (x ∷ p)) → (s.lo ≤ x) × (x < s.hi) × T (within b p)
within_e s x b p t =
    let c = and_l (leb s.lo x && ltb x s.hi) _ t in
    (leb→le s.lo x (and_l (leb s.lo x) _ c), ltb→lt x s.hi (and_r (leb s.lo x) _ c), and_r (leb s.lo x && ltb x s.hi) _ t)

pub window_i : (s : Side) (x : ℕ) (b : Box) (p : Key) → s.lo ≤ x → x ≤ s.hi → T (in_window b p) → T (in_window (s ∷ b) (x ∷ p))
window_i s x b p h k t = and_i (leb s.lo x && leb x s.hi) _ (and_i (leb s.lo x) (leb x s.hi) (le→leb s.lo x h) (le→leb x s.hi k)) t

pub window_e : (s : Side) (x : ℕ) (b : Box) (p : Key) → T (in_window (s ∷ b) (x ∷ p)) → (s.lo ≤ x) × (x ≤ s.hi) × T (in_window b p)
window_e s x b p t =
    let c = and_l (leb s.lo x && leb x s.hi) _ t in
    (leb→le s.lo x (and_l (leb s.lo x) _ c), leb→le x s.hi (and_r (leb s.lo x) _ c), and_r (leb s.lo x && leb x s.hi) _ t)

-- a region's keys are as long as the region
pub within_length : (b : Box) (p : Key) → T (within b p) → length p ≡ length b
within_length [] [] t = refl
within_length [] (x ∷ p) t = absurd t
within_length (s ∷ b) [] t = absurd t
within_length (s ∷ b) (x ∷ p) t = ap suc (within_length b p (within_e s x b p t).2)

-- a key that lies in both shows that the region meets the window
pub meets_of : (b w : Box) (p : Key) → T (within b p) → T (in_window w p) → T (meets b w)
meets_of [] [] p h k = tt
meets_of [] (v ∷ w) [] h k = k
meets_of [] (v ∷ w) (x ∷ p) h k = h
meets_of (s ∷ b) [] [] h k = h
meets_of (s ∷ b) [] (x ∷ p) h k = k
meets_of (s ∷ b) (v ∷ w) [] h k = absurd h
meets_of (s ∷ b) (v ∷ w) (x ∷ p) h k =
    let i = within_e s x b p h in
    let j = window_e v x w p k in
    let m = max s.lo v.lo in
    and_i (ltb m s.hi && leb m v.hi) _ (and_i (ltb m s.hi) (leb m v.hi) (lt→ltb m s.hi (omega arith)) (le→leb m v.hi (omega arith))) (meets_of b w p i.2 j.2)

-- where they meet there is such a key
pub at_meet : (b w : Box) → T (meets b w) → (p : Key) × T (within b p) × T (in_window w p)
at_meet [] [] h = ([], tt, tt)
at_meet [] (v ∷ w) h = absurd h
at_meet (s ∷ b) [] h = absurd h
at_meet (s ∷ b) (v ∷ w) h =
    let m = max s.lo v.lo in
    let i = at_meet b w (and_r (ltb m s.hi && leb m v.hi) _ h) in
    let c = and_l (ltb m s.hi && leb m v.hi) _ h in
    let h1 : m < s.hi = ltb→lt m s.hi (and_l (ltb m s.hi) _ c) in
    let h2 : m ≤ v.hi = leb→le m v.hi (and_r (ltb m s.hi) _ c) in
    (m ∷ i.0, within_i s m b i.0 (omega arith) h1 i.1, window_i v m w i.0 (omega arith) h2 i.2)

pub meets_iff : (b w : Box) → T (meets b w) ↔ ((p : Key) × T (within b p) × T (in_window w p))
meets_iff b w = (at_meet b w, λ k. meets_of b w k.0 k.1 k.2)
