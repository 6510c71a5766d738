-- What `fill` leaves in a buffer, as a run of stores.
use Prim.Native.Nat.{ℕ, ◌+◌, ◌-◌, ◌≤◌, ◌<◌, min}
use mathlib.Core.List.{List, ◌++◌, append_assoc}
use mathlib.Core.Path.{◌≡◌, sym, ap, ◌∙◌}
use native.Mathlib.Omega.{arith}
use lib.Dec.{leb, leb→le, nleb→lt}
use lib.ListN.{length, take, drop, replicate, length-replicate}
use borrow.Rule.Slice.PartMut.{put_mid}
use lib.Seq.{sets, sets-eq, take_all, length-sets, length-take-le, drop-drop}
use Rattle.std.proofs.Common.{take-append-drop, length-drop}
use Rattle.std.proofs.lemmas.List.{take-replicate}
use Rattle.kdb.proofs.Tests.{bool}
use Rattle.kdb.proofs.Stores.{sets_append, sets_out}

module _ {A : Type 0} (x v : List A) (a n : ℕ) where
  -- what is stored past the end is lost
  sets_clamped : length x ≤ a + n → n ≤ length v → sets x a (take n v) ≡ sets x a v
  sets_clamped h s =
      let e : length (take n v) ≡ n = length-take-le n v s in
      sym (sets_out (sets x a (take n v)) (drop n v) (a + length (take n v)) (omega (arith, length-sets x a (take n v))))
      ∙ sets_append x a (take n v) (drop n v)
      ∙ ap (sets x a) (take-append-drop n v)

  -- v as far as both go, between what stands before it and what stands behind it
  pub stored : a ≤ length x → n ≡ min (length x - a) (length v) → take a x ++ (take n v ++ drop n (drop a x)) ≡ sets x a v
  stored h e =
      let s : length (take n v) ≡ n = length-take-le n v (omega arith) in
      sym (sets-eq (take n v) x a (omega arith)
      ∙ append_assoc (take a x) (take n v) (drop (a + length (take n v)) x)
      ∙ ap (λ l. take a x ++ (take n v ++ l)) (ap (λ (m : ℕ). drop (a + m) x) s ∙ sym (drop-drop n a x)))
      ∙ bool (leb (length v) n)
      (λ t. ap (sets x a) (take_all n v (omega (arith, leb→le _ _ t))))
      (λ t. sets_clamped (omega (arith, nleb→lt _ _ t)) (omega (arith, nleb→lt _ _ t)))

-- the words from a to b become 0, as far as there are such
pub zeroed : (x : List ℕ) (a b e : ℕ) → e ≡ min b (length x) → a < e → put_mid a (e - a) x (replicate (length (take (e - a) (drop a x))) 0) ≡ sets x a (replicate (b - a) 0)
zeroed x a b e q h =
    let s : length (take (e - a) (drop a x)) ≡ e - a = length-take-le (e - a) (drop a x) (omega (arith, length-drop a x)) in
    ap (λ (l : List ℕ). take a x ++ (l ++ drop (e - a) (drop a x))) (ap (λ (n : ℕ). replicate n 0) s ∙ sym (take-replicate (e - a) (b - a) 0 (omega arith)))
    ∙ stored x (replicate (b - a) 0) a (e - a) (omega arith) (omega (arith, length-replicate {A = ℕ} (b - a) 0))

pub unzeroed : (x : List ℕ) (a b e : ℕ) → e ≡ min b (length x) → e ≤ a → x ≡ sets x a (replicate (b - a) 0)
unzeroed x a b e q h = bool (leb (length x) a)
    (λ t. sym (sets_out x (replicate (b - a) 0) a (leb→le _ _ t)))
    (λ t. let z : b - a ≡ 0 = omega (arith, nleb→lt _ _ t) in rw z)
