-- No two points have the same keys: from the first to the last, with a mark for the last seven bits of each first key. A point whose bits have
-- no mark differs from all that were met; one whose bits have a mark is held against them.
use mathlib.Core.Bool.{Bool, true, false, ◌&&◌, not}
use mathlib.Core.List.{List, [], ◌∷◌, ◌++◌}
use mathlib.Core.Logic.{◌⊎◌, inl, inr}
use mathlib.Core.Path.{◌≡◌, refl, sym, ap, ap₂, ◌∙◌, subst}
use Prim.Native.Nat.{ℕ, zero, suc, ◌+◌, ◌-◌, ◌*◌, ◌/◌, ◌%◌, ◌<◌, ◌≤◌}
use native.Mathlib.Omega.{arith}
use native.Mathlib.Nat.{suc-mul, zero-mul, add-zero, mul-div_cancel, div-eq_of_lt-le, le-div_iff_mul-le}
use native.Mathlib.Numerals.{add-one}
use lib.Dec.{T, eqb, eqb→eq, eqb_refl, T_not, not_T}
use lib.ListN.{length, take, drop, get_or, set, length-set, length-drop}
use lib.Seq.{drop-drop, get_or-set_same, get_or-set_other, get_or-take, length-take-le}
use borrow.Author.Tests.{eq-eqb}
use Rattle.std.proofs.lemmas.List.{take-take}
use Rattle.std.specs.List.{IsSplitAt}
use Rattle.kdb.specs.Lists.{Each, tally, same}
use Rattle.kdb.specs.Box.{Key}
use Rattle.kdb.specs.Tree.{Rec}
use Rattle.kdb.specs.Pages.{read_recs}
use Rattle.kdb.specs.Shape.{differ}
use Rattle.kdb.proofs.Tests.{and_l, and_r, and_i, and_swap, and_assoc, and_true, bool, bool_eq, is_true, is_false, of_true, no_bit}
use Rattle.kdb.proofs.Lists.{same_eq, each_map}
use Rattle.kdb.proofs.Pages.{recs_take}
use Rattle.pages.specs.Tests.{recs_of, unlike}
use Rattle.pages.proofs.Slots.{rec_in, unlike_cons}

-- by cases on a test, with its equation
pub case {ℓ} : {C : Type ℓ} (b : Bool) → (b ≡ true → C) → (b ≡ false → C) → C
case true f g = f refl
case false f g = g refl

pub true_false {ℓ} : {C : Type ℓ} → true ≡ false → C
true_false e = absurd (let z : ◌≡◌ {A = ℕ} 0 1 = cc in omega arith)

-- each of the points has the mark of its bits
abbrev pub bits_of : Key → ℕ
bits_of x = get_or x 0 0 % 128

abbrev marked_in : List Bool → Rec → Type 0
marked_in t q = get_or t (bits_of q.key) false ≡ true

-- a key whose bits have no mark is none of them
unmarked : (t : List Bool) (x : Key) (rs : List Rec) → get_or t (bits_of x) false ≡ false → Each (marked_in t) rs → tally (λ q. same x q.key) rs ≡ 0
unmarked t x [] z h = refl
unmarked t x (q ∷ rs) z h =
    omega (arith, no_bit (same x q.key) (λ s. true_false (sym h.0 ∙ (ap (λ (y : Key). get_or t (bits_of y) false) (sym (same_eq x q.key s)) ∙ z))), unmarked t x rs z h.1)

-- a mark more, and a point more
mark_keeps : (t : List Bool) (i : ℕ) (rs : List Rec) → i < length t → Each (marked_in t) rs → Each (marked_in (set t i true)) rs
mark_keeps t i rs l h = each_map (marked_in t) (marked_in (set t i true)) rs one h
  where
    one : (y : Rec) → marked_in t y → marked_in (set t i true) y
    one y h =
        bool (eqb (bits_of y.key) i) (λ e. rw (eqb→eq (bits_of y.key) i e) (get_or-set_same t i true false l))
        (λ n. get_or-set_other t i (bits_of y.key) true false (λ e. T_not (eqb (bits_of y.key) i) n (rw e (eqb_refl i))) ∙ h)

each_push : (P : Rec → Type 0) (rs : List Rec) (q : Rec) → Each P rs → P q → Each P (rs ++ (q ∷ []))
each_push P [] q h g = (g, tt)
each_push P (r ∷ rs) q h g = (h.0, each_push P rs q h.1 g)

-- one point more at the end: it is held against those before it
eqb_turned : (a b : ℕ) → eqb a b ≡ eqb b a
eqb_turned a b = bool_eq (eqb a b) (eqb b a) (turn a b) (turn b a)
  where
    turn : (a b : ℕ) → T (eqb a b) → T (eqb b a)
    turn a b t = rw (eqb→eq a b t) (eqb_refl b)

same_turned : (x y : Key) → same x y ≡ same y x
same_turned [] [] = refl
same_turned [] (b ∷ y) = refl
same_turned (a ∷ x) [] = refl
same_turned (a ∷ x) (b ∷ y) = ap₂ ◌&&◌ (eqb_turned a b) (same_turned x y)

unlike_push : (x : Key) (rs : List Rec) (q : Rec) → unlike x (rs ++ (q ∷ [])) ≡ unlike x rs && not (same x q.key)
unlike_push x [] q = unlike_cons x q [] ∙ and_true (not (same x q.key))
unlike_push x (r ∷ rs) q =
    unlike_cons x r (rs ++ (q ∷ []))
    ∙ (ap (λ b. not (same x r.key) && b) (unlike_push x rs q)
    ∙ (sym (and_assoc (not (same x r.key)) (unlike x rs) (not (same x q.key))) ∙ ap (λ b. b && not (same x q.key)) (sym (unlike_cons x r rs))))

shuffle : (u n d v : Bool) → (u && n) && (d && v) ≡ (u && d) && (n && v)
shuffle true n d v = and_swap n d v
shuffle false n d v = refl

differ_push : (rs : List Rec) (q : Rec) → differ (rs ++ (q ∷ [])) ≡ differ rs && unlike q.key rs
differ_push [] q = refl
differ_push (r ∷ rs) q =
    ap₂ ◌&&◌ (unlike_push r.key rs q) (differ_push rs q)
    ∙ (shuffle (unlike r.key rs) (not (same r.key q.key)) (differ rs) (unlike q.key rs)
    ∙ ap (λ b. (unlike r.key rs && differ rs) && b) (ap (λ b. not b && unlike q.key rs) (same_turned r.key q.key) ∙ sym (unlike_cons q.key r rs)))

recs_push : (k n : ℕ) (ws : List ℕ) → read_recs k (suc n) ws ≡ read_recs k n ws ++ (rec_in k (drop (n * (k + 1)) ws) ∷ [])
recs_push k zero ws = rw (zero-mul (k + 1))
recs_push k (suc n) ws =
    let q : suc n * (k + 1) ≡ k + 1 + n * (k + 1) = omega (arith, suc-mul n (k + 1)) in
    ap (λ (l : List Rec). rec_in k ws ∷ l) (recs_push k n (drop (k + 1) ws) ∙ rw (drop-drop (n * (k + 1)) (k + 1) ws, q))

recs_more : (k n : ℕ) (ws : List ℕ) → read_recs k (n + 1) ws ≡ read_recs k n ws ++ (rec_in k (drop (n * (k + 1)) ws) ∷ [])
recs_more k n ws = ap (λ (i : ℕ). read_recs k i ws) (add-one n) ∙ recs_push k n ws

differ_more : (k n : ℕ) (ws : List ℕ) → differ (read_recs k (n + 1) ws) ≡ differ (read_recs k n ws) && unlike (take k (drop (n * (k + 1)) ws)) (read_recs k n ws)
differ_more k n ws = ap differ (recs_more k n ws) ∙ differ_push (read_recs k n ws) (rec_in k (drop (n * (k + 1)) ws))

-- the first of points that differ do too
first_differ : (k n m : ℕ) (ws : List ℕ) → T (differ (read_recs k (n + m) ws)) → T (differ (read_recs k n ws))
first_differ k n zero ws t = rw add-zero at t
first_differ k n (suc m) ws t =
    let q : n + suc m ≡ n + m + 1 = omega arith in
    first_differ k n m ws (and_l (differ (read_recs k (n + m) ws)) _ (subst T (ap (λ (i : ℕ). differ (read_recs k i ws)) q ∙ differ_more k (n + m) ws) t))

-- the first n points differ and have their marks
pub record Met (k : ℕ) (ws : List ℕ) (n : ℕ) (t : List Bool) : Type 0 where
  pub good : T (differ (read_recs k n ws))
  pub long : length t ≡ 128
  pub each : Each (marked_in t) (read_recs k n ws)

-- with `rest` still to come, n points were met
pub record At (k : ℕ) (ws rest : List ℕ) (t : List Bool) : Type 0 where
  pub n : ℕ
  pub from : rest ≡ drop (n * (k + 1)) ws
  pub before : n * (k + 1) ≤ length ws
  pub met : Met k ws n t

module _ (k : ℕ) (ws rest : List ℕ) (t : List Bool) (a : At k ws rest t) where
  abbrev n : ℕ
  n = a.n

  long : length rest ≡ length ws - n * (k + 1)
  long = ap length a.from ∙ length-drop (n * (k + 1)) ws

  more : (n + 1) * (k + 1) ≡ n * (k + 1) + (k + 1)
  more = rw (add-one n) (omega (arith, suc-mul n (k + 1)))

  pub at_end : length rest < k + 1 → true ≡ differ (recs_of k ws)
  at_end h =
      let e : length ws / (k + 1) ≡ n = div-eq_of_lt-le {k = n} (k + 1) a.before (omega (arith, long, more, a.before)) in
      sym (is_true (differ (recs_of k ws)) (rw e a.met.good))

  -- the next point p, and those before it, as code has them
  module _ (p later : List ℕ) (s : IsSplitAt rest (k + 1) p later) where
    inside : n + 1 ≤ length ws / (k + 1)
    inside = let z : 0 < k + 1 = omega arith in (le-div_iff_mul-le z).1 (omega (arith, long, more, a.before, s.0))

    abbrev q : Rec
    q = rec_in k (drop (n * (k + 1)) ws)

    key_is : take k p ≡ q.key
    key_is = ap (take k) (s.1 ∙ ap (take (k + 1)) a.from) ∙ take-take k (k + 1) (drop (n * (k + 1)) ws) (omega arith)

    before_is : recs_of k (take (length ws - length rest) ws) ≡ read_recs k n ws
    before_is =
        let x : length ws - length rest ≡ n * (k + 1) = omega (arith, long, a.before) in
        let c : length (take (n * (k + 1)) ws) / (k + 1) ≡ n = rw (length-take-le (n * (k + 1)) ws a.before) (mul-div_cancel n (omega arith)) in
        rw x (ap (λ (i : ℕ). read_recs k i (take (n * (k + 1)) ws)) c ∙ recs_take k n (n * (k + 1)) ws (omega arith))

    abbrev test : Bool
    test = unlike (take k p) (recs_of k (take (length ws - length rest) ws))

    test_is : test ≡ unlike q.key (read_recs k n ws)
    test_is = ap₂ unlike key_is before_is

    more_is : differ (read_recs k (n + 1) ws) ≡ differ (read_recs k n ws) && test
    more_is = differ_more k n ws ∙ ap (λ b. differ (read_recs k n ws) && b) (sym test_is)

    pub at_stop : test ≡ false → false ≡ differ (recs_of k ws)
    at_stop f =
        let c : n + 1 + (length ws / (k + 1) - (n + 1)) ≡ length ws / (k + 1) = omega (arith, inside) in
        sym (is_false (differ (recs_of k ws)) (not_T (differ (recs_of k ws)) (λ y.
        let d = first_differ k (n + 1) (length ws / (k + 1) - (n + 1)) ws (rw c y) in
        true_false (sym (is_true test (and_r (differ (read_recs k n ws)) _ (rw more_is at d))) ∙ f))))

    module _ (some : 1 ≤ k) where
      bits_are : get_or p 0 0 % 128 ≡ bits_of q.key
      bits_are = ap (λ (y : ℕ). y % 128) (sym (get_or-take k p 0 0 (omega arith)) ∙ ap (λ (y : Key). get_or y 0 0) key_is)

      marked_next : test ≡ true → At k ws later (set t (get_or p 0 0 % 128) true)
      marked_next f =
          let i : bits_of q.key < length t = omega (arith, a.met.long) in
          record {
            n = n + 1;
            from = s.2 ∙ (ap (drop (k + 1)) a.from ∙ (drop-drop (k + 1) (n * (k + 1)) ws ∙ ap (λ (x : ℕ). drop x ws) (sym more)));
            before = omega (arith, long, more, a.before, s.0);
            met = record {
              good = rw more_is (and_i (differ (read_recs k n ws)) _ a.met.good (of_true test f));
              long = length-set t (get_or p 0 0 % 128) true ∙ a.met.long;
              each = rw (bits_are, recs_more k n ws) (each_push (marked_in (set t (bits_of q.key) true)) (read_recs k n ws) q
                  (mark_keeps t (bits_of q.key) (read_recs k n ws) i a.met.each) (get_or-set_same t (bits_of q.key) true false i));
            };
          }

      -- its bits have no mark, or it is none of those before it
      pub at_next : (get_or t (get_or p 0 0 % 128) false ≡ false) ⊎ (test ≡ true) → At k ws later (set t (get_or p 0 0 % 128) true)
      at_next h = elim h [
        | inl z ↦ marked_next (test_is ∙ eq-eqb _ 0 (unmarked t q.key (read_recs k n ws) (ap (λ (i : ℕ). get_or t i false) (sym bits_are) ∙ z) a.met.each))
        | inr f ↦ marked_next f
      ]
