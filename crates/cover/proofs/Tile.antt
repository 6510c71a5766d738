-- The tests of a page's entries, with the count of their keys behind them, are the test of a tiling.
use mathlib.Core.Bool.{Bool, true, false, ◌&&◌, not}
use mathlib.Core.List.{List, [], ◌∷◌}
use mathlib.Core.Path.{◌≡◌, refl, sym, ap₂, ◌∙◌, subst}
use Prim.Native.Nat.{◌-◌, ◌<◌, ◌≤◌, min, max}
use native.Mathlib.Omega.{arith}
use lib.Dec.{T, leb, ltb, eqb, leb→le, le→leb, ltb→lt, lt→ltb, eqb→eq, T_not}
use borrow.Author.Tests.{eq-eqb}
use Rattle.kdb.specs.Lists.{bit, every, Each}
use Rattle.kdb.specs.Box.{Side, Box, Key, within, solid}
use Rattle.kdb.specs.Tiling.{holders, share, apart, covers, tiles}
use Rattle.kdb.proofs.Tests.{and_l, and_r, and_i, bool, bool_eq, to_bit, of_bit, of_true, no_bit}
use Rattle.kdb.proofs.Box.{within_i, within_e}
use Rattle.kdb.proofs.Tiling.{low, low_in, covers_says, says_covers, tiles_iff, tiles_counted, counted_tiles, solid_of, share_of}
use Rattle.cover.specs.Boxes.{inside_side, inside_of, overlap_side, overlap, clear_of, fitted}
use Rattle.cover.specs.Volume.{volume_of, volumes_of}
use Rattle.cover.proofs.Grid.{Under, volumes_most, volumes_each, each_volumes}

-- one side inside another
record InSide (s t : Side) : Type 0 where
  some : s.lo < s.hi
  low : t.lo ≤ s.lo
  high : s.hi ≤ t.hi

in_side : (s t : Side) → T (inside_side s t) → InSide s t
in_side s t h =
    let c = and_l (ltb s.lo s.hi && leb t.lo s.lo) _ h in
    record {
      some = ltb→lt s.lo s.hi (and_l (ltb s.lo s.hi) _ c);
      low = leb→le t.lo s.lo (and_r (ltb s.lo s.hi) _ c);
      high = leb→le s.hi t.hi (and_r (ltb s.lo s.hi && leb t.lo s.lo) _ h);
    }

side_in : (s t : Side) → InSide s t → T (inside_side s t)
side_in s t h =
    and_i (ltb s.lo s.hi && leb t.lo s.lo) _
    (and_i (ltb s.lo s.hi) _ (lt→ltb s.lo s.hi h.some) (le→leb t.lo s.lo h.low)) (le→leb s.hi t.hi h.high)

-- a region inside another: both hold a key, and the other holds its keys
record Inside (e r : Box) : Type 0 where
  inner : T (solid e)
  outer : T (solid r)
  keys : (p : Key) → T (within e p) → T (within r p)

inside_says : (e r : Box) → T (inside_of e r) → Inside e r
inside_says [] [] t = record { inner = tt; outer = tt; keys = λ p h. h }
inside_says [] (z ∷ r) t = absurd t
inside_says (s ∷ e) [] t = absurd t
inside_says (s ∷ e) (z ∷ r) t =
    let i = in_side s z (and_l (inside_side s z) _ t) in
    let m = inside_says e r (and_r (inside_side s z) _ t) in
    record {
      inner = and_i (ltb s.lo s.hi) _ (lt→ltb s.lo s.hi i.some) m.inner;
      outer = and_i (ltb z.lo z.hi) _ (lt→ltb z.lo z.hi (omega arith)) m.outer;
      keys = λ p h. keys p i m.keys h;
    }
  where
    keys : (p : Key) → InSide s z → ((q : Key) → T (within e q) → T (within r q)) → T (within (s ∷ e) p) → T (within (z ∷ r) p)
    keys [] i f h = h
    keys (x ∷ p) i f h = let g = within_e s x e p h in within_i z x r p (omega arith) (omega arith) (f p g.2)

says_inside : (e r : Box) → T (solid e) → ((p : Key) → T (within e p) → T (within r p)) → T (inside_of e r)
says_inside [] [] t f = tt
says_inside [] (z ∷ r) t f = f [] tt
says_inside (s ∷ e) [] t f = f (low (s ∷ e)) (low_in (s ∷ e) t)
says_inside (s ∷ e) (z ∷ r) t f =
    let h : s.lo < s.hi = ltb→lt s.lo s.hi (and_l (ltb s.lo s.hi) _ t) in
    let u = and_r (ltb s.lo s.hi) _ t in
    let a = within_e z s.lo r (low e) (f (s.lo ∷ low e) (within_i s s.lo e (low e) (omega arith) h (low_in e u))) in
    let b = within_e z (s.hi - 1) r (low e) (f ((s.hi - 1) ∷ low e) (within_i s (s.hi - 1) e (low e) (omega arith) (omega arith) (low_in e u))) in
    and_i (inside_side s z) _ (side_in s z (record { some = h; low = a.0; high = omega (arith, b.1) }))
    (says_inside e r u (λ p g. (within_e z s.lo r p (f (s.lo ∷ p) (within_i s s.lo e p (omega arith) h g))).2))

inside_under : (e r : Box) → T (inside_of e r) → Under e r
inside_under [] [] t = tt
inside_under [] (z ∷ r) t = absurd t
inside_under (s ∷ e) [] t = absurd t
inside_under (s ∷ e) (z ∷ r) t = ((in_side s z (and_l (inside_side s z) _ t)).high, inside_under e r (and_r (inside_side s z) _ t))

-- regions that are not empty
overlap_share : (b c : Box) → T (solid b) → T (solid c) → overlap b c ≡ share b c
overlap_share [] [] s t = refl
overlap_share [] (z ∷ c) s t = refl
overlap_share (z ∷ b) [] s t = refl
overlap_share (x ∷ b) (z ∷ c) s t =
    let h : x.lo < x.hi = ltb→lt x.lo x.hi (and_l (ltb x.lo x.hi) _ s) in
    let g : z.lo < z.hi = ltb→lt z.lo z.hi (and_l (ltb z.lo z.hi) _ t) in
    let m = max x.lo z.lo in
    let n = min x.hi z.hi in
    ap₂ ◌&&◌
    (bool_eq (overlap_side x z) (ltb m n)
    (λ i. let p = ltb→lt x.lo z.hi (and_l (ltb x.lo z.hi) _ i) in let q = ltb→lt z.lo x.hi (and_r (ltb x.lo z.hi) _ i) in lt→ltb m n (omega arith))
    (λ i. let p : m < n = ltb→lt m n i in and_i (ltb x.lo z.hi) _ (lt→ltb x.lo z.hi (omega arith)) (lt→ltb z.lo x.hi (omega arith))))
    (overlap_share b c (and_r (ltb x.lo x.hi) _ s) (and_r (ltb z.lo z.hi) _ t))

clear_apart : (e : Box) (es : List Box) → T (solid e) → T (every solid es) → clear_of e es ≡ every (λ c. not (share e c)) es
clear_apart e [] s t = refl
clear_apart e (c ∷ es) s t = ap₂ (λ x y. not x && y) (overlap_share e c s (and_l (solid c) _ t)) (clear_apart e es s (and_r (solid c) _ t))

-- inside is covered by the one region
inside_covered : (e r : Box) → T (solid e) → T (covers (r ∷ []) e) → T (inside_of e r)
inside_covered e r s c = says_inside e r s (λ p g. of_bit (within r p) (omega (arith, (covers_says (r ∷ []) e c p g).held)))

covered_inside : (e r : Box) → Inside e r → T (covers (r ∷ []) e)
covered_inside e r i = says_covers (r ∷ []) e (λ p g. record { held = omega (arith, to_bit (within r p) (i.keys p g)) })

-- the three tests of the entries
abbrev three : Box → List Box → Bool
three r bs = every solid bs && apart bs && every (covers (r ∷ [])) bs

record Three (r : Box) (bs : List Box) : Type 0 where
  solids : T (every solid bs)
  parted : T (apart bs)
  inner : T (every (covers (r ∷ [])) bs)

fit_three : (r : Box) (bs : List Box) → T (fitted r bs) → Three r bs
fit_three r [] t = record { solids = tt; parted = tt; inner = tt }
fit_three r (e ∷ es) t =
    let h = and_l (inside_of e r && clear_of e es) _ t in
    let i = inside_says e r (and_l (inside_of e r) _ h) in
    let m = fit_three r es (and_r (inside_of e r && clear_of e es) _ t) in
    record {
      solids = and_i (solid e) _ i.inner m.solids;
      parted = and_i (every (λ c. not (share e c)) es) _ (rw (clear_apart e es i.inner m.solids) at (and_r (inside_of e r) _ h)) m.parted;
      inner = and_i (covers (r ∷ []) e) _ (covered_inside e r i) m.inner;
    }

three_fit : (r : Box) (bs : List Box) → Three r bs → T (fitted r bs)
three_fit r [] m = tt
three_fit r (e ∷ es) m =
    let s = and_l (solid e) _ m.solids in
    let ss = and_r (solid e) _ m.solids in
    and_i (inside_of e r && clear_of e es) _
    (and_i (inside_of e r) _ (inside_covered e r s (and_l (covers (r ∷ []) e) _ m.inner)) (rw (clear_apart e es s ss) (and_l (every (λ c. not (share e c)) es) _ m.parted)))
    (three_fit r es (record { solids = ss; parted = and_r (every (λ c. not (share e c)) es) _ m.parted; inner = and_r (covers (r ∷ []) e) _ m.inner }))

fit_is : (r : Box) (bs : List Box) → fitted r bs ≡ three r bs
fit_is r bs =
    bool_eq (fitted r bs) (three r bs)
    (λ t. let m = fit_three r bs t in and_i (every solid bs && apart bs) _ (and_i (every solid bs) _ m.solids m.parted) m.inner)
    (λ t. let u = and_l (every solid bs && apart bs) _ t in
    three_fit r bs (record { solids = and_l (every solid bs) _ u; parted = and_r (every solid bs) _ u; inner = and_r (every solid bs && apart bs) _ t }))

pub tiles_no : (r : Box) (bs : List Box) → fitted r bs ≡ false → false ≡ tiles r bs
tiles_no r bs e = rw (sym (fit_is r bs) ∙ e)

-- regions that fit: their keys lie in r, and no key in two of them
fit_under : (r : Box) (bs : List Box) → T (fitted r bs) → Each (λ b. Under b r) bs
fit_under r [] t = tt
fit_under r (e ∷ es) t =
    let h = and_l (inside_of e r && clear_of e es) _ t in
    (inside_under e r (and_l (inside_of e r) _ h), fit_under r es (and_r (inside_of e r && clear_of e es) _ t))

overlap_of : (b c : Box) (p : Key) → T (within b p) → T (within c p) → T (overlap b c)
overlap_of b c p h g = subst T (sym (overlap_share b c (solid_of b p h) (solid_of c p g))) (share_of b c p h g)

clear_none : (e : Box) (es : List Box) (p : Key) → T (clear_of e es) → T (within e p) → holders es p ≡ 0
clear_none e [] p t h = refl
clear_none e (c ∷ es) p t h =
    omega (arith, no_bit (within c p) (λ g. T_not (overlap e c) (and_l (not (overlap e c)) _ t) (overlap_of e c p h g)), clear_none e es p (and_r (not (overlap e c)) _ t) h)

fit_holders : (r : Box) (bs : List Box) → T (fitted r bs) → (p : Key) → holders bs p ≤ bit (within r p)
fit_holders r [] t p = omega arith
fit_holders r (e ∷ es) t p =
    let h = and_l (inside_of e r && clear_of e es) _ t in
    bool (within e p)
    (λ y. omega (arith, to_bit (within e p) y, clear_none e es p (and_r (inside_of e r) _ h) y, to_bit (within r p) ((inside_says e r (and_l (inside_of e r) _ h)).keys p y)))
    (λ n. omega (arith, no_bit (within e p) (T_not (within e p) n), fit_holders r es (and_r (inside_of e r && clear_of e es) _ t) p))

pub fit_solids : (r : Box) (bs : List Box) → T (fitted r bs) → T (every solid bs)
fit_solids r bs t = (fit_three r bs t).solids

-- so they have together at most the keys of r, and all of them exactly if they tile it
pub fit_volumes : (r : Box) (bs : List Box) → T (fitted r bs) → volumes_of bs ≤ volume_of r
fit_volumes r bs t = volumes_most r bs (fit_under r bs t) (fit_holders r bs t)

pub fit_tiles : (r : Box) (bs : List Box) → fitted r bs ≡ true → eqb (volumes_of bs) (volume_of r) ≡ tiles r bs
fit_tiles r bs e =
    let t = of_true (fitted r bs) e in
    let u = fit_under r bs t in
    let h = fit_holders r bs t in
    bool_eq (eqb (volumes_of bs) (volume_of r)) (tiles r bs)
    (λ y. (tiles_iff r bs).1 (counted_tiles r bs (record { solids = fit_solids r bs t; once = volumes_each r bs u h (eqb→eq (volumes_of bs) (volume_of r) y) })))
    (λ y. of_true _ (eq-eqb (volumes_of bs) (volume_of r) (each_volumes r bs u h (tiles_counted r bs ((tiles_iff r bs).0 y)).once)))
