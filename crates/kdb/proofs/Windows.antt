-- What list takes and fills: a window that list takes meets the whole space, the window of a point is that point alone, and the answer
-- buffer keeps its length and its later slots.
use mathlib.Core.Bool.{◌&&◌}
use mathlib.Core.List.{List, [], ◌∷◌, ◌++◌, map, append-nil}
use mathlib.Core.Path.{◌≡◌, sym, ap, ap₂, ◌∙◌, subst}
use Prim.Native.Nat.{ℕ, zero, suc, ◌*◌, ◌<◌, ◌≤◌, max}
use native.Mathlib.Omega.{arith}
use lib.Dec.{T, leb, ltb, eqb, eqb→eq, leb→le, le→leb, ltb→lt, lt→ltb}
use lib.ListN.{length, take, drop, length-take, length-drop, length-append, length-map, drop_of_length-le}
use borrow.Author.Tests.{eq-eqb}
use lib.Seq.{take_all, take_at, drop_at}
use Rattle.kdb.specs.Box.{∞, sides, whole, meets}
use Rattle.kdb.specs.Pool.{domains, levels_at}
use Rattle.kdb.specs.Tree.{State}
use Rattle.kdb.specs.Walk.{list_walk, find_walk}
use Rattle.kdb.specs.Calls.{finite, ordered, window_of}
use Rattle.kdb.specs.Demands.{good_window, good_point}
use Rattle.kdb.proofs.Tests.{and_i, and_l, and_r, of_true}
use Rattle.kdb.proofs.Lists.{every_take, every_append}
use Rattle.kdb.proofs.Views.{finite_whole}
use Rattle.kdb.proofs.Stands.{Stands}
use Rattle.kdb.proofs.Reading.{one_point, list_point, find_path}

sides_meet : (k : ℕ) (ls us : List ℕ) → length ls ≡ k → length us ≡ k → T (finite ls) → T (ordered (sides ls us)) → T (meets (whole k) (sides ls us))
sides_meet zero [] us h j f o = tt
sides_meet zero (l ∷ ls) us h j f o = absurd (omega arith)
sides_meet (suc k) [] us h j f o = absurd (omega arith)
sides_meet (suc k) (l ∷ ls) [] h j f o = absurd (omega arith)
sides_meet (suc k) (l ∷ ls) (u ∷ us) h j f o =
    let m = max 0 l in
    let x : l < ∞ = ltb→lt l ∞ (and_l (ltb l ∞) _ f) in
    let y : l ≤ u = leb→le l u (and_l (leb l u) _ o) in
    and_i (ltb m ∞ && leb m u) _ (and_i (ltb m ∞) (leb m u) (lt→ltb m ∞ (omega arith)) (le→leb m u (omega arith)))
    (sides_meet k ls us (omega arith) (omega arith) (and_r (ltb l ∞) _ f) (and_r (leb l u) _ o))

-- a window that list takes meets the whole space
pub window_meets : (k : ℕ) (v : List ℕ) → length v ≡ 2 * k → T (finite v) → T (ordered (window_of k v)) → T (meets (whole k) (window_of k v))
window_meets k v e f o =
    sides_meet k (take k v) (drop k v) (omega (arith, length-take k v)) (omega (arith, length-drop k v)) (every_take (λ x. ltb x ∞) k v f) o

pub good_meets : (k : ℕ) (v : List ℕ) → T (good_window k v) → T (meets (whole k) (window_of k v))
good_meets k v h =
    let long = eqb (length v) (2 * k) in
    let t = and_l (long && finite v) _ h in
    window_meets k v (eqb→eq (length v) (2 * k) (and_l long _ t)) (and_r long _ t) (and_r (long && finite v) _ h)

-- the window whose lower ends and upper ends are the point
pub point_window : (k : ℕ) (p : List ℕ) → length p ≡ k → window_of k (p ++ p) ≡ sides p p
point_window k p e = ap₂ sides (take_at p p k e) (drop_at p p k e)

sides_ordered : (p : List ℕ) → T (ordered (sides p p))
sides_ordered [] = tt
sides_ordered (x ∷ p) = and_i (leb x x) _ (le→leb x x (omega arith)) (sides_ordered p)

-- is taken where the point is
pub point_good : (k : ℕ) (p : List ℕ) → T (good_point k p) → T (good_window k (p ++ p))
point_good k p h =
    let e = eqb→eq (length p) k (and_l (eqb (length p) k) _ h) in
    let f = and_r (eqb (length p) k) _ h in
    let long : length (p ++ p) ≡ 2 * k = length-append p p ∙ omega arith in
    and_i (eqb (length (p ++ p)) (2 * k) && finite (p ++ p)) _
    (and_i (eqb (length (p ++ p)) (2 * k)) _ (of_true _ (eq-eqb (length (p ++ p)) (2 * k) long)) (every_append (λ x. ltb x ∞) p p f f))
    (subst (λ v. T (ordered v)) (sym (point_window k p e)) (sides_ordered p))

-- reads a page of each level
pub point_reads : (L : ℕ) (w p : List ℕ) (s : State) → Stands L w s → length p ≡ domains w → T (finite p) → length (list_walk L w (window_of (domains w) (p ++ p))).read ≡ levels_at w
point_reads L w p s h e f =
    ap (λ v. length (list_walk L w v).read) (point_window (domains w) p e) ∙ list_point L w (sides p p) p s h (one_point p) (finite_whole (domains w) p e f)

-- and find reads the same pages
pub point_path : (L : ℕ) (w p : List ℕ) (s : State) → Stands L w s → length p ≡ domains w → T (finite p) → (find_walk L w p).read ≡ (list_walk L w (window_of (domains w) (p ++ p))).read
point_path L w p s h e f =
    find_path L w (sides p p) p s h (one_point p) (finite_whole (domains w) p e f) ∙ sym (ap (λ v. (list_walk L w v).read) (point_window (domains w) p e))

-- the answer buffer keeps its length; with slots enough it begins with the locations and the later slots are unchanged; with too few it
-- takes the first locations
module _ {A : Type 0} (loc : A → ℕ) (answer : List ℕ) (xs : List A) where
  pub fill_enough : length xs ≤ length answer → take (length answer) (map loc xs) ++ drop (length xs) answer ≡ map loc xs ++ drop (length xs) answer
  fill_enough h = ap (λ l. l ++ drop (length xs) answer) (take_all (length answer) (map loc xs) (omega (arith, length-map xs loc)))

  pub fill_few : length answer ≤ length xs → take (length answer) (map loc xs) ++ drop (length xs) answer ≡ take (length answer) (map loc xs)
  fill_few h = ap (λ l. take (length answer) (map loc xs) ++ l) (drop_of_length-le answer h) ∙ append-nil (take (length answer) (map loc xs))
