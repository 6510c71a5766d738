-- Demand 3 of the code: what the answers of find and list count, from their promises alone.
use mathlib.Core.List.{List, ◌++◌}
use mathlib.Core.Path.{◌≡◌, sym, ap, ◌∙◌}
use Prim.Native.Nat.{ℕ, ◌-◌, ◌≤◌}
use native.Mathlib.Omega.{arith}
use lib.Dec.{T}
use lib.ListN.{get_or}
use Rattle.kdb.specs.Lists.{tally}
use Rattle.kdb.specs.Pool.{domains, levels_at, pages_in, numbers, Sound, own_region}
use Rattle.kdb.specs.Calls.{L, find, list, Outcome, window_of, Promise}
use Rattle.kdb.specs.Demands.{good_window, good_point, met}
use Rattle.kdb.proofs.Demands.{demand3, bounded}

-- on a sound pool list counts the pages from 1 to N − 1 whose own region shares a point with the window
pub list_counts : (w v slots : List ℕ) (o : Outcome) → Promise w (list v slots) o → Sound L w → T (good_window (domains w) v)
    → get_or o.values 1 0 ≡ tally (λ j. met (window_of (domains w) v) (own_region L w j)) (numbers L w)
list_counts w v slots o p s h = ap (λ x. get_or x.values 1 0) p.kept ∙ (demand3 w s).count v slots h

-- a window of one point, and a find that succeeds, count one page a level
pub point_counts : (w p slots : List ℕ) (o : Outcome) → Promise w (list (p ++ p) slots) o → Sound L w → T (good_point (domains w) p) → get_or o.values 1 0 ≡ levels_at w
point_counts w p slots o q s h = ap (λ x. get_or x.values 1 0) q.kept ∙ (demand3 w s).point p slots h

pub find_counts : (w p : List ℕ) (o : Outcome) → Promise w (find p) o → Sound L w → o.number ≡ 0 → get_or o.values 1 0 ≡ levels_at w
find_counts w p o q s z = ap (λ x. get_or x.values 1 0) q.kept ∙ (demand3 w s).levelled p (sym (ap (λ x. x.number) q.kept) ∙ z)

-- on any pool at most N − 1
pub list_most : (w v slots : List ℕ) (o : Outcome) → Promise w (list v slots) o → o.number ≡ 0 → get_or o.values 1 0 ≤ pages_in L w - 1
list_most w v slots o p z =
    omega (arith, ap (λ x. get_or x.values 1 0) p.kept, (bounded w).listed v slots (sym (ap (λ x. x.number) p.kept) ∙ z), (bounded w).most (list v slots))

pub find_most : (w p : List ℕ) (o : Outcome) → Promise w (find p) o → o.number ≡ 0 → get_or o.values 1 0 ≤ pages_in L w - 1
find_most w p o q z = omega (arith, ap (λ x. get_or x.values 1 0) q.kept, (bounded w).found p (sym (ap (λ x. x.number) q.kept) ∙ z), (bounded w).most (find p))
