-- Placing and removing in a sound pool: the machine forms give the printed states, and so what the calls do once their tests hold.
use mathlib.Core.Bool.{true, cond}
use mathlib.Core.List.{List, [], ◌∷◌}
use mathlib.Core.Option.{none, some, Option}
use mathlib.Core.Path.{◌≡◌, refl, sym, ◌∙◌, ap}
use Prim.Native.Nat.{ℕ, ◌≤◌}
use native.Mathlib.Omega.{arith}
use lib.Dec.{T}
use lib.ListN.{length}
use Rattle.kdb.specs.Lists.{tally}
use Rattle.kdb.specs.Box.{Key, whole}
use Rattle.kdb.specs.Tree.{Rec, State, pages, records_of}
use Rattle.kdb.specs.Steps.{free_of, placed, removed}
use Rattle.kdb.specs.Pages.{regions_per, points_per}
use Rattle.kdb.specs.Pool.{domains, pages_in}
use Rattle.kdb.specs.Print.{printed, state_of}
use Rattle.kdb.specs.Walk.{Spot, here, find_walk}
use Rattle.kdb.proofs.Box.{within_length}
use Rattle.kdb.proofs.Views.{whole_length}
use Rattle.kdb.proofs.Stands.{Stands}
use Rattle.kdb.proofs.Grow.{Placing, formed_fair, placed_formed}
use Rattle.kdb.proofs.Remove.{removed_formed}
use Rattle.kdb.specs.declared.Refusal.TheVariants.{NoFreePage}
use Rattle.kdb.specs.Calls.{L, place, remove, alone, working, Outcome, gives, refuses, begins, core, placing, removing, stepped}
use Rattle.kdb.proofs.Length.{big}
use Rattle.kdb.proofs.Pool.{Sound_stands}
use Rattle.kdb.proofs.Effects.{place_passed, place_placing, remove_passed}
use Rattle.steps.specs.Machine.{Passed}
use Rattle.steps.specs.Place.{place_in}
use Rattle.steps.specs.Remove.{remove_in}
use Rattle.steps.proofs.Place.{answered, FairS, Sure, place_is}
use Rattle.steps.proofs.Remove.{remove_is}

tally_all : (l : List Rec) → tally (λ _. true) l ≡ length l
tally_all [] = refl
tally_all (r ∷ l) = omega (arith, tally_all l)

pub sure : (L k N : ℕ) (s : State) (q : Rec) → Placing L k N s q → Sure L k N s q
sure L k N s q h =
    record {
      key = within_length (whole k) q.key h.inside ∙ whole_length k;
      points = h.roomy.points;
      regions = h.roomy.regions;
      fair = fair s h;
      after = λ s' e.
          let o = placed_formed L k N s s' q h e in
          (o.formed, omega (arith, o.held (λ _. true), tally_all (records_of s), tally_all (records_of s')));
    }
  where
    fair : (s : State) → Placing L k N s q → FairS k (regions_per L k) (points_per L k) N s q
    fair none h = tt
    fair (some t) h = formed_fair L k N t q (free_of N (pages t)) h

pub place_prints : (L : ℕ) (w : List ℕ) (s : State) (q : Rec) → 5 ≤ L → Stands L w s → Placing L (domains w) (pages_in L w) s q
    → place_in L q.key q.loc w ≡ answered L (domains w) (pages_in L w) w (placed (domains w) (regions_per L (domains w)) (points_per L (domains w)) (pages_in L w) s q)
place_prints L w s q big st h = place_is L w s q big st (sure L (domains w) (pages_in L w) s q h)

pub remove_prints : (L : ℕ) (w : List ℕ) (s : State) (p : Key) (sp : Spot) → 5 ≤ L → Stands L w s → (find_walk L w p).end ≡ here sp
    → remove_in L sp.page sp.slot w ≡ printed L (domains w) (pages_in L w) (removed s p)
remove_prints L w s p sp big st h = remove_is L w s p sp big st (removed_formed L (domains w) (pages_in L w) s p st.formed).formed h

-- what place does once its tests hold, by the machine form
pub place_core : (w work p : List ℕ) (l : ℕ) → T (begins w (place work p l))
    → core w (place work p l) ≡ cond (place_in L p l w).ok (gives [] (working w (place_in L p l w).words)) (refuses NoFreePage (working w (place_in L p l w).words))
place_core w work p l h =
    let q : Rec = record { key = p; loc = l } in
    let st = Sound_stands L w (place_passed w work p l h).0.well big in
    sym (ap shown (place_prints L w (state_of L w) q big st (place_placing w work p l h)) ∙ go (stepped w q))
  where
    shown : Passed → Outcome
    shown o = cond o.ok (gives [] (working w o.words)) (refuses NoFreePage (working w o.words))

    go : (s : Option State) → shown (answered L (domains w) (pages_in L w) w s) ≡ placing s w
    go none = refl
    go (some s) = refl

-- and remove, where the search ended at the record
pub remove_core : (w p : List ℕ) (x : Spot) → T (begins w (remove p)) → (find_walk L w p).end ≡ here x
    → core w (remove p) ≡ gives (x.rec.loc ∷ []) (alone (remove_in L x.page x.slot w))
remove_core w p x h e =
    let st = Sound_stands L w (remove_passed w p h).well big in
    ap (λ n. removing n w p) e ∙ ap (λ v. gives (x.rec.loc ∷ []) (alone v)) (sym (remove_prints L w (state_of L w) p x big st e))
