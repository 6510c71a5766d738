-- Sequences of calls: the records that a call which was done leaves, by counts; and that a sequence in which each call keeps its promise is
-- the run of the definitions.
use mathlib.Core.Bool.{Bool, true, false, ◌&&◌}
use mathlib.Core.List.{List, [], ◌∷◌, map}
use mathlib.Core.Path.{◌≡◌, refl, ap, ap₂, ◌∙◌}
use Prim.Native.Nat.{ℕ, zero, suc, ◌+◌, ◌≤◌}
use native.Mathlib.Omega.{arith}
use Rattle.kdb.specs.Lists.{bit, tally, same}
use Rattle.kdb.specs.Box.{Key}
use Rattle.kdb.specs.Tree.{Rec}
use Rattle.kdb.specs.Steps.{without}
use Rattle.kdb.specs.Calls.{Call, Outcome, outcome}
use Rattle.kdb.specs.History.{answer_of, run, answers, Effect, unchanged, emptied, added, dropped, makes, change, changed, Keeps, over, next}
use Rattle.kdb.specs.Demands.{SameRecords, keyed}
use Rattle.kdb.proofs.Tests.{and_l}
use Rattle.kdb.proofs.Counts.{tally_append, tally_imp}

-- without the record of a key that stands once at the most: the counts lose what that record counts
pub without_tally : (p : Key) (g : Rec → Bool) (rs : List Rec) → tally (keyed p) rs ≤ 1
    → tally g rs ≡ tally g (without p rs) + tally (λ r. same p r.key && g r) rs
without_tally p g [] h = refl
without_tally p g (r ∷ rs) h = go (same p r.key) h (without_tally p g rs)
  where
    go : (t : Bool) → bit t + tally (keyed p) rs ≤ 1 → (tally (keyed p) rs ≤ 1 → tally g rs ≡ tally g (without p rs) + tally (λ r. same p r.key && g r) rs)
        → bit (g r) + tally g rs ≡ tally g (elim t as (λ _. List Rec) [ true ↦ rs | false ↦ r ∷ without p rs ]) + (bit (t && g r) + tally (λ r. same p r.key && g r) rs)
    go true h i = omega (arith, tally_imp (λ r. same p r.key && g r) (keyed p) (λ a t. and_l (same p a.key) (g a) t) rs)
    go false h i = omega (arith, i (omega arith))

-- one effect changes two lists of the same records alike
change_same : (e : Effect) (a b : List Rec) → ((p : Key) → tally (keyed p) a ≤ 1) → SameRecords a b → SameRecords (change e a) (change e b)
change_same unchanged a b once e = e
change_same (emptied k) a b once e = λ g. refl
change_same (added q) a b once e = λ g. omega (arith, e g, tally_append g a (q ∷ []), tally_append g b (q ∷ []))
change_same (dropped p) a b once e = λ g.
    let x = without_tally p g a (once p) in
    let y = without_tally p g b (omega (arith, once p, e (keyed p))) in
    omega (arith, e g, e (λ r. same p r.key && g r))

pub changed_same : (n : ℕ) (c : Call) (a b : List Rec) → ((p : Key) → tally (keyed p) a ≤ 1) → SameRecords a b → SameRecords (changed n c a) (changed n c b)
changed_same zero c a b once e = change_same (makes c) a b once e
changed_same (suc n) c a b once e = e

-- any code whose calls keep their promises runs as the definitions do
pub keeps_run : {w v : List ℕ} {cs : List Call} {os : List Outcome} → Keeps w cs os v → (v ≡ run w cs) × (map answer_of os ≡ answers w cs)
keeps_run over = (refl, refl)
keeps_run (next {w} {v} {c} {cs} {o} {os} p k) =
    let i = keeps_run k in
    let e : o.after.pool ≡ (outcome w c).after.pool = ap (λ x. x.after.pool) p.kept in
    (i.0 ∙ ap (λ x. run x cs) e, ap₂ ◌∷◌ (ap answer_of p.kept) (i.1 ∙ ap (λ x. answers x cs) e))
