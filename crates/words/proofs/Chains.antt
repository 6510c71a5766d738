-- The tests that chains make of lists: `all`, as the definitions' `every`, and a `fold` that decides no branch.
use denote.Param.Members.{Mut}
use mathlib.Core.Bool.{Bool, true, ◌&&◌}
use mathlib.Core.List.{List, [], ◌∷◌}
use mathlib.Core.Path.{◌≡◌, refl, sym, ap, ap₂, ◌∙◌}
use Rattle.std.proofs.lemmas.Fn.{fold_over}
use Rattle.std.proofs.lemmas.Iterator.{YieldsList}
use Rattle.std.proofs.lemmas.List.Folds.{list_all-append}
use Rattle.std.specs.Fn.{Called}
use Rattle.std.specs.Iterator.{Drains}
use Rattle.std.specs.List.{FoldsTo, list_all}
use Rattle.std.specs.Prelude.{Option}
use Rattle.kdb.proofs.Tests.{and_true}
use Rattle.kdb.specs.Lists.{every}

pub all_every : {A : Type 0} (f : A → Bool) (l : List A) → list_all f l ≡ every f l
all_every f [] = refl
all_every f (a ∷ l) = ap (λ b. f a && b) (all_every f l)

-- a `fold` that asks of every element whether it passes the test, and leaves at none
pub fold_all : {S A B F : Type 0} {steps : S → Option A → S → Type 0} {v : A → B} {g : Mut F (Bool × (A × Unit {0})) Bool} {s : S} {all : List B}
    (test : B → Bool) (f : F) (r : Bool)
    → (xs : List A) × (f' : F) × Drains steps s xs × FoldsTo {P = F × Bool} (λ p x q. Called g p.0 (p.1, (x, tt)) q.1 q.0) (f, true) xs (f', r)
    → YieldsList steps v s all
    → ((a : Bool) (x : A) (b : Bool) (f' : F) → Called g f (a, (x, tt)) b f' → (b ≡ a && test (v x)) × (f' ≡ f))
    → r ≡ list_all test all
fold_all {steps} {v} {g} {s} {all} test f r d e k =
    fold_over steps v g (λ ys b. b ≡ list_all test ys) f
    (λ ys a x b f' j c. let h = k a x b f' c in (h.0 ∙ ap₂ ◌&&◌ j (sym (and_true (test (v x)))) ∙ sym (list_all-append test ys (v x ∷ [])), h.1))
    s all true r e.runs refl d
