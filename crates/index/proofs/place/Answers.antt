-- `index::place` meets its contract: each way out is the definition's outcome.
use mathlib.Core.Bool.{not}
use mathlib.Core.List.{[], ◌∷◌}
use borrow.Author.Rules.{rules}
use lib.Dec.{T}
use Rattle.kdb.specs.declared.Refusal.TheVariants.{Present}
use Rattle.kdb.specs.Print.{sound}
use Rattle.kdb.specs.Walk.{find_walk}
use Rattle.kdb.specs.Calls.{L, ◌or◌, place, present, begins}
use Rattle.opening.proofs.Laws.{refused_kept}
use Rattle.index.proofs.Laws.{room, place_done, place_short}
use Rattle.index.proofs.place.Goals as goal

pub returns-in_err-sound : goal.returns-in_err-sound
returns-in_err-sound c = let a = c.args in
    refused_kept _ _ _ _ _ (place a.work.now a.point.now a.location) ((not (present (find_walk L a.pool.now a.point.now).end) or Present) ∷ []) c.in_err-sound.ensures (search rules) c.from_residual.ensures.1

pub place_in-requires : goal.place_in-requires
place_in-requires c =
    let t : T (sound L c.args.pool.now) = search rules in
    let r = room _ t in
    search rules

pub returns-in_err-place_in : goal.returns-in_err-place_in
returns-in_err-place_in c = let a = c.args in
    let b : T (begins a.pool.now (place a.work.now a.point.now a.location)) = search rules in
    rw c.place_in.ensures.1 (place_short _ _ _ _ _ b _ c.in_err-place_in.ensures.0 c.from_residual-in_err-place_in.ensures.1)

pub returns : goal.returns
returns c = let a = c.args in
    let b : T (begins a.pool.now (place a.work.now a.point.now a.location)) = search rules in
    rw c.place_in.ensures.1 (place_done _ _ _ _ _ b c.in_ok-place_in.ensures.0)
