-- `index::remove` meets its contract: each way out is the definition's outcome.
use mathlib.Core.List.{[]}
use borrow.Author.Rules.{rules}
use lib.Dec.{T}
use Rattle.kdb.specs.Print.{sound}
use Rattle.kdb.specs.Calls.{L, remove, begins}
use Rattle.opening.proofs.Laws.{refused_kept}
use Rattle.index.proofs.Laws.{remove_near, remove_done}
use Rattle.index.proofs.remove.Goals as goal

pub returns-in_err-sound : goal.returns-in_err-sound
returns-in_err-sound c = refused_kept _ _ _ _ _ (remove c.args.point.now) [] c.in_err-sound.ensures (search rules) c.from_residual.ensures.1

pub remove_in-requires : goal.remove_in-requires
remove_in-requires c =
    let t : T (sound L c.args.pool.now) = search rules in
    let n = remove_near _ _ _ (rw c.in_ok-sound.ensures.tells.0 at c.in_ok-hit.ensures) t in
    search rules

pub returns : goal.returns
returns c = let a = c.args in
    let b : T (begins a.pool.now (remove a.point.now)) = search rules in
    record { kept = rw c.remove_in.ensures (remove_done _ _ _ (rw c.in_ok-sound.ensures.tells.0 at c.in_ok-hit.ensures) b) }
