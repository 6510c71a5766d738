-- `query::list` meets its contract: a pool that is not opened is refused by the first test that fails.
use mathlib.Core.List.{[], ◌∷◌}
use Rattle.kdb.specs.Calls.{◌or◌, list, ordered, window_of}
use Rattle.kdb.specs.Pool.{domains}
use Rattle.kdb.specs.declared.Refusal.TheVariants.{WindowOrder}
use borrow.Author.Rules.{rules}
use Rattle.opening.proofs.Laws.{refused_kept}
use Rattle.query.proofs.list.Goals as goal

pub returns-in_err-pool : goal.returns-in_err-pool
returns-in_err-pool c = refused_kept _ _ _ _ _ (list c.args.window.now c.args.answer.now) ((ordered (window_of (domains c.args.pool.now) c.args.window.now) or WindowOrder) ∷ []) c.in_err-pool.ensures (search rules) c.from_residual.ensures.1
