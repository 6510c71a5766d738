-- `query::find` meets its contract: a pool that is not opened is refused by the first test that fails.
use mathlib.Core.List.{[]}
use Rattle.kdb.specs.Calls.{find}
use borrow.Author.Rules.{rules}
use Rattle.opening.proofs.Laws.{refused_kept}
use Rattle.query.proofs.find.Goals as goal

pub returns-in_err-pool : goal.returns-in_err-pool
returns-in_err-pool c = refused_kept _ _ _ _ _ (find c.args.point.now) [] c.in_err-pool.ensures (search rules) c.from_residual.ensures.1
