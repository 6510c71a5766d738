-- `query::check` meets its contract: a pool that is not opened is refused by the first test that fails.
use mathlib.Core.List.{[]}
use mathlib.Core.Path.{refl}
use Rattle.kdb.specs.Calls.{check}
use Rattle.opening.proofs.Laws.{refused_kept}
use Rattle.query.proofs.check.Goals as goal

pub returns-in_err-open_sound : goal.returns-in_err-open_sound
returns-in_err-open_sound c = refused_kept _ _ _ _ _ check [] c.in_err-open_sound.ensures refl c.from_residual.ensures.1
