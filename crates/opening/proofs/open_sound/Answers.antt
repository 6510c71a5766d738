-- `opening::open_sound` meets its contract: the tests of open_pool, and that the pool is sound.
use Rattle.opening.proofs.Laws.{refused_before}
use Rattle.opening.proofs.open_sound.Goals as goal

pub returns-in_err-pool : goal.returns-in_err-pool
returns-in_err-pool c = refused_before _ _ _ _ _ c.in_err-pool.ensures c.from_residual.ensures.1
