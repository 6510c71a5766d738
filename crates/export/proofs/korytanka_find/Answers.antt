-- `export::korytanka_find` keeps the promise of the call that it passes on: the pages read fit their field.
use Rattle.export.proofs.Crossing.{promise_fits}
use Rattle.export.proofs.korytanka_find.Goals as goal

pub overflow_cast-result : goal.overflow_cast-result
overflow_cast-result c = (promise_fits c.in-Ok.ensures c.type_inv.pool).1.0
