-- `export::korytanka_list` keeps the promise of the call that it passes on: the total and the pages read fit their fields.
use Rattle.export.proofs.Crossing.{promise_fits}
use Rattle.export.proofs.korytanka_list.Goals as goal

pub overflow_cast-result : goal.overflow_cast-result
overflow_cast-result c = (promise_fits c.in-Ok.ensures c.type_inv.pool).0

pub overflow_cast-result-in-Ok : goal.overflow_cast-result-in-Ok
overflow_cast-result-in-Ok c = (promise_fits c.in-Ok.ensures c.type_inv.pool).1.0
