-- `frames::close` meets its contract: a line that is too long.
use Rattle.replies.proofs.Replies.{unframed}
use Rattle.frames.proofs.close.Goals as goal

pub returns-in-None : goal.returns-in-None
returns-in-None c = rw c.in-None.is (unframed c.args.store.now c.no_frame.ensures)
