-- `replies::Store::remove_frame` meets its contract: the outcome of remove.
use Rattle.std.proofs.Common.{refl, ap}
use Rattle.kdb.specs.Frames.{answered}
use Rattle.kdb.specs.Calls.{alone}
use Rattle.replies.proofs.Calls.{write_replies}
use Rattle.replies.proofs.Store.remove_frame.Goals as goal

pub returns-clause-reply : goal.returns-clause-reply
returns-clause-reply c =
    write_replies _ c.remove.result c.args.self.now (alone c.remove.new.pool) _ (ap answered c.remove.ensures.kept) refl refl refl c.remove.auto.pool c.put_answer.ensures.text c.put_answer.ensures.room refl refl
