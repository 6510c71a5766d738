-- `replies::Store::find_frame` meets its contract: the outcome of find.
use Rattle.std.proofs.Common.{[]}
use lib.Seq.{take-nil}
use Rattle.replies.proofs.Calls.{read_replies}
use Rattle.replies.proofs.Store.find_frame.Goals as goal

pub returns : goal.returns
returns c = read_replies _ c.find.result c.args.self.now _ [] [] c.find.ensures (take-nil _) c.put_answer.ensures.text c.put_answer.ensures.room
