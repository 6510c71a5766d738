-- `replies::Store::frame` meets its contract: the first byte decides.
use Rattle.std.proofs.Common.{rules, arith}
use Rattle.replies.proofs.Replies.{unframed, frame_empty, frame_other}
use Rattle.replies.proofs.Store.frame.Goals as goal

pub returns-in_default : goal.returns-in_default
returns-in_default c = rw (frame_empty c.args.bytes.now c.in_default.ensures.cases) (unframed c.args.self.now c.no_frame.ensures)

pub returns-in-5-to-255 : goal.returns-in-5-to-255
returns-in-5-to-255 c =
    rw (frame_other c.args.bytes.now c.in-Some.rest.now c.in-Some.first.now c.in-Some.ensures.cases.0 (grind arith)) (search (rules, unframed))
