-- `answers::no_frame` meets its contract: the number 255 alone is FF.
use Rattle.answers.proofs.Answers.{ff}
use Rattle.answers.proofs.no_frame.Goals as goal

pub returns : goal.returns
returns c = rw ff at c.refuse.ensures.text
