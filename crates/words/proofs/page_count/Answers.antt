-- `words::page_count` meets its contract: the test of the length is the definition's.
use Rattle.kdb.specs.Pool.{good_length}
use Rattle.words.proofs.page_count.Goals as goal

pub returns-then-words-n : goal.returns-then-words-n
unfolding good_length
returns-then-words-n c = rw c.if-words-n.true

pub returns-else-words-n : goal.returns-else-words-n
unfolding good_length
returns-else-words-n c = rw c.if-words-n.false
