-- `grow::grow`, its measure: the level falls.
use Rattle.grow.proofs.+grow.Given as goal

abbrev pub decreases-grow : goal.decreases-grow
decreases-grow l = l.level
