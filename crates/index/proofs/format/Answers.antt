-- `index::format`: a pool of good length has a second word.
use native.Mathlib.Omega.{arith}
use Rattle.std.proofs.lemmas.Grind.{common_steps}
use Rattle.index.proofs.Laws.{least_words}
use Rattle.index.proofs.format.Goals as goal

pub bounds-pool-1 : goal.bounds-pool-1
bounds-pool-1 c = grind (arith, common_steps, least_words)
