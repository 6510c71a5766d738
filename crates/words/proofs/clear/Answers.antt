-- `words::clear` meets its contract: what it leaves is a run of stores of 0, as far as the words go.
use Rattle.words.proofs.Stores.{zeroed, unzeroed}
use Rattle.words.proofs.clear.Goals as goal

pub returns-then-from-end : goal.returns-then-from-end
returns-then-from-end c = let a = c.args in rw (c.fill.ensures.after (λ y e. e)) (zeroed a.words.now a.from a.to _ c.min-end.ensures c.if-from-end.true)

pub returns-else-from-end : goal.returns-else-from-end
returns-else-from-end c = let a = c.args in unzeroed a.words.now a.from a.to _ c.min-end.ensures c.if-from-end.false
