-- `words::put` meets its contract: a store past the end does nothing.
use lib.Seq.{set_out}
use mathlib.Core.Path.{sym}
use Rattle.words.proofs.put.Goals as goal

pub returns-else-at-words : goal.returns-else-at-words
returns-else-at-words c = sym (set_out _ _ _ c.if-at-words.false)
