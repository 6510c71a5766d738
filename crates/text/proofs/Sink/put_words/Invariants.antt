-- `text::Sink::put_words`, its loop: the texts of the words so far stand in the buffer.
use Rattle.std.proofs.Common.{◌≡◌, ◌+◌, ◌*◌, take}
use Rattle.kdb.specs.Lists.{gather}
use Rattle.kdb.specs.Frames.{hex}
use Rattle.text.specs.Puts.{Puts}
use Rattle.text.proofs.Sink.put_words.Given as goal

abbrev pub invariant-loop-word : goal.invariant-loop-word
invariant-loop-word l = Puts l.initial.self (gather (hex 8) (take l.word-index l.words)) l.self
    × (l.self.at ≡ l.initial.self.at + 8 * l.word-index)
