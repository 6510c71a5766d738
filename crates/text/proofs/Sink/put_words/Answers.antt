-- `text::Sink::put_words` meets its contract: the texts of the words so far stand in the buffer.
use Rattle.std.proofs.Common.{arith}
use Rattle.kdb.specs.Frames.{hex}
use Rattle.text.proofs.Write.{length_hex, words_more, puts_then}
use Rattle.text.proofs.Sink.put_words.Goals as goal

pub loop-word-preserved : goal.loop-word-preserved
loop-word-preserved c =
    let i = c.loop-word.invariant in
    let w = c.put_hex.ensures in (
      rw (words_more (hex 8) c.args.words.now c.loop-word.word-index (omega arith)) (puts_then i.0 w),
      omega (arith, w.written.follows, i.1, length_hex 8),
    )
