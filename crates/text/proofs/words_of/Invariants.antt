-- `text::words_of`, its loop: what is read and what is left are the words.
use Rattle.std.proofs.Common.{drop}
use Rattle.kdb.specs.Frames.{words_of}
use Rattle.text.proofs.Read.{Reading}
use Rattle.text.proofs.words_of.Given as goal

abbrev pub invariant-loop-n : goal.invariant-loop-n
invariant-loop-n l = Reading words_of 16 l.bytes l.words (drop l.n l.fours) l.n
