-- `text::decode`, its loop: what is read and what is left are the bytes.
use Rattle.std.proofs.Common.{drop}
use Rattle.kdb.specs.Frames.{bytes_of}
use Rattle.text.proofs.Read.{Reading}
use Rattle.text.proofs.decode.Given as goal

abbrev pub invariant-loop-n : goal.invariant-loop-n
invariant-loop-n l = Reading bytes_of 64 l.line l.bytes (drop l.n l.pairs) l.n
