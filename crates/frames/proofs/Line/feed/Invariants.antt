-- `frames::Line::feed`, its loop: all that is kept, and the output, are those after the bytes taken.
use Rattle.frames.specs.Lines.{held, Same}
use Rattle.frames.proofs.Bytes.{Feeding}
use Rattle.frames.proofs.Line.feed.Given as goal

abbrev pub invariant-loop-i : goal.invariant-loop-i
invariant-loop-i l =
    Feeding (held l.initial.self l.initial.store) l.piece l.initial.sink.out.now (held l.self l.store) l.sink.out.now l.i l.sink.at
    × Same l.initial.self l.initial.store l.initial.sink l.self l.store l.sink
