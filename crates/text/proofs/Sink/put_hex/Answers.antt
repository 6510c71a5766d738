-- `text::Sink::put_hex` meets its contract: the last digit first; those still to be written are the digits of what is left.
use Rattle.std.proofs.Common.{arith}
use Rattle.text.proofs.Write.{hexed_next, hexed_end}
use Rattle.text.proofs.Sink.put_hex.Goals as goal

pub loop-i-preserved : goal.loop-i-preserved
loop-i-preserved c =
    let i = c.loop-i.invariant in
    (hexed_next c.digit_of.result _ i.0 (omega arith) c.digit_of.ensures (rw i.1 at c.put.ensures), i.1, i.2)

pub returns : goal.returns
returns c =
    let i = c.loop-i.invariant in
    record { written = rw i.1 (hexed_end i.0 (omega arith)); same = i.2 }
