-- `text::Sink::put_hex`, its loop: the last digit first; those still to be written are the digits of what is left.
use Rattle.std.proofs.Common.{◌≡◌}
use Rattle.text.proofs.Write.{Hexed}
use Rattle.text.proofs.Sink.put_hex.Given as goal

abbrev pub invariant-loop-i : goal.invariant-loop-i
invariant-loop-i l = Hexed l.initial.self.out.now l.initial.self.at l.n l.v l.self.out.now l.i l.rest
    × (l.self.at ≡ l.initial.self.at) × (l.self.out.ghost_name ≡ l.initial.self.out.ghost_name)
