-- `korytanka::Session::pass`, its loop: what is kept after the rest is what is kept after the whole piece.
use Rattle.std.proofs.Common.{◌≡◌, length}
use Rattle.frames.specs.State.{kept}
use Rattle.korytanka.specs.Session.{store_in}
use Rattle.korytanka.proofs.Session.pass.Given as goal

abbrev pub invariant-loop-rest : goal.invariant-loop-rest
invariant-loop-rest g l = kept (store_in l.self) l.rest ≡ kept (store_in l.initial.self) l.piece

abbrev pub decreases-loop-rest : goal.decreases-loop-rest
decreases-loop-rest g l = length l.rest
