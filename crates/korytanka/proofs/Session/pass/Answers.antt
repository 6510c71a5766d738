-- `korytanka::Session::pass` meets its contract: what is kept after the rest is what is kept after the whole piece.
use Rattle.std.proofs.Common.{◌≡◌, ◌-◌, ◌∙◌, min, length, take, drop, arith, length-drop}
use lib.Seq.{take_all}
use Rattle.frames.specs.State.{store_of}
use Rattle.frames.proofs.Bytes.{fed_rest}
use Rattle.korytanka.specs.Session.{store_in}
use Rattle.korytanka.proofs.Session.pass.Goals as goal

pub loop-rest-preserved : goal.loop-rest-preserved
loop-rest-preserved g c =
    let l = c.loop-rest in
    let f = c.feed-t in
    let t = f.result.taken in
    let rest = l.rest.now in
    let q : min l.self.held.words 16384 ≡ l.self.held.words = omega (arith, l.self.bounded) in
    let whole : take (length rest - t) (drop t rest) ≡ drop t rest = take_all (length rest - t) (drop t rest) (omega (arith, length-drop t rest)) in
    let fed = store_of f.result.held.words f.result.held.digits f.new.line f.new.pool f.new.work in
    rw whole (fed_rest {m = store_in l.self} {m' = fed} (rw q at f.ensures) ∙ l.invariant)
