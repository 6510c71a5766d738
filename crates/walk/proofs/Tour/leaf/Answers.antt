-- `walk::Tour::leaf` meets its contract: the tour of a point page.
use Rattle.walk.proofs.List.{leaf_bad, leaf_good}
use Rattle.std.specs.Prelude.{Err}
use Rattle.std.proofs.Common.{◌≡◌, arith, rules}
use Rattle.walk.proofs.Tour.leaf.Goals as goal

pub returns-in_err-t : goal.returns-in_err-t
returns-in_err-t c =
    let a = c.args in
    let e : c.from_residual.result ≡ Err c.in_err-t.field-0.0 = search rules in
    rw e (leaf_bad a.self.now.pool.now a.self.now.window.now a.j a.s a.answer.now c.requires.1 c.in_err-t.field-0.0 c.in_err-t.ensures.0, tt)

pub returns : goal.returns
returns c =
    let a = c.args in
    let k = c.in_ok-t.ensures.1 in (
      leaf_good a.self.now.pool.now a.self.now.window.now a.j a.s a.answer.now c.requires.1 c.in_ok-t.t c.in_ok-t.ensures.0 (record { few = k.few; small = omega (arith, k.room) }) _ _ c.points.ensures.0,
      record { few = k.few; small = omega (arith, c.points.ensures.1, k.room) },
    )
