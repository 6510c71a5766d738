-- `pages::distinct` meets its contract: the points that were met differ and have their marks.
use Rattle.std.proofs.Common.{◌∙◌, inl, inr, sym, arith}
use lib.Seq.{length-take-le}
use Rattle.pages.proofs.Bits.{at_end, at_stop, at_next}
use Rattle.pages.proofs.distinct.Goals as goal
use Rattle.pages.proofs.distinct.Goals.{else-marks-bits-via-then-marks-bits+else-not-differs, else-marks-bits-via-else-marks-bits}

pub returns-then-not-differs : goal.returns-then-not-differs
returns-then-not-differs c =
    let s = c.in-Some.ensures.cases in
    let n = length-take-le c.args.k c.in-Some.point.now (omega (arith, s.3)) in
    at_stop c.args.k c.args.points.now c.loop-point.rest.now _ c.loop-point.invariant _ _ s (rw n at (sym c.differs.ensures) ∙ c.if-not-differs.true)

pub loop-point-preserved : goal.loop-point-preserved
loop-point-preserved c =
    let s = c.in-Some.ensures.cases in
    let n = length-take-le c.args.k c.in-Some.point.now (omega (arith, s.3)) in
    at_next c.args.k c.args.points.now c.loop-point.rest.now _ c.loop-point.invariant _ _ s c.requires.0
    (elim c.else-marks-bits.branch [
      | else-marks-bits-via-then-marks-bits+else-not-differs w ↦ inr (rw n at (sym w.differs.ensures) ∙ w.if-not-differs.false)
      | else-marks-bits-via-else-marks-bits w ↦ inl w.if-marks-bits.false
    ])

pub returns : goal.returns
returns c = at_end c.args.k c.args.points.now c.loop-point.rest.now _ c.loop-point.invariant c.in_default.ensures.cases
