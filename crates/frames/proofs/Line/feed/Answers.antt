-- `frames::Line::feed` meets its contract: a byte a turn; all that is kept, and the output, are those after the bytes taken.
use Rattle.std.proofs.Common.{refl, ◌∙◌, arith}
use Rattle.text.proofs.Write.{written_long}
use Rattle.frames.proofs.Bytes.{feeding_next, feeding_end}
use Rattle.frames.proofs.Line.feed.Goals as goal

pub overflow_sub-sink : goal.overflow_sub-sink
overflow_sub-sink c = let f = c.loop-i.invariant.0 in omega (arith, f.fits, written_long f.text)

pub returns-then-sink-lt-ANSWER : goal.returns-then-sink-lt-ANSWER
returns-then-sink-lt-ANSWER c =
    let f = c.loop-i.invariant.0 in
    record { fed = feeding_end f (λ h. omega (arith, f.fits, written_long f.text)) c.loop-i.store.within; same = c.loop-i.invariant.1 }

pub loop-i-preserved : goal.loop-i-preserved
loop-i-preserved c =
    let f = c.loop-i.invariant.0 in
    let i = c.loop-i.invariant.1 in
    let s = c.step.ensures.same in (
      feeding_next _ f c.loop-i-test.true (omega (arith, f.fits, written_long f.text)) refl c.step.ensures.stepped,
      record { line = s.line ∙ i.line; pool = s.pool ∙ i.pool; work = s.work ∙ i.work; out = s.out ∙ i.out },
    )
