-- `frames::Line::step` meets its contract: a line feed ends the line, another byte makes it longer.
use Rattle.std.proofs.Common.{refl}
use Rattle.frames.specs.Lines.{held}
use Rattle.frames.proofs.Bytes.{step_feed, step_other}
use Rattle.frames.proofs.Line.step.Goals as goal

pub returns-then-b-eq10 : goal.returns-then-b-eq10
returns-then-b-eq10 c =
    let ended = rw c.text.ensures at c.close.ensures in
    record {
      stepped = step_feed (held c.args.self.now c.args.store.now) c.if-b-eq10.true c.args.store.now.pool_long ended.reply.replied ended.work;
      same = record { line = refl; pool = ended.reply.same_pool; work = ended.reply.same_work; out = ended.reply.same_out };
    }

pub returns-else-b-eq10 : goal.returns-else-b-eq10
returns-else-b-eq10 c =
    let l = c.args.self.now in
    let s = c.args.store.now in
    record {
      stepped = step_other (held l s) c.args.b c.push.new.self.digits _ c.args.sink.now.out.now c.args.sink.now.at c.if-b-eq10.false l.bytes_long s.within c.push.ensures.bytes c.push.ensures.digits;
      same = record { line = c.push.ensures.same; pool = refl; work = refl; out = refl };
    }
