-- `frames::line_answer` meets its contract: an empty line, a line that is too long or has no bytes, and the reply to its bytes.
use Rattle.std.proofs.Common.{◌≡◌, ◌≢◌, length, take, arith}
use Rattle.std.proofs.lemmas.Bool.Decides.{nat_tests}
use Rattle.kdb.proofs.Frames.{reply_long}
use Rattle.replies.proofs.Replies.{unframed}
use Rattle.frames.proofs.Lines.{reply_empty, reply_bytes, parse_empty, parse_long, parse_bytes, unanswered}
use Rattle.frames.proofs.line_answer.Goals as goal

pub returns-then-is_empty : goal.returns-then-is_empty
returns-then-is_empty c =
    let s = c.args.store.now in
    let none : length c.args.line.now ≡ 0 = grind (arith, nat_tests) in
    rw (reply_empty (take s.words s.pool.now) c.args.line.now none, parse_empty c.args.line.now none) (unanswered s c.args.sink.now c.requires)

pub returns-then-line-gt-LINE : goal.returns-then-line-gt-LINE
returns-then-line-gt-LINE c =
    let s = c.args.store.now in
    rw (reply_long (take s.words s.pool.now) c.args.line.now c.if-line-gt-LINE.true, parse_long c.args.line.now c.if-line-gt-LINE.true) (unframed s c.no_frame.ensures)

pub returns-in-Some : goal.returns-in-Some
returns-in-Some c =
    let s = c.args.store.now in
    let some : length c.args.line.now ≢ 0 = grind (arith, nat_tests) in
    rw (reply_bytes (take s.words s.pool.now) c.args.line.now some c.if-line-gt-LINE.false c.in-Some.ensures.bytes, parse_bytes c.args.line.now c.if-line-gt-LINE.false c.in-Some.ensures.bytes) c.frame.ensures

pub returns-in-None : goal.returns-in-None
returns-in-None c =
    let s = c.args.store.now in
    let some : length c.args.line.now ≢ 0 = grind (arith, nat_tests) in
    rw (reply_bytes (take s.words s.pool.now) c.args.line.now some c.if-line-gt-LINE.false c.in-None.ensures.bytes, parse_bytes c.args.line.now c.if-line-gt-LINE.false c.in-None.ensures.bytes) (unframed s c.no_frame-in-None.ensures)
