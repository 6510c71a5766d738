-- `replies::Store::new_frame` meets its contract: no frame, too many pages, and format's outcome, by which the pool is the new one or the earlier.
use Rattle.std.proofs.Common.{refl, sym, ◌∙◌, arith, take}
use borrow.Author.Tests.{ltb-true, ltb-false}
use Rattle.kdb.proofs.Frames.{new_other}
use Rattle.replies.proofs.Replies.{unframed}
use Rattle.replies.proofs.Calls.{format_served, new_three, new_big, new_done, new_refused}
use Rattle.replies.proofs.Store.new_frame.Goals.{in_default-via-then-bytes-lt3, in_default-via-else-bytes-lt3+else-bytes-lt4}
use Rattle.replies.proofs.Store.new_frame.Goals as goal

pub returns-in_default : goal.returns-in_default
returns-in_default c =
    elim c.in_default.branch [
      | in_default-via-then-bytes-lt3 w ↦ rw (new_other c.args.bytes.now (λ e. omega (arith, ltb-true, ltb-false))) (unframed c.args.self.now c.no_frame.ensures)
      | in_default-via-else-bytes-lt3+else-bytes-lt4 w ↦ rw (new_other c.args.bytes.now (λ e. omega (arith, ltb-true, ltb-false))) (unframed c.args.self.now c.no_frame.ensures)
    ]

pub returns-then-n-gt512 : goal.returns-then-n-gt512
returns-then-n-gt512 c =
    let s = c.args.self.now in
    let put = c.put_answer.ensures in
    rw (new_three c.args.bytes.now _ c.from-n.result (omega arith) refl (omega (arith, c.from_be_bytes.ensures, c.from-n.ensures)))
    (format_served _ _ s (new_big s.pool.now s.words _ _ c.if-n-gt512.true (omega (arith, s.pool_long, s.within)) put.text.written put.room s.within) put.text refl refl)

pub returns-then-is_ok : goal.returns-then-is_ok
returns-then-is_ok c =
    let s = c.args.self.now in
    let put = c.put_answer-2.ensures in
    let f = c.format-formatted in
    let done = new_done f.result (take s.words s.pool.now) s.pool.now f.new.pool _ _ (omega (arith, s.pool_long)) f.ensures (sym c.is_ok.ensures.value ∙ c.if-is_ok.true) f.auto.pool put.text.written put.room (omega arith) in
    rw (new_three c.args.bytes.now c.from.result c.from-n.result (omega arith) c.from.ensures (omega (arith, c.from_be_bytes.ensures, c.from-n.ensures))) (format_served _ _ s done put.text refl refl)

pub returns-else-is_ok : goal.returns-else-is_ok
returns-else-is_ok c =
    let s = c.args.self.now in
    let put = c.put_answer-2.ensures in
    let f = c.format-formatted in
    let kept = new_refused f.result (take s.words s.pool.now) s.pool.now f.new.pool _ _ (omega (arith, s.pool_long)) f.ensures s.words (sym c.is_ok.ensures.value ∙ c.if-is_ok.false) put.text.written put.room s.within (omega (arith, s.pool_long, s.within)) refl in
    rw (new_three c.args.bytes.now c.from.result c.from-n.result (omega arith) c.from.ensures (omega (arith, c.from_be_bytes.ensures, c.from-n.ensures))) (format_served _ _ s kept put.text refl refl)
