-- `replies::Store::place_frame` meets its contract: no frame without a word, or the outcome of place.
use Rattle.std.proofs.Common.{refl, sym, ap, ◌∙◌, arith, take}
use lib.Seq.{length-take-le}
use Rattle.kdb.specs.Frames.{answered}
use Rattle.kdb.specs.Calls.{working}
use Rattle.replies.proofs.Replies.{unframed}
use Rattle.replies.proofs.Calls.{write_replies, place_none, place_split, place_same, place_worked}
use Rattle.replies.proofs.Store.place_frame.Goals as goal

pub returns-in_default : goal.returns-in_default
returns-in_default c = rw (place_none c.args.words.now c.in_default.ensures.cases) (unframed c.args.self.now c.no_frame.ensures)

pub returns : goal.returns
returns c =
    let s = c.args.self.now in
    let f = c.place-placed in
    let point = c.in-Some.point.now in
    let location = c.in-Some.location.now in
    let m = length-take-le s.words s.pool.now (omega (arith, s.pool_long, s.within)) in
    let k = length-take-le s.words s.work.now (omega (arith, s.work_long, s.within)) in
    let same = place_same (take s.words s.pool.now) point (take s.words s.work.now) location (k ∙ sym m) in
    rw (place_split c.args.words.now point location c.in-Some.ensures.cases.0)
    (record {
      reply = write_replies _ f.result s (working f.new.work f.new.pool) _ (ap answered f.ensures.kept ∙ same) refl refl refl f.auto.pool c.put_answer.ensures.text c.put_answer.ensures.room refl refl;
      work = place_worked f.result s.words s.pool.now f.new.pool s.work.now f.new.work point location f.ensures f.auto.work (omega (arith, s.pool_long, s.within));
    })
