-- `replies::Store::words_frame` meets its contract: each case is its function's reply.
use Rattle.std.proofs.Common.{refl, ◌∙◌, arith, take, ◌∷◌}
use Rattle.replies.specs.Reply.{remove_of, find_of, list_of}
use Rattle.replies.proofs.Replies.{unframed, frame_bad, frame_words}
use Rattle.replies.proofs.Calls.{unplaced}
use Rattle.replies.proofs.Store.words_frame.Goals as goal

pub returns-in_default : goal.returns-in_default
returns-in_default c = let a = c.args in
    rw (frame_bad (a.first ∷ a.bytes.now) a.bytes.now a.first refl (λ e. omega arith) c.in_default.ensures.words)
    (unframed a.self.now c.no_frame.ensures)

pub returns-in-2 : goal.returns-in-2
returns-in-2 c =
    let a = c.args in
    let s = a.self.now in
    let ws = a.bytes.now in
    rw c.in-2.is (record {
      reply = rw (frame_words (2 ∷ ws) ws 2 remove_of refl c.in-Some.ensures.words (λ bs. refl)) c.remove_frame.ensures.reply;
      work = c.remove_frame.ensures.work ∙ unplaced (take s.words s.pool.now) s.work.now (2 ∷ ws) ws 2 refl (λ e. omega arith);
    })

pub returns-in-3 : goal.returns-in-3
returns-in-3 c =
    let a = c.args in
    let s = a.self.now in
    let ws = a.bytes.now in
    rw c.in-3.is (record {
      reply = rw (frame_words (3 ∷ ws) ws 3 find_of refl c.in-Some.ensures.words (λ bs. refl)) c.find_frame.ensures;
      work = unplaced (take s.words s.pool.now) s.work.now (3 ∷ ws) ws 3 refl (λ e. omega arith);
    })

pub returns-in-4 : goal.returns-in-4
returns-in-4 c =
    let a = c.args in
    let s = a.self.now in
    let ws = a.bytes.now in
    rw c.in-4.is (record {
      reply = rw (frame_words (4 ∷ ws) ws 4 list_of refl c.in-Some.ensures.words (λ bs. refl)) c.list_frame.ensures;
      work = unplaced (take s.words s.pool.now) s.work.now (4 ∷ ws) ws 4 refl (λ e. omega arith);
    })
