-- `replies::Store::list_frame` meets its contract: the outcome of list with the locations that its slots took.
use Rattle.replies.proofs.Calls.{read_replies, shown_values}
use Rattle.replies.proofs.Store.list_frame.Goals as goal

pub returns : goal.returns
returns c =
    let full = c.list-listed.new.answer in
    let fitted = shown_values c.map_or-shown.result full c.list-listed.auto.answer c.list-listed.result c.map_or-shown.ensures in
    read_replies _ c.list-listed.result c.args.self.now _ full _ c.list-listed.ensures fitted c.put_answer.ensures.text c.put_answer.ensures.room
