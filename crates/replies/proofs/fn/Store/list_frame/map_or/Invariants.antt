-- The closure of `replies::Store::list_frame`: the locations that the slots took.
use Rattle.std.proofs.Common.{◌≡◌, min}
use Rattle.replies.proofs.fn.Store.list_frame.map_or.Given as goal

abbrev pub ensures : goal.ensures
ensures l r = r ≡ min l.l.total 64
