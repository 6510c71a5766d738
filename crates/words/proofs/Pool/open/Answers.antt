-- `words::Pool::open` meets its contract: a pool of good length with a good header is fit.
use Rattle.words.proofs.Laws.{counted, long, fit}
use Rattle.std.proofs.Common.{sym, ◌∙◌}
use Rattle.words.proofs.Pool.open.Goals as goal

pub good_header-requires : goal.good_header-requires
good_header-requires c = let h = counted _ _ _ _ _ (c.page_count.ensures) (c.ok_or.ensures.value) c.in_ok-n.was in (long _ h.0, h.1)

pub invariant_of-result : goal.invariant_of-result
invariant_of-result c = let h = counted _ _ _ _ _ (c.page_count.ensures) (c.ok_or.ensures.value) c.in_ok-n.was in rw c.form_of.ensures.0 (fit _ h.0 (sym c.good_header.ensures ∙ c.if-not-good_header.false))
