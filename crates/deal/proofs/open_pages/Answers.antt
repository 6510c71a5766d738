-- `deal::open_pages` meets its contract: page j is cleared behind the claim.
use Rattle.deal.proofs.Laws.{open_some}
use Rattle.deal.proofs.open_pages.Goals as goal

pub returns-clause-words : goal.returns-clause-words
returns-clause-words c = rw (c.fresh.ensures, c.code.ensures) (open_some _ _ _ _ _ _ _ c.in_ok-r.ensures.page.some c.in_ok-r.ensures.words)
