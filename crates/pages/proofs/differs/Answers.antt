-- `pages::differs` meets its contract: the chain over the points is the test of their keys.
use Rattle.std.proofs.Common.{◌+◌, ◌∙◌, length, take, not, arith, rules, tests}
use Rattle.std.proofs.lemmas.Iterator.Search.{all_from_yields_List}
use Rattle.kdb.specs.Lists.{same}
use Rattle.cover.proofs.Entries.{YieldsList-from_chunks_exact}
use Rattle.pages.proofs.Slots.{unlike_pieces, pointwise_same}
use Rattle.pages.proofs.differs.Goals as goal

pub returns : goal.returns
returns c =
    let x = c.args.keys.now in
    let k = length x in
    all_from_yields_List (λ p. not (same x (take k p))) c.all.new.self _ c.all.result c.all.ensures.ran (YieldsList-from_chunks_exact (k + 1) c.args.points.now (omega arith) (cc) (cc)) (λ p b q r. search (rules, tests, pointwise_same))
    ∙ unlike_pieces k x c.args.points.now
