-- `pages::side_holds` meets its contract: the chain over the points is the test of their column.
use Rattle.std.proofs.Common.{◌+◌, ◌∙◌, get_or, arith, rules, tests}
use Rattle.std.proofs.lemmas.Iterator.Search.{all_from_yields_List}
use Rattle.kdb.specs.Box.{Side}
use Rattle.cover.proofs.Entries.{YieldsList-from_chunks_exact}
use Rattle.pages.specs.Tests.{key_inside}
use Rattle.pages.proofs.Slots.{column_pieces}
use Rattle.pages.proofs.side_holds.Goals as goal

pub returns : goal.returns
returns c =
    let x = c.args in
    let s : Side = record { lo = x.low; hi = x.high } in
    all_from_yields_List (λ p. key_inside s (get_or p x.d 0)) c.all.new.self _ c.all.result c.all.ensures.ran (YieldsList-from_chunks_exact (x.k + 1) x.points.now (omega arith) (cc) (cc)) (λ p b q r. search (rules, tests))
    ∙ column_pieces x.k x.d s x.points.now c.requires.0
