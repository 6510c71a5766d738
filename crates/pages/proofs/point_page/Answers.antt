-- `pages::point_page` meets its contract: the points of a page with good words lie in the region and differ.
use Rattle.std.proofs.Common.{◌∙◌}
use Rattle.pages.proofs.OnePage.{points_none, points_some}
use Rattle.pages.proofs.point_page.Goals as goal

pub returns-then-all_hold : goal.returns-then-all_hold
returns-then-all_hold c =
    let x = c.args in
    let h = points_some x.pool.now x.j c.requires.page x.region.now c.in-Some.points.now c.in-Some.ensures.words in
    let a = rw c.requires.sides at c.all_hold.ensures in
    rw (c.distinct.ensures, c.domains.ensures.0) (rw (← a, c.if-all_hold.true) at h)

pub returns-else-all_hold : goal.returns-else-all_hold
returns-else-all_hold c =
    let x = c.args in
    let h = points_some x.pool.now x.j c.requires.page x.region.now c.in-Some.points.now c.in-Some.ensures.words in
    let a = rw c.requires.sides at c.all_hold.ensures in
    c.if-all_hold.false ∙ (rw (← a, c.if-all_hold.false) at h)

pub returns-in-None : goal.returns-in-None
returns-in-None c = points_none c.args.pool.now c.args.j c.requires.page c.args.region.now c.in-None.ensures.words
