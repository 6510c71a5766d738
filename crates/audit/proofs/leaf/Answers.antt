-- `audit::leaf` meets its contract.
use Rattle.std.proofs.Common.{◌∙◌, sym}
use Rattle.pages.proofs.OnePage.{points_count}
use Rattle.audit.proofs.Turns.{leaf_bad, leaf_found}
use Rattle.audit.proofs.leaf.Goals as goal

pub returns-then-not-point_page : goal.returns-then-not-point_page
returns-then-not-point_page c = leaf_bad _ _ _ _ (sym c.point_page.ensures ∙ c.if-not-point_page.true)

pub returns : goal.returns
returns c =
    let x = c.args in
    let e = sym c.point_page.ensures ∙ c.if-not-point_page.false in
    leaf_found x.pool.now x.j x.region.now x.left _ _ e (points_count x.pool.now x.j c.requires.page x.region.now e) (rw c.pool.view_is at c.checked_sub.ensures)
