-- `audit::walk` meets its contract: all that the header's root names.
use Rattle.std.proofs.Common.{◌≡◌, ◌∙◌, ap, sym}
use Rattle.kdb.specs.Box.{whole}
use Rattle.kdb.specs.Pool.{domains}
use Rattle.audit.proofs.Turns.{walk_none, walk_page, whole_words_lem}
use Rattle.audit.proofs.walk.Goals as goal

pub returns-then-levels-eq0 : goal.returns-then-levels-eq0
returns-then-levels-eq0 c = rw c.count-left.ensures.0 (walk_none c.args.pool.now _ (sym c.levels-levels.ensures.0 ∙ c.if-levels-eq0.true))

pub returns : goal.returns
returns c =
    let k = c.domains-k in
    let e : c.region-whole.result ≡ whole (domains c.args.pool.now) = c.region-whole.ensures.0 ∙ (whole_words_lem k.result k.ensures.1.0 k.ensures.1.1 ∙ ap whole k.ensures.0) in
    (rw (e, c.levels-levels.ensures.0, c.root.ensures.0, c.count-left.ensures.0) at c.page.ensures) ∙ walk_page c.args.pool.now _ (λ z. c.if-levels-eq0.false (c.levels-levels.ensures.0 ∙ z))
