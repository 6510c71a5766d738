-- `audit::page` meets its contract: page j, that is to have `level` levels and the region, and all below it.
use Rattle.std.proofs.Common.{◌≡◌, ◌∙◌, ◌-◌, sym, None, rules}
use Rattle.kdb.specs.Calls.{L}
use Rattle.audit.specs.Walk.{page_walk}
use Rattle.audit.proofs.Turns.{entries_end, entries_bad, entries_next, page_bad, page_leaf, page_spoilt, page_entries, test_no, test_yes}
use Rattle.audit.proofs.+page.Goals as goal

pub returns-then-not-fresh : goal.returns-then-not-fresh
returns-then-not-fresh t c = page_bad _ _ _ _ _ _ (sym c.fresh.ensures ∙ c.if-not-fresh.true)

pub returns-then-level-le1 : goal.returns-then-level-le1
returns-then-level-le1 t c = rw c.leaf.ensures (page_leaf _ _ _ _ _ _ (sym c.fresh.ensures ∙ c.if-not-fresh.false) c.if-level-le1.true)

pub returns-in_err-entries : goal.returns-in_err-entries
returns-in_err-entries t c =
    let e : c.from_residual.result ≡ None = search rules in
    rw e (page_spoilt _ _ _ _ _ _ (sym c.fresh.ensures ∙ c.if-not-fresh.false) c.if-level-le1.false (test_no _ _ c.in_err-entries.ensures))

pub returns-in_err-left : goal.returns-in_err-left
returns-in_err-left t c =
    let x = c.args in
    let e : c.from_residual-in_err-left.result ≡ None = search rules in
    let s = c.in-Some.ensures.steps.1 in
    let i = c.loop-entry.invariant in
    rw e
    (entries_bad (λ y. page_walk L x.pool.now (x.level - 1 - 1) y.child y.box) c.domains-k.result _ _ _ _ i.4 c.in-Some.entry.now _ s.0 (s.1 ∙ i.2) _ (rw c.region-part.ensures.0 at c.in_err-left.ensures)
    ∙ page_entries _ _ _ _ _ _ (sym c.fresh.ensures ∙ c.if-not-fresh.false) c.if-level-le1.false (test_yes _ _ _ c.in_ok-entries.ensures))

pub loop-entry-preserved : goal.loop-entry-preserved
loop-entry-preserved t c =
    let x = c.args in
    let s = c.in-Some.ensures.steps.1 in
    let i = c.loop-entry.invariant in (
      search rules,
      tt,
      c.in-Some.ensures.steps.0 ∙ i.2,
      c.page.auto.met ∙ i.3,
      entries_next (λ y. page_walk L x.pool.now (x.level - 1 - 1) y.child y.box) c.domains-k.result _ _ _ _ i.4 c.in-Some.entry.now _ s.0 (s.1 ∙ i.2) _ _ (rw c.region-part.ensures.0 at c.in_ok-left.ensures),
    )

pub returns : goal.returns
returns t c =
    let x = c.args in
    let i = c.loop-entry.invariant in
    entries_end (λ y. page_walk L x.pool.now (x.level - 1 - 1) y.child y.box) c.domains-k.result _ _ _ _ i.4 (rw i.2 at c.in-None.ensures.steps.1.0)
    ∙ page_entries _ _ _ _ _ _ (sym c.fresh.ensures ∙ c.if-not-fresh.false) c.if-level-le1.false (test_yes _ _ _ c.in_ok-entries.ensures)
