-- `pages::entries` meets its contract: the first four words, the words behind the entries, and the entries.
use Rattle.std.proofs.Common.{◌≡◌, ◌∙◌, sym, take, drop, ◌+◌, ◌-◌, ◌*◌, arith}
use Rattle.pages.proofs.OnePage.{entries_fit, entries_found}
use Rattle.pages.proofs.entries.Goals as goal

pub slice_bounds-result-end : goal.slice_bounds-result-end
slice_bounds-result-end c =
    let p = take (32 * c.args.j + 32 - 32 * c.args.j) (drop (32 * c.args.j) c.pool.inside.words.now) in
    let f = entries_fit c.domains-k.result p c.args.kind (sym c.head_good.ensures ∙ c.if-not-head_good.false) c.width.result c.width.ensures in
    omega arith

pub returns-clause-words : goal.returns-clause-words
returns-clause-words c =
    let p = take (32 * c.args.j + 32 - 32 * c.args.j) (drop (32 * c.args.j) c.pool.inside.words.now) in
    let q : 32 * c.args.j + 32 - 32 * c.args.j ≡ 32 = omega arith in
    let e = entries_found c.domains-k.result p c.args.kind (sym c.head_good.ensures ∙ c.if-not-head_good.false) c.width.result c.width.ensures (sym c.zeros.ensures ∙ c.if-not-zeros.false) in
    e ∙ rw (c.domains-k.ensures.0, q, c.pool.view_is)
