-- `audit::audit` meets its contract: a pool with a good header is sound.
use Rattle.std.proofs.Common.{◌∙◌, sym}
use Rattle.audit.proofs.Exact.{audit_says}
use Rattle.audit.proofs.Turns.{audited_rest, audited_bad}
use Rattle.audit.proofs.audit.Goals as goal

pub returns-then-eq : goal.returns-then-eq
returns-then-eq c =
    let a = audit_says c.args.pool.now _ (rw c.pool.view_is at c.pool.invariant) c.requires in
    c.rest.ensures ∙ (audited_rest c.args.pool.now _ c.walk.ensures (sym c.eq.ensures ∙ c.if-eq.true) ∙ a)

pub returns-else-eq : goal.returns-else-eq
returns-else-eq c =
    let a = audit_says c.args.pool.now _ (rw c.pool.view_is at c.pool.invariant) c.requires in
    c.if-eq.false ∙ (audited_bad c.args.pool.now _ c.walk.ensures (sym c.eq.ensures ∙ c.if-eq.false) ∙ a)
