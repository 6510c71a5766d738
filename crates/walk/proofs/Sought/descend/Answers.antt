-- `walk::Sought::descend` meets its contract: the walk from the page reached, after the pages read, is the walk from the root.
use Rattle.walk.proofs.Seek.{last_bad, level_bad, level_next, level_lost}
use Rattle.walk.specs.declared.Missed.TheVariants.{Bad}
use Rattle.std.specs.Prelude.{Err, None, Some}
use Rattle.std.proofs.Common.{◌≡◌, suc, ◌-◌, ◌+◌, ◌∙◌, arith, rules}
use Rattle.walk.proofs.Sought.descend.Goals as goal

pub returns-in_err-reads : goal.returns-in_err-reads
returns-in_err-reads c =
    let a = c.args in
    let s = a.self.now in
    let l = c.loop in
    let e : c.from_residual.result ≡ Err (Bad c.in_err-reads.field-0.0.reads) = search rules in
    let z : a.levels - l.counter ≡ suc (a.levels - (l.counter + 1)) = omega (arith, c.loop-test.true) in
    e ∙ level_bad s.pool.now s.point.now l.j l.reads (a.levels - (l.counter + 1)) c.in_err-reads.field-0.0 c.in_err-reads.ensures.0 ∙ (rw z at l.invariant.3)

pub returns-in_err-j : goal.returns-in_err-j
returns-in_err-j c =
    let a = c.args in
    let s = a.self.now in
    let l = c.loop in
    let e : c.from_residual-in_err-j.result ≡ Err (Bad c.in_ok-reads.reads) = search rules in
    let n : c.child.result ≡ None = search rules in
    let z : a.levels - l.counter ≡ suc (a.levels - (l.counter + 1)) = omega (arith, c.loop-test.true) in
    e ∙ level_lost s.pool.now s.point.now l.j l.reads (a.levels - (l.counter + 1)) c.in_ok-reads.reads c.in_ok-reads.ensures.0 (rw n at c.child.ensures.0) ∙ (rw z at l.invariant.3)

pub loop-preserved : goal.loop-preserved
loop-preserved c =
    let a = c.args in
    let s = a.self.now in
    let l = c.loop in
    let n : c.child.result ≡ Some c.in_ok-j.j = search rules in
    let z : a.levels - l.counter ≡ suc (a.levels - (l.counter + 1)) = omega (arith, c.loop-test.true) in
    let h = rw n at c.child.ensures in
    (h.1, omega (arith, c.in_ok-reads.ensures.1.0), omega (arith, c.in_ok-reads.ensures.1.0), level_next s.pool.now s.point.now l.j l.reads (a.levels - (l.counter + 1)) c.in_ok-reads.reads c.in_ok-j.j c.in_ok-reads.ensures.0 h.0 ∙ (rw z at l.invariant.3))

pub returns-in_err-reads-2 : goal.returns-in_err-reads-2
returns-in_err-reads-2 c =
    let a = c.args in
    let s = a.self.now in
    let l = c.loop in
    let e : c.from_residual-in_err-reads-2.result ≡ Err (Bad c.in_err-reads-2.field-0.0.reads) = search rules in
    let z : a.levels - l.counter ≡ 0 = omega (arith, c.loop-test.false) in
    e ∙ last_bad s.pool.now s.point.now l.j l.reads c.in_err-reads-2.field-0.0 c.in_err-reads-2.ensures.0 ∙ (rw z at l.invariant.3)
