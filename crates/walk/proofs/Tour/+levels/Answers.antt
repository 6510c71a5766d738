-- `walk::Tour::page` meets its contract: the state after the pages passed, then those left, is the state after all.
use Rattle.walk.proofs.List.{page_good, each_next}
use Rattle.walk.specs.List.{seen}
use Rattle.std.proofs.Common.{◌-◌, Ok, arith}
use Rattle.walk.proofs.Tour.+levels.Goals as goal

pub page-loop-i-init : goal.page-loop-i-init
page-loop-i-init t c =
    let a = c.args in
    let k = c.in_ok-t.ensures.1 in
    (record { few = k.few; small = omega (arith, k.room) }, page_good a.self.now.pool.now a.self.now.window.now a.j a.s a.answer.now c.requires.1.1 a.level c.requires.0 c.in_ok-t.t c.in_ok-t.ensures.0 c.meeting-i-items.result.now c.meeting-i-items.ensures)

pub page-loop-i-preserved : goal.page-loop-i-preserved
page-loop-i-preserved t c =
    let s = c.args.self.now in
    let l = c.loop-i in
    (c.in_ok-t-2.ensures.1, each_next s.pool.now s.window.now (c.args.level - 1 - 1) c.meeting-i-items.result.now l.i-index l.t l.answer _ l.invariant.1 c.loop-i-test.true (seen (Ok c.in_ok-t-2.t) c.subtree.new.answer) c.in_ok-t-2.ensures.0)
