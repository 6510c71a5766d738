-- `deal::store` meets its contract: what is left to store gives what the whole gives, and in the end nothing is left.
use Rattle.std.proofs.Common.{drop, length-drop, arith}
use Rattle.words.proofs.Loops.{store_end}
use Rattle.deal.proofs.Laws.{store_first, store_next}
use Rattle.deal.proofs.store.Goals as goal

pub loop-i-init : goal.loop-i-init
loop-i-init c = store_first c.args.x.now c.args.src.now c.args.at _ c.min-start.ensures

pub loop-i-preserved : goal.loop-i-preserved
loop-i-preserved c = rw c.put.ensures (store_next _ _ _ _ _ c.loop-i.invariant c.loop-i-test.true)

pub returns : goal.returns
returns c = let l = c.loop-i in
    let s = c.args.src.now in
    store_end _ _ _ (drop l.i s) l.invariant (omega (arith, length-drop l.i s, c.loop-i-test.false))
