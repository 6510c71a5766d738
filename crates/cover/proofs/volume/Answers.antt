-- `cover::volume` meets its contract: the product of the sides so far, which for at most four does not pass 128 bits.
use Rattle.std.proofs.Common.{ap, length, arith, rules}
use Rattle.std.proofs.lemmas.List.{length_push}
use Rattle.std.proofs.lemmas.Slice.Zip.{zip_turn, zip_end}
use Rattle.boxes.proofs.Tests.{long}
use Rattle.cover.proofs.Sides.{product_turn, product_fits, product_end}
use Rattle.cover.proofs.volume.Goals as goal

pub overflow_mul-keys : goal.overflow_mul-keys
overflow_mul-keys c =
    let s = c.region.inside in
    let t = zip_turn s.low.now s.high.now c.loop-low.yielded c.into_iter-low-iterator.result c.loop-low.low-iterator c.next.new.self _ (cc) (cc) c.loop-low.yielded_by _ c.in-Some.is c.next.ensures.steps in
    omega (arith, product_fits _ _ _ c.from-keys.result c.loop-low.invariant.2 (omega (arith, t.0, long s.low.now s.high.now c.region.invariant.0, c.region.invariant.1)) (omega (arith, c.from-keys.ensures)))

pub loop-low-preserved : goal.loop-low-preserved
loop-low-preserved c =
    let s = c.region.inside in
    let t = zip_turn s.low.now s.high.now c.loop-low.yielded c.into_iter-low-iterator.result c.loop-low.low-iterator c.next.new.self _ (cc) (cc) c.loop-low.yielded_by _ c.in-Some.is c.next.ensures.steps in
    (search rules, tt, rw (length_push c.loop-low.yielded (c.in-Some.low, c.in-Some.high), ← c.region.view_is) (product_turn s.low.now s.high.now _ _ _ (rw (← c.region.view_is) at c.loop-low.invariant.2) t.0 t.1 (omega (arith, c.from-keys.ensures, c.saturating_sub.ensures, t.2 0, t.3 0)) (omega (arith, c.from-keys.ensures))))

pub returns : goal.returns
returns c =
    let s = c.region.inside in
    let t = zip_end s.low.now s.high.now c.loop-low.yielded c.into_iter-low-iterator.result c.loop-low.low-iterator c.next.new.self _ (cc) (cc) c.loop-low.yielded_by c.in-None.is c.next.ensures.steps in
    product_end _ _ _ c.loop-low.invariant.2 (omega (arith, t, long s.low.now s.high.now c.region.invariant.0, ap length c.region.view_is, c.region.invariant.0))
