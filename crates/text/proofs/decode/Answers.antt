-- `text::decode` meets its contract: an odd number of digits is refused, and each turn reads two.
use Rattle.std.proofs.Common.{arith, rules, ◌<◌, ◌≡◌, ◌%◌, length}
use Rattle.std.proofs.lemmas.Bool.Decides.{nat_tests}
use Rattle.text.proofs.Read.{chunk_long, reading_none, reading_pair, bytes_odd}
use Rattle.text.proofs.decode.Goals as goal

pub returns-then-not-is_empty-clause-bytes : goal.returns-then-not-is_empty-clause-bytes
returns-then-not-is_empty-clause-bytes c =
    let some_left : 0 < length c.args.line.now % 2 = grind (arith, nat_tests) in
    bytes_odd c.args.line.now some_left

pub loop-n-init : goal.loop-n-init
loop-n-init c =
    let none_left : length c.args.line.now % 2 ≡ 0 = grind (arith, nat_tests) in
    reading_none _ 2 _ 64 _ _ c.as_chunks.ensures.front (omega arith) (search rules)

pub loop-n-preserved : goal.loop-n-preserved
loop-n-preserved c =
    let none_left : length c.args.line.now % 2 ≡ 0 = grind (arith, nat_tests) in
    let long = chunk_long 2 _ c.args.line.now c.loop-n.n c.as_chunks.ensures.front (omega arith) (omega (arith, c.as_chunks.ensures.front_len)) in
    reading_pair c.as_chunks.result.0.now c.loop-n.n _ c.loop-n.invariant (omega arith) (omega (arith, c.as_chunks.ensures.front_len)) long c.in_ok-bytes.ensures
