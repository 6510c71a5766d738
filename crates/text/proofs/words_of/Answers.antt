-- `text::words_of` meets its contract: a part word is refused, and each turn reads four bytes.
use Rattle.std.proofs.Common.{arith, rules, ◌<◌, ◌≡◌, ◌%◌, length}
use Rattle.std.proofs.lemmas.Bool.Decides.{nat_tests}
use Rattle.text.proofs.Read.{chunk_long, reading_none, reading_four, words_part}
use Rattle.text.proofs.words_of.Goals as goal

pub returns-then-not-is_empty-clause-words : goal.returns-then-not-is_empty-clause-words
returns-then-not-is_empty-clause-words c =
    let some_left : 0 < length c.args.bytes.now % 4 = grind (arith, nat_tests) in
    words_part c.args.bytes.now some_left

pub loop-n-init : goal.loop-n-init
loop-n-init c =
    let none_left : length c.args.bytes.now % 4 ≡ 0 = grind (arith, nat_tests) in
    reading_none _ 4 _ 16 _ _ c.as_chunks.ensures.front (omega arith) (search rules)

pub loop-n-preserved : goal.loop-n-preserved
loop-n-preserved c =
    let none_left : length c.args.bytes.now % 4 ≡ 0 = grind (arith, nat_tests) in
    let long = chunk_long 4 _ c.args.bytes.now c.loop-n.n c.as_chunks.ensures.front (omega arith) (omega (arith, c.as_chunks.ensures.front_len)) in
    reading_four c.as_chunks.result.0.now c.loop-n.n _ c.loop-n.invariant (omega arith) (omega (arith, c.as_chunks.ensures.front_len)) long (omega (arith, c.from_be_bytes.ensures))
