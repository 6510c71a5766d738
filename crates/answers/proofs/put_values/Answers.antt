-- `answers::put_values` meets its contract: its parts stand one behind the other.
use Rattle.answers.proofs.Answers.{answer_parts}
use Rattle.answers.proofs.put_values.Goals as goal

pub returns-clause-text : goal.returns-clause-text
returns-clause-text g c = answer_parts c.args.number _ _ c.put_hex.ensures c.put.ensures.text c.put_words.ensures.text c.put-2.ensures
