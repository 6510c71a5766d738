-- `place::place_in` meets its contract: a copy over words that are as many is the words that were copied.
use Rattle.std.proofs.Common.{◌∙◌, sym, ap, length, arith}
use Rattle.kdb.proofs.Stores.{sets_whole}
use Rattle.place.proofs.Laws.{place_done, place_back}
use Rattle.place.proofs.place_in.Goals as goal

pub returns-then-is_err : goal.returns-then-is_err
returns-then-is_err c =
    let kept = c.copy.ensures ∙ sets_whole _ _ (sym c.requires.1.1.1) in
    let back = c.copy-then-is_err.ensures ∙ sets_whole _ _ (omega (arith, ap length kept, c.place_steps-placed.auto.pool)) ∙ kept in
    (rw back (place_back _ _ _ _ c.requires.0 _ _ (sym c.is_err.ensures.value ∙ c.if-is_err.true) c.place_steps-placed.ensures), kept)

pub returns-else-is_err : goal.returns-else-is_err
returns-else-is_err c =
    let kept = c.copy.ensures ∙ sets_whole _ _ (sym c.requires.1.1.1) in
    (place_done _ _ _ _ c.requires.0 _ _ (sym c.is_err.ensures.value ∙ c.if-is_err.false) c.place_steps-placed.ensures, kept)
