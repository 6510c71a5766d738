-- `grow::overfull` meets its contract: page j with an entry of wd words behind its last one.
use mathlib.Core.Path.{refl}
use Rattle.grow.proofs.Laws.{over_words}
use native.Mathlib.Omega.{arith}
use Rattle.grow.proofs.overfull.Goals as goal

pub returns : goal.returns
returns c = let a = c.args in
    rw (c.store-2.ensures, c.store.ensures, c.part.ensures, c.word.ensures.0, c.requires.0) (over_words a.wd a.pool.now a.j a.entry.now _ refl (omega arith))
