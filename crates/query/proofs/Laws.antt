-- The slots of list's answer, as the walk fills them and as the definition does.
use mathlib.Core.List.{List, map}
use mathlib.Core.Path.{◌≡◌}
use Prim.Native.Nat.{ℕ}
use lib.ListN.{length-map}
use lib.Seq.{sets}
use Rattle.kdb.specs.Walk.{Spot}
use Rattle.kdb.specs.Calls.{filled}
use Rattle.kdb.proofs.Stores.{sets_fill}

pub filling : (out : List ℕ) (ss : List Spot) → sets out 0 (map (λ s. s.rec.loc) ss) ≡ filled out ss
filling out ss = rw (sets_fill out (map (λ s. s.rec.loc) ss), length-map ss (λ s. s.rec.loc))
