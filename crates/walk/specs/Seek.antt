-- The search's answer, and the end of the definition's walk that it stands for.
use Rattle.std.specs.Prelude.{cond, List, [], ◌∷◌, ℕ, ◌+◌, length, Result, Ok, Err}
use Rattle.kdb.specs.Box.{Key, within}
use Rattle.kdb.specs.Pages.{Ent}
use Rattle.kdb.specs.Walk.{End, rootless, bad, absent, here, Search}
use Rattle.kdb.specs.declared.Refusal.{Refusal}
use Rattle.kdb.specs.declared.Refusal.TheVariants as refusal
use Rattle.walk.specs.declared.Hit.{Hit}
use Rattle.walk.specs.declared.Missed.{Missed}
use Rattle.walk.specs.declared.Missed.TheVariants.{Absent, Bad, NoRoot}

-- the child in the first entry whose region holds the point, or 0, which is no page
abbrev pub child_of : Key → List Ent → ℕ
child_of p [] = 0
child_of p (e ∷ es) = cond (within e.box p) e.child (child_of p es)

-- an end, after r pages were read
abbrev pub ended : ℕ → End → Result Hit Missed
ended r rootless = Err NoRoot
ended r bad = Err (Bad r)
ended r (absent j) = Err (Absent j r)
ended r (here s) = Ok (record { page = s.page; slot = s.slot; location = s.rec.loc; reads = r })

-- a walk, with r pages read before it
abbrev pub sought_as : ℕ → Search → Result Hit Missed
sought_as r s = ended (r + length s.read) s.end

-- the refusal of a search that found none
abbrev pub refusal_of : Missed → Refusal
refusal_of (Absent j r) = refusal.Absent
refusal_of (Bad r) = refusal.Unsound
refusal_of NoRoot = refusal.Absent
