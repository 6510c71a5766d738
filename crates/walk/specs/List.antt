-- List's walk as code makes it: a state that each page moves on, stopped at a bad page or at the bound.
use Rattle.std.specs.Prelude.{cond, List, [], ◌∷◌, map, ℕ, ◌+◌, ◌-◌, ◌*◌, ◌≤◌, ◌<◌, ltb, length, Result, Ok, Err}
use Rattle.std.proofs.lemmas.List.Edits.{sets}
use Rattle.kdb.specs.Lists.{only}
use Rattle.kdb.specs.Box.{Box, in_window, meets}
use Rattle.kdb.specs.Pages.{Ent}
use Rattle.kdb.specs.Pool.{pages_in}
use Rattle.kdb.specs.Calls.{L}
use Rattle.kdb.specs.Walk.{Spot, spots, Tour, still, follow, tour}
use Rattle.words.specs.Words.{word_at, records_from}
use Rattle.words.specs.declared.Kind.{Kind}
use Rattle.walk.specs.declared.Stopped.{Stopped}
use Rattle.walk.specs.declared.Tally.{Tally}
use Rattle.walk.specs.Pages.{Inside, reached}

-- stopped, with the pages read; or going, with the pages read, the total and the answer's slots
pub data St : Type 0 where
  stopped : ℕ → St
  going : ℕ → ℕ → List ℕ → St

abbrev pub seen : Result Tally Stopped → List ℕ → St
seen (Ok s) out = going s.reads s.total out
seen (Err e) out = stopped e.reads

-- the bound is kept, and the total is small
pub record Kept (n : ℕ) (s : Tally) : Type 0 where
  pub few : s.reads < n
  pub small : s.total ≤ 28 * s.reads

-- page j reached, which is to be of the kind, if the bound allows one more
abbrev pub counted : ℕ → Result ℕ Stopped → Result Tally Stopped
counted total (Ok r) = Ok (record { reads = r; total = total })
counted total (Err e) = Err e

abbrev pub entered : List ℕ → Kind → ℕ → Tally → Result Tally Stopped
entered w kind j s = cond (ltb (s.reads + 1) (pages_in L w)) (counted s.total (reached w kind j s.reads)) (Err (record { reads = s.reads }))

-- the walk has read page j, which is of the kind, and may find 28 records more
pub record Entered (w : List ℕ) (kind : Kind) (j : ℕ) (s : Tally) : Type 0 where
  pub inside : Inside w kind j
  pub most : pages_in L w ≤ 512
  pub few : s.reads < pages_in L w
  pub room : s.total + 28 ≤ 28 * s.reads

abbrev pub locations : List Spot → List ℕ
locations ss = map (λ s. s.rec.loc) ss

-- total and slots with the spots added
abbrev pub noted : ℕ → List ℕ → List Spot → ℕ × List ℕ
noted t out ss = (t + length ss, sets out t (locations ss))

-- of c records of page j, those from slot e on that the window holds
abbrev pub held : List ℕ → ℕ → Box → ℕ → ℕ → ℕ → List Spot
held w k v j c e = only (λ s. in_window v s.rec.key) (spots j e (records_from k w j c e))

abbrev pub found_in : List ℕ → ℕ → Box → ℕ → ℕ → List ℕ → ℕ × List ℕ
found_in w k v j t out = noted t out (held w k v j (word_at w j 1) 0)

-- the state after a tour, stopped at N − 1 reads
abbrev pub moved_by : ℕ → St → Tour → St
moved_by N (stopped r) t = stopped r
moved_by N (going r m out) t =
    let reads = r + length t.read in
    cond (ltb reads N) (cond t.bad (stopped reads) (going reads (m + length t.found) (sets out m (locations t.found)))) (stopped (N - 1))

-- what a walk makes of the tour of page j, n levels above the point pages
abbrev pub toured : List ℕ → Box → Tally → List ℕ → ℕ → ℕ → St
toured w v s out n j = moved_by (pages_in L w) (going s.reads s.total out) (tour L w v n j)

-- the children of the entries whose regions meet the window, in page order
abbrev pub children_met : Box → List Ent → List ℕ
children_met v [] = []
children_met v (e ∷ es) = cond (meets e.box v) (e.child ∷ children_met v es) (children_met v es)

-- the tours of these pages in turn
abbrev pub each : (ℕ → Tour) → List ℕ → Tour
each below [] = still
each below (j ∷ js) = follow (below j) (each below js)

-- what a whole walk says of total, reads and the answer's slots
abbrev pub walked : List ℕ → Tour → St
walked out t = cond t.bad (stopped (length t.read)) (going (length t.read) (length t.found) (sets out 0 (locations t.found)))
