-- Rows of the computed tables (Cases, Choices, Spoilt). A row has a name, starts from words, makes its calls in order, and compares each
-- answer (the number, then the values) and, where the row gives them, every word of pool, work buffer and answer buffer at the end, and
-- the pages that the last call's walk reads.
use mathlib.Core.Bool.{Bool, true, false, ◌&&◌}
use mathlib.Core.List.{List, [], ◌∷◌, ◌++◌, map}
use mathlib.Core.Option.{Option, none, some}
use Prim.Native.Nat.{ℕ, zero, suc}
use Prim.Native.String.{String}
use lib.Dec.{eqb}
use lib.ListN.{replicate}
use Rattle.kdb.specs.Calls.{L, Call, check, place, list, Buffers, outcome, lent, walk_of}
use Rattle.kdb.specs.History.{answers}

pub record Row : Type 0 where
  pub name : String
  pub start : List ℕ
  pub calls : List Call
  pub told : List (List ℕ)
  pub pool : Option (List ℕ)
  pub work : Option (List ℕ)
  pub answer : Option (List ℕ)
  pub read : Option (List ℕ)

-- the buffers after the last call
abbrev pub ends : List ℕ → List Call → Buffers
ends w [] = lent w check
ends w (c ∷ []) = (outcome w c).after
ends w (c ∷ d ∷ cs) = ends (outcome w c).after.pool (d ∷ cs)

-- the pages that the last call's walk reads
abbrev pub reads : List ℕ → List Call → List ℕ
reads w [] = []
reads w (c ∷ []) = walk_of w c
reads w (c ∷ d ∷ cs) = reads (outcome w c).after.pool (d ∷ cs)

-- words against words; the definitions' own comparison is not used, since it may be what is wrong
abbrev pub alike : List ℕ → List ℕ → Bool
alike [] [] = true
alike [] (b ∷ m) = false
alike (a ∷ l) [] = false
alike (a ∷ l) (b ∷ m) = eqb a b && alike l m

abbrev pub all_alike : List (List ℕ) → List (List ℕ) → Bool
all_alike [] [] = true
all_alike [] (b ∷ m) = false
all_alike (a ∷ l) [] = false
all_alike (a ∷ l) (b ∷ m) = alike a b && all_alike l m

abbrev pub as_given : Option (List ℕ) → List ℕ → Bool
as_given none ws = true
as_given (some vs) ws = alike vs ws

abbrev pub passes : Row → Bool
passes r =
    let b = ends r.start r.calls in
    all_alike (map (λ a. a.number ∷ a.values) (answers r.start r.calls)) r.told
    && as_given r.pool b.pool && as_given r.work b.work && as_given r.answer b.answer && as_given r.read (reads r.start r.calls)

-- rows: of answers alone; of answers and every word of the pool; of pool and work; of a list's answer and its slots
abbrev pub tells : String → List ℕ → List Call → List (List ℕ) → Row
tells name w cs told = record { name = name; start = w; calls = cs; told = told; pool = none; work = none; answer = none; read = none }

abbrev pub turns : String → List ℕ → List Call → List (List ℕ) → List ℕ → Row
turns name w cs told pool = record { name = name; start = w; calls = cs; told = told; pool = some pool; work = none; answer = none; read = none }

abbrev pub leaves : String → List ℕ → List Call → List (List ℕ) → List ℕ → List ℕ → Row
leaves name w cs told pool work = record { name = name; start = w; calls = cs; told = told; pool = some pool; work = some work; answer = none; read = none }

abbrev pub lists : String → List ℕ → List ℕ → List ℕ → List ℕ → List ℕ → Row
lists name w v slots told answer =
    record { name = name; start = w; calls = list v slots ∷ []; told = told ∷ []; pool = some w; work = none; answer = some answer; read = none }

-- rows of a find or a list with its walk; of a pool that is not sound
abbrev pub walks : String → List ℕ → Call → List ℕ → List ℕ → List ℕ → Row
walks name w c told answer read =
    record { name = name; start = w; calls = c ∷ []; told = told ∷ []; pool = some w; work = none; answer = some answer; read = some read }

abbrev pub unsound : String → List ℕ → Row
unsound name w = tells name w (check ∷ []) ((6 ∷ []) ∷ [])

-- words that no call put there
abbrev pub junk : ℕ → List ℕ
junk n = replicate n 77

-- a pool of these pages, each filled up with zeros
abbrev pub words : ℕ → List ℕ → List ℕ
words zero ws = []
words (suc n) [] = 0 ∷ words n []
words (suc n) (w ∷ ws) = w ∷ words n ws

abbrev pub pool_of : List (List ℕ) → List ℕ
pool_of [] = []
pool_of (p ∷ ps) = words L p ++ pool_of ps

-- the words with v for word i
abbrev pub but : ℕ → ℕ → List ℕ → List ℕ
but i v [] = []
but zero v (a ∷ l) = v ∷ l
but (suc i) v (a ∷ l) = a ∷ but i v l

-- placings of these points with locations from l on; the work buffer has n words
abbrev pub stores : ℕ → List (List ℕ) → ℕ → List Call
stores n [] l = []
stores n (p ∷ ps) l = place (junk n) p l ∷ stores n ps (suc l)

-- every row passes
abbrev pub pass_all : List Row → Bool
pass_all [] = true
pass_all (r ∷ rs) = passes r && pass_all rs

abbrev pub done : ℕ → List (List ℕ)
done n = replicate n (0 ∷ [])

abbrev pub top : ℕ
top = 4294967294

abbrev pub inf : ℕ
inf = 4294967295
