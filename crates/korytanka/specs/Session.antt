-- What a session keeps.
use Rattle.std.specs.Prelude.{List, ◌≡◌, ℕ}
use Rattle.frames.specs.State.{Store, store_of, kept}
use Rattle.korytanka.specs.declared.Session.{Session}

abbrev pub store_in : Session → Store
store_in s = store_of s.held.words s.held.digits s.line s.pool s.work

-- every byte of a piece was fed, once and in order
abbrev pub Passes : Session → List ℕ → Session → Type 0
Passes s piece s' = store_in s' ≡ kept (store_in s) piece
