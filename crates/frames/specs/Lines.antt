-- What the methods of a line ensure: a store, a line and a sink hold what `State` says.
use Rattle.std.specs.Prelude.{List, ◌≡◌, ℕ}
use Rattle.text.specs.declared.Sink.{Sink}
use Rattle.replies.specs.declared.Store as lent
use Rattle.frames.specs.declared.Line.{Line}
use Rattle.frames.specs.State.{Store, store_of, Stepped, Fed}

-- all that is kept
abbrev pub held : Line → lent.Store → Store
held l s = store_of s.words l.digits l.bytes.now s.pool.now s.work.now

-- the buffers are those that they were
pub record Same (l : Line) (s : lent.Store) (o : Sink) (l' : Line) (s' : lent.Store) (o' : Sink) : Type 0 where
  pub line : l'.bytes.ghost_name ≡ l.bytes.ghost_name
  pub pool : s'.pool.ghost_name ≡ s.pool.ghost_name
  pub work : s'.work.ghost_name ≡ s.work.ghost_name
  pub out : o'.out.ghost_name ≡ o.out.ghost_name

-- one byte
pub record Steps (l : Line) (s : lent.Store) (o : Sink) (b : ℕ) (l' : Line) (s' : lent.Store) (o' : Sink) : Type 0 where
  pub stepped : Stepped (held l s) b o.out.now o.at (held l' s') o'.out.now o'.at
  pub same : Same l s o l' s' o'

-- a piece
pub record Feeds (l : Line) (s : lent.Store) (o : Sink) (piece : List ℕ) (l' : Line) (s' : lent.Store) (o' : Sink) (taken : ℕ) : Type 0 where
  pub fed : Fed (held l s) piece o.out.now (held l' s') o'.out.now taken o'.at
  pub same : Same l s o l' s' o'
