-- A reply in a store and a sink.
use Rattle.std.specs.Prelude.{◌≡◌, take}
use Rattle.kdb.specs.Frames.{Frame, Reply, obey}
use Rattle.text.specs.declared.Sink.{Sink}
use Rattle.replies.specs.declared.Store.{Store}
use Rattle.replies.specs.Reply.{work_after, Replied}

-- the reply stands in the same buffers
pub record Replies (r : Reply) (s : Store) (o : Sink) (s' : Store) (o' : Sink) : Type 0 where
  pub replied : Replied r s.pool.now o.out.now o.at s'.pool.now o'.out.now s'.words o'.at
  pub same_pool : s'.pool.ghost_name ≡ s.pool.ghost_name
  pub same_work : s'.work.ghost_name ≡ s.work.ghost_name
  pub same_out : o'.out.ghost_name ≡ o.out.ghost_name

-- and the work buffer is as the frame leaves it
pub record Served (r : Reply) (f : Frame) (s : Store) (o : Sink) (s' : Store) (o' : Sink) : Type 0 where
  pub reply : Replies r s o s' o'
  pub work : s'.work.now ≡ work_after (take s.words s.pool.now) s.work.now f

-- a frame is obeyed: its reply stands, and the work buffer is as the frame leaves it
abbrev pub Obeys : Frame → Store → Sink → Store → Sink → Type 0
Obeys f s o s' o' = Served (obey (take s.words s.pool.now) f) f s o s' o'
