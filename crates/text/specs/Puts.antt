-- What the methods of a sink ensure.
use Rattle.std.specs.Prelude.{List, ◌≡◌, ℕ}
use Rattle.text.specs.declared.Sink.{Sink}
use Rattle.text.specs.Text.{Written}

-- the text is written into the same buffer
pub record Puts (before : Sink) (text : List ℕ) (after : Sink) : Type 0 where
  pub written : Written before.out.now before.at text after.out.now after.at
  pub same : after.out.ghost_name ≡ before.out.ghost_name
