-- `boxes::Sides::window` meets its contract: the two halves.
use Rattle.boxes.proofs.Tests.{window_lem}
use Rattle.std.proofs.Common.{◌∙◌, ap, length}
use Rattle.boxes.proofs.Sides.window.Goals as goal

pub returns : goal.returns
returns c = let h = window_lem _ c.args.k c.requires.ends in (h.0, ap length h.0 ∙ h.1)
