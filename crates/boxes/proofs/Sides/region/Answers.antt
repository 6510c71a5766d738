-- `boxes::Sides::region` meets its contract: two parts of the words.
use Rattle.boxes.proofs.Tests.{region_lem}
use Rattle.std.proofs.Common.{◌∙◌, ap, length}
use Rattle.boxes.proofs.Sides.region.Goals as goal

pub returns : goal.returns
returns c = let h = region_lem _ c.args.k c.args.at c.requires in (h.0, ap length h.0 ∙ h.1)
