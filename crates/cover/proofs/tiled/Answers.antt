-- `cover::tiled` meets its contract: regions that do not fit do not tile.
use Rattle.std.proofs.Common.{◌∙◌, sym, length}
use Rattle.cover.specs.Boxes.{regions_of}
use Rattle.cover.proofs.Tile.{tiles_no}
use Rattle.cover.proofs.tiled.Goals as goal

pub returns-else-fit : goal.returns-else-fit
returns-else-fit c =
    let r = c.args.region.now in
    c.if-fit.false ∙ tiles_no r (regions_of (length r) c.args.entries.now) (sym c.fit.ensures ∙ c.if-fit.false)
