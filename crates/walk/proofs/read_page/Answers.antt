-- `walk::read_page` meets its contract: page j is of the kind.
use Rattle.std.proofs.Common.{rules, arith, refl, ◌≡◌, true, ◌<◌, ◌≤◌}
use Rattle.kdb.specs.Pool.{domains, pages_in, is_page}
use Rattle.kdb.specs.Calls.{L}
use Rattle.words.specs.Words.{Fit}
use Rattle.walk.specs.Pages.{kind_words}
use Rattle.walk.proofs.read_page.Goals as goal

pub returns : goal.returns
returns c =
    let w = c.args.pool.now in
    let t : is_page L w c.args.j ≡ true = search rules in
    let h : kind_words w (domains w) c.args.kind c.args.j ≡ true = search rules in
    let g : Fit w c.pool.inside.form = search rules in
    let i : (1 ≤ c.args.j) × (c.args.j < pages_in L w) = search rules in
    (rw (t, h), (refl, grind (rules, arith, g, h, i.1)))
