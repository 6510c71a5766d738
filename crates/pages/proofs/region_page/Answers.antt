-- `pages::region_page` meets its contract: a page with good words that has an entry, and whose regions tile the region.
use Rattle.std.proofs.Common.{◌≡◌, sym, false, true, None, rules}
use Rattle.kdb.specs.Calls.{L}
use Rattle.pages.specs.Kinds.{sound_regions}
use Rattle.pages.proofs.OnePage.{regions_none, regions_some}
use Rattle.pages.proofs.region_page.Goals as goal
use Rattle.pages.proofs.region_page.Goals.{then-is_empty-via-then-is_empty, then-is_empty-via-else-is_empty+then-not-tiled}

pub returns-in_err-entries : goal.returns-in_err-entries
returns-in_err-entries c =
    let x = c.args in
    let e : c.from_residual.result ≡ None = search rules in
    rw (e, regions_none x.pool.now x.j c.requires.page x.region.now c.in_err-entries.ensures.words)

pub returns-then-is_empty : goal.returns-then-is_empty
returns-then-is_empty c =
    let x = c.args in
    let h = regions_some x.pool.now x.j c.requires.page x.region.now c.in_ok-entries.entries.now c.in_ok-entries.ensures.words in
    elim c.then-is_empty.branch [
      | then-is_empty-via-then-is_empty w ↦
          let s : sound_regions L x.pool.now x.j x.region.now ≡ false = sym (rw (← c.is_empty.ensures, w.if-is_empty.true) at h.is) in rw s
      | then-is_empty-via-else-is_empty+then-not-tiled w ↦
          let a = rw c.requires.sides at w.tiled.ensures in
          let s : sound_regions L x.pool.now x.j x.region.now ≡ false = sym (rw (← c.is_empty.ensures, w.if-is_empty.false, ← a, w.if-not-tiled.true) at h.is) in rw s
    ]

pub returns : goal.returns
returns c =
    let x = c.args in
    let h = regions_some x.pool.now x.j c.requires.page x.region.now c.in_ok-entries.entries.now c.in_ok-entries.ensures.words in
    let a = rw c.requires.sides at c.tiled.ensures in
    let s : sound_regions L x.pool.now x.j x.region.now ≡ true = sym (rw (← c.is_empty.ensures, c.if-is_empty.false, ← a, c.if-not-tiled.false) at h.is) in
    rw (s, h.ents s)
