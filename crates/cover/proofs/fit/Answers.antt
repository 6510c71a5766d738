-- `cover::fit` meets its contract: entry by entry, and out at the first that is not inside or shares a key with a later one.
use Rattle.std.proofs.Common.{◌≡◌, ◌∙◌, refl, sym, length, arith}
use Rattle.boxes.proofs.Tests.{seen}
use Rattle.cover.proofs.Entries.{first_in, fits_out, fits_met, fits_next, fits_end}
use Rattle.cover.proofs.fit.Goals as goal
use Rattle.cover.proofs.fit.Goals.{then-not-inside-via-then-not-inside, then-not-inside-via-else-not-inside+then-not-clear_of}

pub region-first-requires : goal.region-first-requires
region-first-requires c = first_in _ c.loop-entry.rest.now _ c.in-Some.later.now c.in-Some.ensures.cases c.region.invariant.1

pub inside-requires : goal.inside-requires
inside-requires c =
    let n : length c.args.region.now ≡ length c.region.inside.low.now = seen _ _ _ _ c.region.view_is c.region.invariant.0 refl in
    omega (arith, c.region-first.ensures.1)

pub returns-then-not-inside : goal.returns-then-not-inside
returns-then-not-inside c =
    let n : length c.args.region.now ≡ length c.region.inside.low.now = seen _ _ _ _ c.region.view_is c.region.invariant.0 refl in
    let r = c.loop-entry.rest.now in
    elim c.then-not-inside.branch [
      | then-not-inside-via-then-not-inside w ↦
          fits_out _ r _ _ c.in-Some.ensures.cases _ _ _ _ n c.region-first.ensures c.loop-entry.invariant (sym c.inside.ensures ∙ w.if-not-inside.true)
      | then-not-inside-via-else-not-inside+then-not-clear_of w ↦
          fits_met _ r _ _ c.in-Some.ensures.cases _ _ _ _ n c.region-first.ensures c.loop-entry.invariant (sym c.inside.ensures ∙ w.if-not-inside.false) (sym w.clear_of.ensures ∙ w.if-not-clear_of.true)
    ]

pub loop-entry-preserved : goal.loop-entry-preserved
loop-entry-preserved c =
    let n : length c.args.region.now ≡ length c.region.inside.low.now = seen _ _ _ _ c.region.view_is c.region.invariant.0 refl in
    fits_next _ c.loop-entry.rest.now _ _ c.in-Some.ensures.cases _ _ _ _ n c.region-first.ensures c.loop-entry.invariant (sym c.inside.ensures ∙ c.if-not-inside.false) (sym c.clear_of.ensures ∙ c.if-not-clear_of.false)

pub returns : goal.returns
returns c =
    let n : length c.args.region.now ≡ length c.region.inside.low.now = seen _ _ _ _ c.region.view_is c.region.invariant.0 refl in
    sym (fits_end _ c.loop-entry.rest.now _ (omega (arith, c.in_default.ensures.cases))) ∙ c.loop-entry.invariant
