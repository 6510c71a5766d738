-- `audit::page`, its loop and its measure: what is left of the entries gives what all of them give; the level falls.
use Rattle.std.proofs.Common.{◌≡◌, ◌+◌, ◌-◌, ◌*◌, length}
use Rattle.std.specs.Slice.Iter.{chunks_exact_rest, chunks_exact_size}
use Rattle.kdb.specs.Pages.{ents_in}
use Rattle.kdb.specs.Pool.{view}
use Rattle.kdb.specs.Calls.{L}
use Rattle.audit.specs.Walk.{entry_by_entry, page_walk}
use Rattle.cover.specs.Boxes.{ents_of}
use Rattle.audit.proofs.+page.Given as goal

abbrev pub invariant-loop-entry : goal.invariant-loop-entry
invariant-loop-entry l =
    (goal.iterator-loop-entry).can_next l.entry-iterator ×
    (goal.iterator-loop-entry).is_finite l.entry-iterator ×
    (chunks_exact_size l.entry-iterator ≡ 2 * l.k + 1) ×
    (length l.met ≡ length l.initial.met) ×
    (entry_by_entry (λ x. page_walk L l.pool (l.level - 1 - 1) x.child x.box) (ents_of l.k (chunks_exact_rest l.entry-iterator)) l.left l.met
    ≡ entry_by_entry (λ x. page_walk L l.pool (l.level - 1 - 1) x.child x.box) (ents_in (view L l.pool l.j)) l.initial.left l.initial.met)

abbrev pub decreases-page : goal.decreases-page
decreases-page l = l.level
