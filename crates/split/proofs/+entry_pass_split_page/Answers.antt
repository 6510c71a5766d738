-- `split::entry_pass`, `split::part_entries`, `split::part_regions` and `split::split_page`, which call each other, meet their contracts.
use Rattle.split.proofs.Laws.{regions_whole}
use Rattle.split.proofs.+entry_pass_split_page.Goals as goal

pub part_regions-returns-clause-words : goal.part_regions-returns-clause-words
part_regions-returns-clause-words t c =
    regions_whole _ _ _ _ _ _ _ _ _ _ _ _ _ c.in_ok-r.ensures.page.some c.in_ok-r.ensures.words c.in_ok-entry_pass.ensures
