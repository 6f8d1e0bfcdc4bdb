use Rattle.newest_store.proofs.ClearingLemmas.{newest_file}
use Rattle.newest_store.proofs.clearing.newest_file.Goals as goal

pub returns-clause-newest : goal.returns-clause-newest
returns-clause-newest g c =
    newest_file _ _ _ _ _ _ c.in_ok-first.ensures.reads_only c.in_ok-first.ensures.told c.in_ok-second.ensures.told c.newer.ensures.file c.unwrap_or.ensures
