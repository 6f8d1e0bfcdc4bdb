use Rattle.newest_store.proofs.ClearingLemmas.{while_read, while_one, while_both, both_cleared, both_settled, none_erased, none_erased_yet, clearing_survives, on_ok}
use Rattle.newest_store.proofs.clearing.clear_stores.Goals as goal

pub returns-in_err-last-clause-survives : goal.returns-in_err-last-clause-survives
returns-in_err-last-clause-survives g c partition partitions file id changes now =
    clearing_survives _ _ partition partitions file id changes (while_read _ _ c.newest_file.ensures.reads_only) now

pub returns-in_err-clear-clause-moments : goal.returns-in_err-clear-clause-moments
returns-in_err-clear-clause-moments g c =
    while_one _ _ c.in_ok-last.last c.in_ok-last.ensures.one_of_two c.requires.first c.requires.second c.newest_file.ensures.reads_only c.in_ok-last.ensures.newest _ c.clear.ensures.moments c.clear.ensures.unsealed_moments

pub returns-in_err-clear-clause-survives : goal.returns-in_err-clear-clause-survives
returns-in_err-clear-clause-survives g c partition partitions file id changes now =
    clearing_survives _ _ partition partitions file id changes (returns-in_err-clear-clause-moments g c) now

pub returns-clause-cleared : goal.returns-clause-cleared
returns-clause-cleared g c =
    on_ok c.clear-2.result _ _ c.clear-2.ensures.cleared
    (both_cleared _ _ c.in_ok-last.last c.in_ok-last.ensures.one_of_two c.requires.first c.requires.second c.newest_file.ensures.reads_only c.in_ok-last.ensures.newest _ c.clear.ensures.moments c.clear.ensures.unsealed_moments
    _ c.in_ok-clear.ensures.cleared c.clear.ensures.others c.clear-2.ensures.moments)

pub returns-clause-settled : goal.returns-clause-settled
returns-clause-settled g c =
    on_ok c.clear-2.result _ _ c.clear-2.ensures.settled
    (both_settled _ _ c.in_ok-last.last c.in_ok-last.ensures.one_of_two c.requires.first c.requires.second c.newest_file.ensures.reads_only c.in_ok-last.ensures.newest _ c.clear.ensures.moments c.clear.ensures.unsealed_moments
    _ c.in_ok-clear.ensures.cleared c.clear.ensures.others c.clear-2.ensures.moments c.in_ok-clear.ensures.settled c.clear-2.ensures.others)

pub returns-clause-moments : goal.returns-clause-moments
returns-clause-moments g c =
    while_both _ _ c.in_ok-last.last c.in_ok-last.ensures.one_of_two c.requires.first c.requires.second c.newest_file.ensures.reads_only c.in_ok-last.ensures.newest _ c.clear.ensures.moments c.clear.ensures.unsealed_moments
    _ c.in_ok-clear.ensures.cleared c.clear.ensures.others c.clear-2.ensures.moments c.clear-2.ensures.unsealed_moments

pub returns-clause-survives : goal.returns-clause-survives
returns-clause-survives g c partition partitions file id changes now =
    clearing_survives _ _ partition partitions file id changes (returns-clause-moments g c) now

pub returns-in_err-clear-clause-unsealed : goal.returns-in_err-clear-clause-unsealed
returns-in_err-clear-clause-unsealed g c = none_erased_yet _ _ _ c.in_ok-last.last c.newest_file.ensures.reads_only c.clear.ensures.unsealed

pub returns-clause-unsealed : goal.returns-clause-unsealed
returns-clause-unsealed g c =
    none_erased _ _ _ _ c.in_ok-last.last c.in_ok-last.ensures.one_of_two c.newest_file.ensures.reads_only c.clear.ensures.unsealed c.clear.ensures.tells c.clear-2.ensures.unsealed
