use Rattle.newest_store.proofs.ChoiceLemmas.{found_before}
use Rattle.newest_store.proofs.choice.newest_on.Goals as goal

pub returns-clause-chosen : goal.returns-clause-chosen
returns-clause-chosen g c tells = c.newer_of_two.ensures.newest _ (c.in_ok-first.ensures.told tells)
    (found_before _ _ _ c.in_ok-first.ensures.reads_only c.in_ok-second.ensures.told tells)
