use Rattle.store_journal.proofs.CreateLemmas.{cleared, blanked}
use Rattle.store_journal.proofs.free.free.Goals as goal

pub returns-in_err-is_blank-clause-moments : goal.returns-in_err-is_blank-clause-moments
returns-in_err-is_blank-clause-moments g c = cleared _ _ _ _ c.clear.ensures.moments c.is_blank.ensures.moments

pub returns-then-branch-clause-moments : goal.returns-then-branch-clause-moments
returns-then-branch-clause-moments g c = cleared _ _ _ _ c.clear.ensures.moments c.is_blank.ensures.moments

pub returns-clause-moments : goal.returns-clause-moments
returns-clause-moments g c = blanked _ _ _ _ _ c.clear.ensures.moments c.is_blank.ensures.moments c.blank.ensures.moments
