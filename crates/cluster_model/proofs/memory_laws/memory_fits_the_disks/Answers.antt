use Rattle.cluster_model.proofs.MemoryLemmas.{next_is_newer, told_again, leave_has_owners, member_has_number}
use Rattle.cluster_model.proofs.memory_laws.memory_fits_the_disks.Goals as goal

pub returns-clause-newer : goal.returns-clause-newer
returns-clause-newer c = next_is_newer

pub returns-clause-told : goal.returns-clause-told
returns-clause-told c = told_again

pub returns-clause-leaves : goal.returns-clause-leaves
returns-clause-leaves c = leave_has_owners

pub returns-clause-member : goal.returns-clause-member
returns-clause-member c = member_has_number
