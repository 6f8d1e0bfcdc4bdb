use Rattle.command_plans.proofs.FoundRefusalLemmas.{damaged_is_so, none_is_so, not_created_is_so}
use Rattle.command_plans.proofs.found_laws.a_refusal_is_on_the_disks.Goals as goal

pub returns-clause-damaged : goal.returns-clause-damaged
returns-clause-damaged c = damaged_is_so

pub returns-clause-missing : goal.returns-clause-missing
returns-clause-missing c = none_is_so

pub returns-clause-not_created : goal.returns-clause-not_created
returns-clause-not_created c = not_created_is_so
