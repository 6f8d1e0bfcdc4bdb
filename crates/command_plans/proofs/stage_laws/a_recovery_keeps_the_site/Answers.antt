use Rattle.command_plans.proofs.CarriedRecoveryLemmas.{recover_carried}
use Rattle.command_plans.proofs.RecoveryLemmas.{recovery_carried, other_carried}
use Rattle.command_plans.proofs.stage_laws.a_recovery_keeps_the_site.Goals as goal

pub returns-clause-recovery : goal.returns-clause-recovery
returns-clause-recovery c = recover_carried

pub returns-clause-rest : goal.returns-clause-rest
returns-clause-rest c = recovery_carried

pub returns-clause-others : goal.returns-clause-others
returns-clause-others c = other_carried
