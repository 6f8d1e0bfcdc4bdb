use Rattle.command_plans.proofs.FaultLemmas.{command_rises}
use Rattle.command_plans.proofs.answer_laws.a_fault_has_its_rise.Goals as goal

pub returns : goal.returns
returns c = command_rises
