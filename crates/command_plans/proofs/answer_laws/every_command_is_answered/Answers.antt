use Rattle.command_plans.proofs.AnsweredLemmas.{command_ends}
use Rattle.command_plans.proofs.answer_laws.every_command_is_answered.Goals as goal

pub returns : goal.returns
returns c = command_ends
