use Rattle.command_plans.proofs.PickedLemmas.{restart_closes}
use Rattle.command_plans.proofs.closed_laws.a_restart_closes_the_cluster.Goals as goal

pub returns : goal.returns
returns c = restart_closes
