use Rattle.cluster_model.proofs.RestartLemmas.{restart_picks}
use Rattle.cluster_model.proofs.restart_laws.a_restart_picks.Goals as goal

pub returns : goal.returns
returns c = restart_picks
