use Rattle.cluster_model.proofs.CarriedLemmas.{carried_keeps}
use Rattle.cluster_model.proofs.act_laws.a_plan_keeps_the_site.Goals as goal

pub returns : goal.returns
returns c = carried_keeps
