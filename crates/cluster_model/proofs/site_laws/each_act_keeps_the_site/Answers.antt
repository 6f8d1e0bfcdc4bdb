use Rattle.cluster_model.proofs.SiteStepLemmas.{made_lane, create_site, lane_step_keeps, service_step_keeps, begin_site, finish_site}
use Rattle.cluster_model.proofs.site_laws.each_act_keeps_the_site.Goals as goal

pub returns-clause-lane : goal.returns-clause-lane
returns-clause-lane c = lane_step_keeps

pub returns-clause-service : goal.returns-clause-service
returns-clause-service c = service_step_keeps

pub returns-clause-begun : goal.returns-clause-begun
returns-clause-begun c = begin_site

pub returns-clause-finished : goal.returns-clause-finished
returns-clause-finished c = finish_site

pub returns-clause-made : goal.returns-clause-made
returns-clause-made c = made_lane

pub returns-clause-created : goal.returns-clause-created
returns-clause-created c = create_site
