use Rattle.cluster_model.proofs.LaneStepLemmas.{freed_keeps, aside_keeps, sealing_keeps, sealed_keeps, appending_keeps, appended_keeps}
use Rattle.cluster_model.proofs.lane_laws.each_act_keeps_the_lane.Goals as goal

pub returns-clause-freed : goal.returns-clause-freed
returns-clause-freed c = freed_keeps

pub returns-clause-sealing : goal.returns-clause-sealing
returns-clause-sealing c = sealing_keeps

pub returns-clause-sealed : goal.returns-clause-sealed
returns-clause-sealed c = sealed_keeps

pub returns-clause-appending : goal.returns-clause-appending
returns-clause-appending c = appending_keeps

pub returns-clause-appended : goal.returns-clause-appended
returns-clause-appended c = appended_keeps

pub returns-clause-aside : goal.returns-clause-aside
returns-clause-aside c = aside_keeps
