use Rattle.cluster_model.proofs.LaneLemmas.{lane_opens, opens_once, recorded_anew}
use Rattle.cluster_model.proofs.lane_laws.a_lane_opens.Goals as goal

pub returns-clause-opens : goal.returns-clause-opens
returns-clause-opens c = lane_opens

pub returns-clause-recorded : goal.returns-clause-recorded
returns-clause-recorded c = recorded_anew

pub returns-clause-once : goal.returns-clause-once
returns-clause-once c = opens_once
