use Rattle.cluster_model.proofs.PicksLemmas.{picked_has, picked_keeps, rest_is_kept}
use Rattle.cluster_model.proofs.restart_laws.a_stop_loses_nothing.Goals as goal

pub returns-clause-picked : goal.returns-clause-picked
returns-clause-picked c = picked_has

pub returns-clause-rosters : goal.returns-clause-rosters
returns-clause-rosters c = picked_keeps

pub returns-clause-rest : goal.returns-clause-rest
returns-clause-rest c = rest_is_kept
