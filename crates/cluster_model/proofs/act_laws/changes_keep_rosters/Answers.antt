use Rattle.cluster_model.proofs.TurnsLemmas.{change_keeps, two_changes_keep, rest_keeps, create_keeps}
use Rattle.cluster_model.proofs.act_laws.changes_keep_rosters.Goals as goal

pub returns-clause-change : goal.returns-clause-change
returns-clause-change c = change_keeps

pub returns-clause-join : goal.returns-clause-join
returns-clause-join c = two_changes_keep

pub returns-clause-rest : goal.returns-clause-rest
returns-clause-rest c = rest_keeps

pub returns-clause-creation : goal.returns-clause-creation
returns-clause-creation c = create_keeps
