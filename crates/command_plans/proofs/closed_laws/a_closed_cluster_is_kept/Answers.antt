use Rattle.command_plans.proofs.ClosedLemmas.{closed_runs, closed_breaks}
use Rattle.command_plans.proofs.closed_laws.a_closed_cluster_is_kept.Goals as goal

pub returns-clause-runs : goal.returns-clause-runs
returns-clause-runs c = closed_runs

pub returns-clause-broken : goal.returns-clause-broken
returns-clause-broken c = closed_breaks
