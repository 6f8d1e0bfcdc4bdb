use Rattle.command_plans.proofs.KeptEventLemmas.{events_run_keep, events_broken_keep}
use Rattle.command_plans.proofs.event_laws.events_keep_the_cluster.Goals as goal

pub returns-clause-run : goal.returns-clause-run
returns-clause-run c = events_run_keep

pub returns-clause-broken : goal.returns-clause-broken
returns-clause-broken c = events_broken_keep
