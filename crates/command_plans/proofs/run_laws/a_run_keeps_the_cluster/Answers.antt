use Rattle.command_plans.proofs.RunLemmas.{empty_is_kept, command_keeps, run_keeps, command_broken}
use Rattle.command_plans.proofs.run_laws.a_run_keeps_the_cluster.Goals as goal

pub returns-clause-empty : goal.returns-clause-empty
returns-clause-empty c = empty_is_kept

pub returns-clause-command : goal.returns-clause-command
returns-clause-command c = command_keeps

pub returns-clause-run : goal.returns-clause-run
returns-clause-run c = run_keeps

pub returns-clause-broken : goal.returns-clause-broken
returns-clause-broken c = command_broken
