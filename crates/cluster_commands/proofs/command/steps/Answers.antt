use Rattle.cluster_commands.proofs.EventLemmas.{on_err, stepped_all, broken_all}
use Rattle.cluster_commands.proofs.command.steps.Goals as goal

pub returns-in_err-outcomes-clause-broken : goal.returns-in_err-outcomes-clause-broken
returns-in_err-outcomes-clause-broken g c = on_err c.from_residual.result _ (broken_all g.D.Disk.view _ _ _ _ c.into_vec.ensures c.in_err-outcomes.ensures.broken)

pub returns-clause-step : goal.returns-clause-step
returns-clause-step g c = stepped_all g.D.Disk.view _ _ _ _ _ _ c.into_vec.ensures c.of.ensures c.in_ok-outcomes.ensures.run
