use Rattle.cluster_commands.proofs.EventLemmas.{on_err}
use Rattle.cluster_commands.proofs.events.ask.Goals as goal

pub returns-in_err-refusal-in-Err-clause-broken : goal.returns-in_err-refusal-in-Err-clause-broken
returns-in_err-refusal-in-Err-clause-broken g c = on_err c.from_residual.result _ c.in-Err.ensures.broken

pub returns-in_ok-refusal-in-Err-clause-step : goal.returns-in_ok-refusal-in-Err-clause-step
returns-in_ok-refusal-in-Err-clause-step g c = c.in-Err.ensures.refused c.in_ok-refusal-in-Err.refusal c.in_ok-refusal-in-Err.ensures
