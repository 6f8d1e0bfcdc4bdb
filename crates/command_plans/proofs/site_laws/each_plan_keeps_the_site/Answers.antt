use Rattle.command_plans.proofs.CarriedPlanLemmas.{join_carried, leave_carried, event_carried, call_carried}
use Rattle.command_plans.proofs.site_laws.each_plan_keeps_the_site.Goals as goal

pub returns-clause-join : goal.returns-clause-join
returns-clause-join c = join_carried

pub returns-clause-leave : goal.returns-clause-leave
returns-clause-leave c = leave_carried

pub returns-clause-event : goal.returns-clause-event
returns-clause-event c = event_carried

pub returns-clause-call : goal.returns-clause-call
returns-clause-call c = call_carried
