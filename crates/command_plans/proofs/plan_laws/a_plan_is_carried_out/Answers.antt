use Rattle.command_plans.proofs.CarriedOutLemmas.{refused_alone, answer_cases, answered_once, carried_once, carried_somehow}
use Rattle.command_plans.proofs.plan_laws.a_plan_is_carried_out.Goals as goal

pub returns-clause-refused : goal.returns-clause-refused
returns-clause-refused c = refused_alone

pub returns-clause-fault : goal.returns-clause-fault
returns-clause-fault c = answer_cases

pub returns-clause-answer : goal.returns-clause-answer
returns-clause-answer c = answered_once

pub returns-clause-once : goal.returns-clause-once
returns-clause-once c = carried_once

pub returns-clause-some : goal.returns-clause-some
returns-clause-some c = carried_somehow
