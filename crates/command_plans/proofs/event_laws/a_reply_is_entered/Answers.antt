use Rattle.command_plans.proofs.EnteredLemmas.{mutation_entered, read_entered, refused_entered, others_entered}
use Rattle.command_plans.proofs.event_laws.a_reply_is_entered.Goals as goal

pub returns-clause-mutation : goal.returns-clause-mutation
returns-clause-mutation c = mutation_entered

pub returns-clause-read : goal.returns-clause-read
returns-clause-read c = read_entered

pub returns-clause-refused : goal.returns-clause-refused
returns-clause-refused c = refused_entered

pub returns-clause-others : goal.returns-clause-others
returns-clause-others c = others_entered
