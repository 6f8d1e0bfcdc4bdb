use Rattle.command_plans.proofs.ChangeKeptLemmas.{join_held, join_called, leave_held, leave_called}
use Rattle.command_plans.proofs.change_laws.a_change_keeps_the_cluster.Goals as goal

pub returns-clause-join : goal.returns-clause-join
returns-clause-join c = join_held

pub returns-clause-joined : goal.returns-clause-joined
returns-clause-joined c = join_called

pub returns-clause-leave : goal.returns-clause-leave
returns-clause-leave c = leave_held

pub returns-clause-left : goal.returns-clause-left
returns-clause-left c = leave_called
