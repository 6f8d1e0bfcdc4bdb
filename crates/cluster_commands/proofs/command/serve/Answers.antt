use Rattle.cluster_commands.proofs.CommandLemmas.{carries_as, breaks_as, carries_stop, carries_dump, carries_steps, breaks_steps}
use Rattle.cluster_commands.proofs.EventLemmas.{ok_still, err_still}
use Rattle.cluster_commands.proofs.command.serve.Goals as goal

pub returns-in-Stop-clause-carried : goal.returns-in-Stop-clause-carried
returns-in-Stop-clause-carried g c = carries_as _ g.D.Disk.view _ _ _ _ _ c.in-Stop.is (carries_stop _ g.D.Disk.view c.args.cluster c.stop.result c.stop.ensures.closed c.stop.ensures.restarted)

pub returns-in-Dump-clause-carried : goal.returns-in-Dump-clause-carried
returns-in-Dump-clause-carried g c = ok_still c.dump-answer.result _ _
    (λ answer is. carries_as _ g.D.Disk.view _ _ _ _ _ c.in-Dump.is (carries_dump _ g.D.Disk.view c.args.cluster answer is))
    c.dump-answer.ensures

pub returns-clause-carried : goal.returns-clause-carried
returns-clause-carried g c =
    let steps = c.steps-answer.ensures in
    ok_still c.steps-answer.result _ _
    (λ answer is. carries_as _ g.D.Disk.view _ _ _ _ _ c.in-Steps.is (carries_steps _ g.D.Disk.view c.args.cluster c.steps-answer.new.cluster steps.onward steps.stored c.in-Steps.events answer is))
    steps.step

pub returns-clause-broken : goal.returns-clause-broken
returns-clause-broken g c =
    let steps = c.steps-answer.ensures in
    err_still c.steps-answer.result _ _
    (λ is. breaks_as _ g.D.Disk.view _ _ _ _ c.in-Steps.is (breaks_steps _ g.D.Disk.view c.args.cluster c.steps-answer.new.cluster steps.onward steps.stored c.in-Steps.events is))
    steps.broken
