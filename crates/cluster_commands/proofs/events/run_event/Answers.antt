use Rattle.std.proofs.Common.{sym, subst, IfOk, OnErr}
use Rattle.script_lines.specs.declared.command.Event.{Event}
use Rattle.cluster_commands.specs.Breaks.{EventBreaks}
use Rattle.cluster_commands.specs.Events.{EventStep}
use Rattle.cluster_commands.specs.OnDisk.{StateSteps}
use Rattle.cluster_commands.proofs.events.run_event.Goals as goal

pub returns-in-Call-clause-step : goal.returns-in-Call-clause-step
returns-in-Call-clause-step g c =
    let view = g.D.Disk.view in
    subst (λ (e : Event). IfOk c.call.result (λ outcome. StateSteps view c.args.cluster.now c.call.new.cluster (λ before after. EventStep before e outcome after))) (sym c.in-Call.is) c.call.ensures.step

pub returns-in-Call-clause-broken : goal.returns-in-Call-clause-broken
returns-in-Call-clause-broken g c =
    let view = g.D.Disk.view in
    subst (λ (e : Event). OnErr c.call.result (StateSteps view c.args.cluster.now c.call.new.cluster (λ before after. EventBreaks before e after))) (sym c.in-Call.is) c.call.ensures.broken

pub returns-in-Renew-clause-step : goal.returns-in-Renew-clause-step
returns-in-Renew-clause-step g c =
    let view = g.D.Disk.view in
    subst (λ (e : Event). IfOk c.renew.result (λ outcome. StateSteps view c.args.cluster.now c.renew.new.cluster (λ before after. EventStep before e outcome after))) (sym c.in-Renew.is) c.renew.ensures.step

pub returns-in-Renew-clause-broken : goal.returns-in-Renew-clause-broken
returns-in-Renew-clause-broken g c =
    let view = g.D.Disk.view in
    subst (λ (e : Event). OnErr c.renew.result (StateSteps view c.args.cluster.now c.renew.new.cluster (λ before after. EventBreaks before e after))) (sym c.in-Renew.is) c.renew.ensures.broken
