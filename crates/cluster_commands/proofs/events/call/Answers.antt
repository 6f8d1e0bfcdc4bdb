use Rattle.script_lines.specs.declared.command.Event.TheVariants.{Call}
use Rattle.cluster_commands.specs.Events.{PartStep, EventStep}
use Rattle.cluster_commands.specs.Breaks.{PartBreaks, EventBreaks}
use Rattle.cluster_commands.proofs.EventLemmas.{ok_still, err_still, steps_as, whole_step, whole_breaks, nothing_asked}
use Rattle.cluster_commands.proofs.events.call.Goals as goal

pub returns-then-asks_nothing-clause-step : goal.returns-then-asks_nothing-clause-step
returns-then-asks_nothing-clause-step g c =
    let none = c.asks_nothing.ensures.nothing c.if-asks_nothing.true in
    nothing_asked g.D.Disk.view c.args.cluster.now c.args.request none.0 none.1

pub returns-clause-step : goal.returns-clause-step
returns-clause-step g c =
    let some = c.asks_nothing.ensures.something c.if-asks_nothing.false in
    ok_still c.ask.result _ _
    (λ outcome is. steps_as _ _ _ (λ before after. PartStep before c.args.request outcome after) (λ before after. EventStep before (Call c.args.request) outcome after)
    (λ before after step. whole_step before after c.args.request outcome some step) is)
    c.ask.ensures.step

pub returns-clause-broken : goal.returns-clause-broken
returns-clause-broken g c =
    let some = c.asks_nothing.ensures.something c.if-asks_nothing.false in
    err_still c.ask.result _ _
    (λ is. steps_as _ _ _ (λ before after. PartBreaks before c.args.request after) (λ before after. EventBreaks before (Call c.args.request) after)
    (λ before after breaks. whole_breaks before after c.args.request some breaks) is)
    c.ask.ensures.broken
