use Rattle.std.proofs.Common.{arith, ◌≡◌, ◌∙◌, ap, ◌++◌, List}
use Rattle.std.proofs.lemmas.Grind.{common_steps}
use Rattle.script_lines.specs.declared.command.Event.{Event}
use Rattle.disk_trait.proofs.Runs.{onward_joined}
use Rattle.cluster_commands.proofs.EventLemmas.{on_err, run_all, run_steps_more, steps_break_in, steps_break_between, turn}
use Rattle.cluster_commands.proofs.events.run_events.Goals as goal

pub loop-event-preserved : goal.loop-event-preserved
loop-event-preserved g c = record {
  whole = turn _ _ _ _ _ c.loop-event.invariant.whole c.in-Some.ensures.steps.0;
  run = rw c.in_ok-push.ensures.items (run_steps_more _ _ _ _ _ _ _ _ c.loop-event.invariant.run c.in_ok-outcome.ensures.step);
  serving = c.in_ok-outcome.ensures.serving;
  onward = onward_joined _ _ _ c.loop-event.invariant.onward c.in_ok-outcome.ensures.onward;
}

pub returns-in_err-outcome-clause-broken : goal.returns-in_err-outcome-clause-broken
returns-in_err-outcome-clause-broken g c =
    let whole = c.loop-event.invariant.whole ∙ ap (λ (es : List Event). c.loop-event.yielded ++ es) c.in-Some.ensures.steps.0 in
    on_err c.from_residual.result _ (steps_break_in _ _ _ _ _ _ _ _ _ whole c.loop-event.invariant.run c.in_err-outcome.ensures.broken)

pub returns-in_err-push-clause-broken : goal.returns-in_err-push-clause-broken
returns-in_err-push-clause-broken g c =
    let whole = turn _ _ _ _ _ c.loop-event.invariant.whole c.in-Some.ensures.steps.0 in
    on_err c.from_residual-in_err-push.result _ (steps_break_between _ _ _ _ _ _ _ whole (run_steps_more _ _ _ _ _ _ _ _ c.loop-event.invariant.run c.in_ok-outcome.ensures.step))

pub returns-clause-run : goal.returns-clause-run
returns-clause-run g c =
    let whole = c.loop-event.invariant.whole in
    let none = c.in-None.ensures.steps.0 in
    let all : c.args.events.items ≡ c.loop-event.yielded = grind (arith, common_steps) in
    run_all _ _ _ _ _ _ all c.loop-event.invariant.run
