-- An item that is no event makes the list none of events; an event makes one event more.
use Rattle.std.proofs.Common.{◌∙◌, ◌++◌, ◌∷◌, [], sym, ap, subst, Err}
use Rattle.std.proofs.lemmas.Result.{err_from_is_err_and}
use Rattle.serde_json.specs.Data.{array}
use Rattle.serde_json.specs.View.{view, items_view}
use Rattle.script_lines.specs.Reading.{IsEventOf, AreEventsIn, AreEventsOf}
use Rattle.script_lines.proofs.EventLemmas.{event_next, AreEventsIn-push, yielded_more}
use Rattle.script_lines.proofs.ReadingLemmas.{Reads-refused}
use Rattle.script_lines.proofs.events.listed_events.Goals as goal

pub returns-in_err-event_of : goal.returns-in_err-event_of
returns-in_err-event_of c =
    let p = err_from_is_err_and c.from_residual.result c.from_residual.ensures.1 in
    Reads-refused (IsEventOf (view c.in-Some.item)) (AreEventsOf (array (items_view c.args.items.items))) c.event_of.result c.from_residual.result p.0 c.event_of.ensures (c.in_err-event_of.was ∙ ap Err (sym p.2)) p.1
    (event_next _ _ _ _ _ c.loop-item.invariant.whole c.in-Some.ensures.steps.0)

pub loop-item-preserved : goal.loop-item-preserved
loop-item-preserved c = record {
  whole = yielded_more _ _ _ _ _ c.loop-item.invariant.whole c.in-Some.ensures.steps.0;
  so_far = subst (AreEventsIn (items_view (c.loop-item.yielded ++ c.in-Some.item ∷ []))) (sym c.in_ok-push.ensures.items) (AreEventsIn-push _ _ _ _ c.loop-item.invariant.so_far c.in_ok-event_of.ensures);
}
