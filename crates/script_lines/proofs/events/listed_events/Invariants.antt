-- The events so far are those of the items so far.
use Rattle.std.specs.Prelude.{◌≡◌, ◌++◌}
use Rattle.serde_json.specs.View.{items_view}
use Rattle.script_lines.specs.Reading.{AreEventsIn}
use Rattle.script_lines.proofs.events.listed_events.Given as goal

abbrev pub invariant-loop-item : goal.invariant-loop-item
invariant-loop-item l = record { whole : l.fn.items.items ≡ l.yielded ++ l.item-iterator.rest.items; so_far : AreEventsIn (items_view l.yielded) l.events.items }
