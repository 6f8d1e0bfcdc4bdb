-- Laws of events and lists of them.
use Rattle.std.proofs.Common.{◌≡◌, List, [], ◌∷◌, ◌++◌, refl, sym, ap, ◌∙◌}
use Rattle.std.specs.List.{AllByRecursion}
use Rattle.serde_json.specs.Data.{array, no_items, item}
use Rattle.serde_json.specs.View.{view, items_view}
use Rattle.serde_json.specs.declared.value.Value.{Value}
use Rattle.script_lines.specs.Form.{event_data, events_data, EventKeepsLimits}
use Rattle.script_lines.specs.Reading.{IsEventOf, AreEventsIn, AreEventsOf}
use Rattle.script_lines.specs.declared.command.Event.{Event}

events_data-push : (vs : List Value) (events : List Event) (v : Value) (e : Event) → items_view vs ≡ events_data events → view v ≡ event_data e → items_view (vs ++ v ∷ []) ≡ events_data (events ++ e ∷ [])
events_data-push [] [] v e are is = ap (λ x. item x no_items) is
events_data-push [] (f ∷ events) v e are is = cc
events_data-push (x ∷ vs) [] v e are is = cc
events_data-push (x ∷ vs) (f ∷ events) v e are is =
    let head : view x ≡ event_data f = cc in
    let tail : items_view (vs ++ v ∷ []) ≡ events_data (events ++ e ∷ []) = events_data-push vs events v e (cc) is in
    cc

limits-push : (events : List Event) (e : Event) → AllByRecursion EventKeepsLimits events → EventKeepsLimits e → AllByRecursion EventKeepsLimits (events ++ e ∷ [])
limits-push [] e all one = (one, tt)
limits-push (f ∷ events) e all one = (all.0, limits-push events e all.1 one)

-- the item that comes next makes one event, where the whole list makes events
event_after : (xs : List Value) (v : Value) (rest : List Value) (events : List Event) → items_view (xs ++ v ∷ rest) ≡ events_data events → AllByRecursion EventKeepsLimits events → (event : Event) × IsEventOf (view v) event
event_after [] v rest [] are limits = cc
event_after [] v rest (e ∷ events) are limits = (e, record { is = cc; limits = limits.0 })
event_after (x ∷ xs) v rest [] are limits = cc
event_after (x ∷ xs) v rest (e ∷ events) are limits = event_after xs v rest events (cc) limits.1

pub event_next : (vs xs left rest : List Value) (v : Value) → vs ≡ xs ++ left → left ≡ v ∷ rest → (events : List Event) → AreEventsOf (array (items_view vs)) events → (event : Event) × IsEventOf (view v) event
event_next vs xs left rest v whole next events is =
    let there : vs ≡ xs ++ v ∷ rest = whole ∙ ap (λ (ys : List Value). xs ++ ys) next in
    let same : items_view vs ≡ events_data events = cc (is.are) in
    event_after xs v rest events (sym (ap items_view there) ∙ same) is.limits

pub AreEventsIn-push : (vs : List Value) (events : List Event) (v : Value) (e : Event) → AreEventsIn (items_view vs) events → IsEventOf (view v) e → AreEventsIn (items_view (vs ++ v ∷ [])) (events ++ e ∷ [])
AreEventsIn-push vs events v e are one = record { are = events_data-push vs events v e are.are one.is; limits = limits-push events e are.limits one.limits }

-- after one item more, the list is what was yielded and what is left
pub yielded_more : (all xs left rest : List Value) (v : Value) → all ≡ xs ++ left → left ≡ v ∷ rest → all ≡ (xs ++ v ∷ []) ++ rest
yielded_more all xs left rest v whole next = whole ∙ ap (λ (ys : List Value). xs ++ ys) next ∙ joined xs
  where
    joined : (ys : List Value) → ys ++ v ∷ rest ≡ (ys ++ v ∷ []) ++ rest
    joined [] = refl
    joined (y ∷ ys) = ap (λ (zs : List Value). y ∷ zs) (joined ys)
