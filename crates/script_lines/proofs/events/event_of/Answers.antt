-- The first item is the name, and the ones after it are what is asked.
use Rattle.std.proofs.Common.{◌≡◌, List, sym, ap, ◌∙◌}
use Rattle.serde_json.specs.Data.{string, array, item}
use Rattle.serde_json.specs.View.{view, items_view}
use Rattle.serde_json.proofs.Views.{view-Array}
use Rattle.serde_json.specs.declared.value.Value.{Value}
use Rattle.script_lines.specs.Form.{named_list}
use Rattle.script_lines.specs.Reading.{IsEventOf, IsAsked, event_word, event_name}
use Rattle.script_lines.proofs.ReadingLemmas.{Reads-same, as_str-string}
use Rattle.script_lines.proofs.AskedLemmas.{IsEventOf-asked, IsAsked-event, word_of_event}
use Rattle.script_lines.proofs.events.event_of.Goals as goal

pub returns-in_default-of : goal.returns-in_default-of
returns-in_default-of c =
    let word : view c.in-Some.name.now ≡ string c.in-Some-as_str.word.now = as_str-string (view c.in-Some.name.now) c.in-Some-as_str.word.now (sym c.in-Some-as_str.ensures) in
    let others : List Value = c.in-Some.others.now in
    let shape : view c.args.value ≡ named_list c.in-Some-as_str.word.now (items_view others) =
    ap view c.in-Array.is ∙ view-Array c.in-Array.items ∙ ap (λ vs. array (items_view vs)) (sym c.deref_mut.ensures.value ∙ c.in-Some.ensures.cases.0) ∙ ap (λ d. array (item d (items_view others))) word in
    λ event is. c.in_default-of.ensures (event_name event) (word_of_event (view c.args.value) c.in-Some-as_str.word.now (items_view others) shape event is)

pub returns : goal.returns
returns c =
    let word : view c.in-Some.name.now ≡ string c.in-Some-as_str.word.now = as_str-string (view c.in-Some.name.now) c.in-Some-as_str.word.now (sym c.in-Some-as_str.ensures) in
    let others : List Value = c.in-Some.others.now in
    let shape : view c.args.value ≡ named_list c.in-Some-as_str.word.now (items_view others) =
    ap view c.in-Array.is ∙ view-Array c.in-Array.items ∙ ap (λ vs. array (items_view vs)) (sym c.deref_mut.ensures.value ∙ c.in-Some.ensures.cases.0) ∙ ap (λ d. array (item d (items_view others))) word in
    let named : view c.args.value ≡ named_list (event_word c.in-Some-of.name) (items_view others) = shape ∙ ap (λ name. named_list name (items_view others)) c.in-Some-of.ensures in
    Reads-same (IsAsked c.in-Some-of.name (items_view others)) (IsEventOf (view c.args.value)) c.asked.result
    (IsEventOf-asked (view c.args.value) c.in-Some-of.name (items_view others) named) (IsAsked-event (view c.args.value) c.in-Some-of.name (items_view others) named) c.asked.ensures
