-- The two items of the list are the key and the value; another number of items is no pair.
use Rattle.std.proofs.Common.{◌≡◌, length, get_or, subst, sym, ap, ◌∙◌, arith}
use Rattle.serde_json.specs.Data.{array, string, no_items, item}
use Rattle.serde_json.specs.View.{view, items_view}
use Rattle.serde_json.proofs.Views.{view-Array}
use Rattle.cache_key.specs.Names.{IsKey, IsValue}
use Rattle.script_lines.specs.Reading.{IsPairOf, IsTextOf}
use Rattle.script_lines.proofs.PairLemmas.{pair_parts, pair_of_parts}
use Rattle.script_lines.proofs.ReadingLemmas.{Reads-handed_on}
use Rattle.script_lines.proofs.ShapeLemmas.{array_items, items_counted, two_items_last}
use Rattle.script_lines.proofs.pairs.pair_of.Goals as goal
use Rattle.script_lines.proofs.pairs.pair_of.Goals.{in_default-items-via-then-items-lt2, in_default-items-via-else-items-lt2+else-this-lt3}

pub returns-in_default-items : goal.returns-in_default-items
returns-in_default-items c =
    let there : view c.args.value ≡ array (items_view c.as_mut_slice-items.result.now) = ap view c.in-Array.is ∙ view-Array c.in-Array.items ∙ ap (λ vs. array (items_view vs)) (sym c.as_mut_slice-items.ensures.value) in
    let other : length c.as_mut_slice-items.result.now ≡ 2 → ⊥ =
    elim c.in_default-items.branch [ in_default-items-via-then-items-lt2 w ↦ λ two. grind arith | in_default-items-via-else-items-lt2+else-this-lt3 w ↦ λ two. grind arith ] in
    λ pair is. other (items_counted c.as_mut_slice-items.result.now _ (array_items c.as_mut_slice-items.result.now (item (string pair.0) (item (string pair.1) no_items)) (sym there ∙ is.is)))

pub returns-in_err-key : goal.returns-in_err-key
returns-in_err-key c =
    let there : view c.args.value ≡ array (items_view c.as_mut_slice-items.result.now) = ap view c.in-Array.is ∙ view-Array c.in-Array.items ∙ ap (λ vs. array (items_view vs)) (sym c.as_mut_slice-items.ensures.value) in
    let items = two_items_last c.as_mut_slice-items.result.now c.key-item.result c.key-item.result (omega arith) c.key-item.is in
    let shape : view c.args.value ≡ array (item (view c.key-item.result) (item (view (get_or c.as_mut_slice-items.result.now 1 c.key-item.result)) no_items)) = there ∙ ap array items in
    Reads-handed_on (IsTextOf IsKey (view c.key-item.result)) (IsPairOf (view c.args.value)) c.key_of.result c.from_residual.result c.in_err-key.field-0.0 c.key_of.ensures c.in_err-key.was c.from_residual.ensures.1
    (λ pair is. (pair.0, (pair_parts (view c.args.value) (view c.key-item.result) (view (get_or c.as_mut_slice-items.result.now 1 c.key-item.result)) shape pair is).0))

pub returns-in_err-value : goal.returns-in_err-value
returns-in_err-value c =
    let there : view c.args.value ≡ array (items_view c.as_mut_slice-items.result.now) = ap view c.in-Array.is ∙ view-Array c.in-Array.items ∙ ap (λ vs. array (items_view vs)) (sym c.as_mut_slice-items.ensures.value) in
    let items = subst (λ v. items_view c.as_mut_slice-items.result.now ≡ item (view c.key-item.result) (item (view v) no_items)) (sym c.take.ensures.taken) (two_items_last c.as_mut_slice-items.result.now c.key-item.result c.index-items-1.result (omega arith) c.key-item.is) in
    let shape : view c.args.value ≡ array (item (view c.key-item.result) (item (view c.take.result) no_items)) = there ∙ ap array items in
    Reads-handed_on (IsTextOf IsValue (view c.take.result)) (IsPairOf (view c.args.value)) c.value_of.result c.from_residual-in_err-value.result c.in_err-value.field-0.0 c.value_of.ensures c.in_err-value.was c.from_residual-in_err-value.ensures.1
    (λ pair is. (pair.1, (pair_parts (view c.args.value) (view c.key-item.result) (view c.take.result) shape pair is).1))

pub returns : goal.returns
returns c =
    let there : view c.args.value ≡ array (items_view c.as_mut_slice-items.result.now) = ap view c.in-Array.is ∙ view-Array c.in-Array.items ∙ ap (λ vs. array (items_view vs)) (sym c.as_mut_slice-items.ensures.value) in
    let items = subst (λ v. items_view c.as_mut_slice-items.result.now ≡ item (view c.key-item.result) (item (view v) no_items)) (sym c.take.ensures.taken) (two_items_last c.as_mut_slice-items.result.now c.key-item.result c.index-items-1.result (omega arith) c.key-item.is) in
    let shape : view c.args.value ≡ array (item (view c.key-item.result) (item (view c.take.result) no_items)) = there ∙ ap array items in
    pair_of_parts (view c.args.value) (view c.key-item.result) (view c.take.result) shape c.in_ok-key.key c.in_ok-value.value c.in_ok-key.ensures c.in_ok-value.ensures
