-- The three items are the cache, the key and the value; another number of items is no put.
use Rattle.std.proofs.Common.{◌≡◌, length, get_or, sym, subst, arith}
use Rattle.serde_json.specs.Data.{no_items, item}
use Rattle.serde_json.specs.View.{view, items_view}
use Rattle.cache_key.specs.Names.{IsName, IsKey, IsValue}
use Rattle.script_lines.specs.Reading.{IsAsked, IsTextOf}
use Rattle.script_lines.specs.declared.reason.EventName.TheVariants as names
use Rattle.script_lines.proofs.ReadingLemmas.{refused, Reads-handed_on}
use Rattle.script_lines.proofs.AskedLemmas.{asked_by, put_parts, put_of_parts}
use Rattle.script_lines.proofs.ShapeLemmas.{items_counted, three_items_last}
use Rattle.script_lines.proofs.requests.put_of.Goals as goal
use Rattle.script_lines.proofs.requests.put_of.Goals.{in_default-via-then-others-lt3, in_default-via-else-others-lt3+else-this-lt4}

pub returns-in_default : goal.returns-in_default
returns-in_default c =
    let other : length c.args.others.now ≡ 3 → ⊥ =
    elim c.in_default.branch [ in_default-via-then-others-lt3 w ↦ λ three. grind arith | in_default-via-else-others-lt3+else-this-lt4 w ↦ λ three. grind arith ] in
    refused (IsAsked names.Put (items_view c.args.others.now)) c.item_count.result c.item_count.ensures
    (λ event is. other (items_counted c.args.others.now _ (asked_by names.Put (items_view c.args.others.now) event is).items))

pub returns-in_err-cache : goal.returns-in_err-cache
returns-in_err-cache c =
    let items = three_items_last c.args.others.now c.cache-item.result c.key-item.result c.key-item.result (omega arith) c.cache-item.is c.key-item.is in
    Reads-handed_on (IsTextOf IsName (view c.cache-item.result)) (IsAsked names.Put (items_view c.args.others.now)) c.cache_of.result c.from_residual.result c.in_err-cache.field-0.0 c.cache_of.ensures c.in_err-cache.was c.from_residual.ensures.1
    (λ event is. (put_parts (view c.cache-item.result) (view c.key-item.result) (view (get_or c.args.others.now 2 c.key-item.result)) (items_view c.args.others.now) items event is).0)

pub returns-in_err-key : goal.returns-in_err-key
returns-in_err-key c =
    let items = three_items_last c.args.others.now c.cache-item.result c.key-item.result c.key-item.result (omega arith) c.cache-item.is c.key-item.is in
    Reads-handed_on (IsTextOf IsKey (view c.key-item.result)) (IsAsked names.Put (items_view c.args.others.now)) c.key_of.result c.from_residual-in_err-key.result c.in_err-key.field-0.0 c.key_of.ensures c.in_err-key.was c.from_residual-in_err-key.ensures.1
    (λ event is. (put_parts (view c.cache-item.result) (view c.key-item.result) (view (get_or c.args.others.now 2 c.key-item.result)) (items_view c.args.others.now) items event is).1)

pub returns-in_err-value : goal.returns-in_err-value
returns-in_err-value c =
    let items = subst (λ v. items_view c.args.others.now ≡ item (view c.cache-item.result) (item (view c.key-item.result) (item (view v) no_items))) (sym c.take.ensures.taken) (three_items_last c.args.others.now c.cache-item.result c.key-item.result c.index-others-2.result (omega arith) c.cache-item.is c.key-item.is) in
    Reads-handed_on (IsTextOf IsValue (view c.take.result)) (IsAsked names.Put (items_view c.args.others.now)) c.value_of.result c.from_residual-in_err-value.result c.in_err-value.field-0.0 c.value_of.ensures c.in_err-value.was c.from_residual-in_err-value.ensures.1
    (λ event is. (put_parts (view c.cache-item.result) (view c.key-item.result) (view c.take.result) (items_view c.args.others.now) items event is).2)

pub returns : goal.returns
returns c =
    let items = subst (λ v. items_view c.args.others.now ≡ item (view c.cache-item.result) (item (view c.key-item.result) (item (view v) no_items))) (sym c.take.ensures.taken) (three_items_last c.args.others.now c.cache-item.result c.key-item.result c.index-others-2.result (omega arith) c.cache-item.is c.key-item.is) in
    put_of_parts (view c.cache-item.result) (view c.key-item.result) (view c.take.result) (items_view c.args.others.now) items c.in_ok-cache.cache c.in_ok-key.key c.in_ok-value.value c.in_ok-cache.ensures c.in_ok-key.ensures c.in_ok-value.ensures
