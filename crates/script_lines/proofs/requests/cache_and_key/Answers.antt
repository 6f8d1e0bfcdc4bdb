-- The two items are the cache and the key; another number of items is neither.
use Rattle.std.proofs.Common.{◌≡◌, length, arith, ◌∙◌}
use Rattle.serde_json.specs.Data.{string, no_items, item}
use Rattle.serde_json.specs.View.{view, items_view}
use Rattle.cache_key.specs.Names.{IsName, IsKey}
use Rattle.script_lines.specs.Reading.{AreCacheAndKey, IsTextOf}
use Rattle.script_lines.proofs.ReadingLemmas.{refused, Reads-handed_on}
use Rattle.script_lines.proofs.AskedLemmas.{cache_and_key_parts}
use Rattle.script_lines.proofs.ShapeLemmas.{items_counted, two_items}
use Rattle.script_lines.proofs.requests.cache_and_key.Goals as goal
use Rattle.script_lines.proofs.requests.cache_and_key.Goals.{in_default-via-then-others-lt2, in_default-via-else-others-lt2+else-others-lt3}

pub returns-in_default : goal.returns-in_default
returns-in_default c =
    let other : length c.args.others.now ≡ 2 → ⊥ =
    elim c.in_default.branch [ in_default-via-then-others-lt2 w ↦ λ two. grind arith | in_default-via-else-others-lt2+else-others-lt3 w ↦ λ two. grind arith ] in
    refused (AreCacheAndKey (items_view c.args.others.now)) c.item_count.result c.item_count.ensures
    (λ found is. other (items_counted c.args.others.now (item (string found.0) (item (string found.1) no_items)) is.are))

pub returns-in_err-cache : goal.returns-in_err-cache
returns-in_err-cache c =
    let items = two_items c.args.others.now c.cache-item.result c.key-item.result (omega arith) c.cache-item.is c.key-item.is in
    Reads-handed_on (IsTextOf IsName (view c.cache-item.result)) (AreCacheAndKey (items_view c.args.others.now)) c.cache_of.result c.from_residual.result c.in_err-cache.field-0.0 c.cache_of.ensures c.in_err-cache.was c.from_residual.ensures.1
    (λ found is. (found.0, (cache_and_key_parts (view c.cache-item.result) (view c.key-item.result) (items_view c.args.others.now) items found is).0))

pub returns-in_err-key : goal.returns-in_err-key
returns-in_err-key c =
    let items = two_items c.args.others.now c.cache-item.result c.key-item.result (omega arith) c.cache-item.is c.key-item.is in
    Reads-handed_on (IsTextOf IsKey (view c.key-item.result)) (AreCacheAndKey (items_view c.args.others.now)) c.key_of.result c.from_residual-in_err-key.result c.in_err-key.field-0.0 c.key_of.ensures c.in_err-key.was c.from_residual-in_err-key.ensures.1
    (λ found is. (found.1, (cache_and_key_parts (view c.cache-item.result) (view c.key-item.result) (items_view c.args.others.now) items found is).1))

pub returns : goal.returns
returns c =
    let items = two_items c.args.others.now c.cache-item.result c.key-item.result (omega arith) c.cache-item.is c.key-item.is in
    let cache : IsTextOf IsName (view c.cache-item.result) c.in_ok-cache.cache = c.in_ok-cache.ensures in
    let key : IsTextOf IsKey (view c.key-item.result) c.in_ok-key.key = c.in_ok-key.ensures in
    record { are = items ∙ (λ i. item (cache.is i) (item (key.is i) no_items)); limits = (cache.limits, key.limits) }
