-- The two items are the cache and the pairs; another number of items is no put of pairs.
use Rattle.std.proofs.Common.{◌≡◌, length, get_or, sym, subst, arith}
use Rattle.serde_json.specs.Data.{no_items, item}
use Rattle.serde_json.specs.View.{view, items_view}
use Rattle.cache_key.specs.Names.{IsName}
use Rattle.script_lines.specs.Reading.{IsAsked, IsTextOf, ArePairsOf}
use Rattle.script_lines.specs.declared.reason.EventName.TheVariants as names
use Rattle.script_lines.proofs.ReadingLemmas.{refused, Reads-handed_on}
use Rattle.script_lines.proofs.AskedLemmas.{asked_by, put_all_parts, put_all_of_parts}
use Rattle.script_lines.proofs.ShapeLemmas.{items_counted, two_items_last}
use Rattle.script_lines.proofs.requests.put_all_of.Goals as goal
use Rattle.script_lines.proofs.requests.put_all_of.Goals.{in_default-via-then-others-lt2, in_default-via-else-others-lt2+else-this-lt3}

pub returns-in_default : goal.returns-in_default
returns-in_default c =
    let other : length c.args.others.now ≡ 2 → ⊥ =
    elim c.in_default.branch [ in_default-via-then-others-lt2 w ↦ λ two. grind arith | in_default-via-else-others-lt2+else-this-lt3 w ↦ λ two. grind arith ] in
    refused (IsAsked names.PutAll (items_view c.args.others.now)) c.item_count.result c.item_count.ensures
    (λ event is. other (items_counted c.args.others.now _ (asked_by names.PutAll (items_view c.args.others.now) event is).items))

pub returns-in_err-cache : goal.returns-in_err-cache
returns-in_err-cache c =
    let items = two_items_last c.args.others.now c.cache-item.result c.cache-item.result (omega arith) c.cache-item.is in
    Reads-handed_on (IsTextOf IsName (view c.cache-item.result)) (IsAsked names.PutAll (items_view c.args.others.now)) c.cache_of.result c.from_residual.result c.in_err-cache.field-0.0 c.cache_of.ensures c.in_err-cache.was c.from_residual.ensures.1
    (λ event is. (put_all_parts (view c.cache-item.result) (view (get_or c.args.others.now 1 c.cache-item.result)) (items_view c.args.others.now) items event is).0)

pub returns-in_err-pairs : goal.returns-in_err-pairs
returns-in_err-pairs c =
    let items = subst (λ v. items_view c.args.others.now ≡ item (view c.cache-item.result) (item (view v) no_items)) (sym c.take.ensures.taken) (two_items_last c.args.others.now c.cache-item.result c.index-others-1.result (omega arith) c.cache-item.is) in
    Reads-handed_on (ArePairsOf (view c.take.result)) (IsAsked names.PutAll (items_view c.args.others.now)) c.pairs_of.result c.from_residual-in_err-pairs.result c.in_err-pairs.field-0.0 c.pairs_of.ensures c.in_err-pairs.was c.from_residual-in_err-pairs.ensures.1
    (λ event is. (put_all_parts (view c.cache-item.result) (view c.take.result) (items_view c.args.others.now) items event is).1)

pub returns : goal.returns
returns c =
    let items = subst (λ v. items_view c.args.others.now ≡ item (view c.cache-item.result) (item (view v) no_items)) (sym c.take.ensures.taken) (two_items_last c.args.others.now c.cache-item.result c.index-others-1.result (omega arith) c.cache-item.is) in
    put_all_of_parts (view c.cache-item.result) (view c.take.result) (items_view c.args.others.now) items c.in_ok-cache.cache c.in_ok-pairs.pairs c.in_ok-cache.ensures c.in_ok-pairs.ensures
