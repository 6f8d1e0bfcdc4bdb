use Rattle.std.proofs.Common.{◌≡◌, ◌+◌, [], length, Option, Some, unwrap_or, option_and_then, ap, ◌∙◌, sym, arith}
use Rattle.std.specs.Option.{option_copied}
use Rattle.std.specs.Map.{lookup}
use Rattle.std.proofs.lemmas.List.{length-append}
use Rattle.cache_model.specs.Caches.{same, Pairs}
use Rattle.cache_model.specs.PlainList.{puts_of, plain_list}
use Rattle.cache_model.specs.Size.{pairs_in}
use Rattle.cache_model.proofs.GrowthLemmas.{length-puts_of}
use Rattle.cache_model.proofs.ShownLemmas.{same-is_at}
use Rattle.partition_map.specs.declared.item.LastItem.TheVariants.{Entry}
use Rattle.partition_map.specs.Extents.{extent_shown, caches_in}
use Rattle.partition_map.specs.Items.{items_after, caches_after, pairs_after}
use Rattle.partition_map.proofs.CountLemmas.{count-after, rest-fewer}
use Rattle.partition_map.proofs.ShownLemmas.{lookup-shown_by}
use Rattle.partition_map.proofs.count.count_after_item.Goals as goal

pub overflow_add-result : goal.overflow_add-result
overflow_add-result c =
    let es = c.args.extents.now.entries in
    let cache = c.in-Entry.entry.cache in
    let key = c.in-Entry.entry.key in
    let found : option_and_then extent_shown (option_copied c.get.result) ≡ lookup (same cache) (caches_in es) = ap (option_and_then extent_shown) (c.get.ensures.value ∙ ap (λ test. lookup test es) (sym (same-is_at cache))) ∙ sym (lookup-shown_by extent_shown es cache c.requires.rises) in
    let rest : c.count_rest-rest.result ≡ length (pairs_after key (pairs_in (caches_in es) cache)) = c.count_rest-rest.ensures ∙ ap (λ (o : Option Pairs). length (pairs_after key (unwrap_or o []))) found in
    omega (arith, rest, rest-fewer cache key (caches_in es), c.count_caches_after.ensures, count-after cache (caches_in es), c.requires.fits)

pub returns-in-Entry : goal.returns-in-Entry
returns-in-Entry c =
    let es = c.args.extents.now.entries in
    let entry = c.in-Entry.entry in
    let cache = c.in-Entry.entry.cache in
    let key = c.in-Entry.entry.key in
    let found : option_and_then extent_shown (option_copied c.get.result) ≡ lookup (same cache) (caches_in es) = ap (option_and_then extent_shown) (c.get.ensures.value ∙ ap (λ test. lookup test es) (sym (same-is_at cache))) ∙ sym (lookup-shown_by extent_shown es cache c.requires.rises) in
    let rest : c.count_rest-rest.result ≡ length (pairs_after key (pairs_in (caches_in es) cache)) = c.count_rest-rest.ensures ∙ ap (λ (o : Option Pairs). length (pairs_after key (unwrap_or o []))) found in
    let puts = puts_of cache (pairs_after key (pairs_in (caches_in es) cache)) in
    let later = plain_list (caches_after cache (caches_in es)) in
    let both : length (items_after (Some (Entry entry)) (caches_in es)) ≡ length puts + length later = length-append puts later in
    omega (arith, rest, c.count_caches_after.ensures, both, length-puts_of cache (pairs_after key (pairs_in (caches_in es) cache)), ap (λ i. length (items_after (Some i) (caches_in es))) c.in-Entry.is)
