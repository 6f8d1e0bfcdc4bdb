use Rattle.std.proofs.Common.{◌≡◌, ◌++◌, [], take, Option, Some, unwrap_or, option_and_then, ap, ◌∙◌, sym}
use Rattle.std.specs.Option.{option_copied}
use Rattle.std.specs.Map.{lookup}
use Rattle.std.proofs.lemmas.Result.{on_ok_weaker}
use Rattle.cache_model.specs.Caches.{same, Pairs}
use Rattle.cache_model.specs.PlainList.{puts_of, plain_list}
use Rattle.cache_model.proofs.ShownLemmas.{same-is_at}
use Rattle.partition_map.specs.Extents.{extent_shown, caches_in}
use Rattle.partition_map.specs.Items.{items_after, caches_after, pairs_after}
use Rattle.partition_map.proofs.InOrderLemmas.{taken-more}
use Rattle.partition_map.proofs.ShownLemmas.{lookup-shown_by}
use Rattle.partition_map.proofs.list.add_after_item.Goals as goal

pub returns-in_ok-add_rest-in-Entry : goal.returns-in_ok-add_rest-in-Entry
returns-in_ok-add_rest-in-Entry c =
    let es = c.args.extents.now.entries in
    let cache = c.in-Entry.entry.cache in
    let key = c.in-Entry.entry.key in
    let old = c.args.items.now.items in
    let found : option_and_then extent_shown (option_copied c.get.result) ≡ lookup (same cache) (caches_in es) = ap (option_and_then extent_shown) (c.get.ensures.value ∙ ap (λ test. lookup test es) (sym (same-is_at cache))) ∙ sym (lookup-shown_by extent_shown es cache c.requires.rises) in
    let puts = puts_of cache (pairs_after key (unwrap_or (lookup (same cache) (caches_in es)) [])) in
    let middle : c.add_rest.new.items.items ≡ take c.args.most (old ++ puts) = c.in_ok-add_rest-in-Entry.ensures.items ∙ ap (λ (o : Option Pairs). take c.args.most (old ++ puts_of cache (pairs_after key (unwrap_or o [])))) found in
    on_ok_weaker c.add_caches_after.result
    (λ is. is ∙ taken-more c.args.most c.add_rest.new.items.items old puts (plain_list (caches_after cache (caches_in es))) middle ∙ sym (ap (λ i. take c.args.most (old ++ items_after (Some i) (caches_in es))) c.in-Entry.is))
    c.add_caches_after.ensures
