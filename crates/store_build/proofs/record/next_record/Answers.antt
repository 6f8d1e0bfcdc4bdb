use Rattle.std.proofs.Common.{List, length, slice_get, option_copied, ap, ◌∙◌, sym, arith, ◌-◌}
use Rattle.std.proofs.lemmas.List.{length-take}
use Rattle.cache_key.specs.declared.request.Mutation.{Mutation}
use Rattle.partition_map.specs.Items.{items_after}
use Rattle.store_build.proofs.RecordLemmas.{batch_plain, is_next}
use Rattle.store_build.proofs.record.next_record.Goals as goal

pub record_of-requires-clause-most : goal.record_of-requires-clause-most
record_of-requires-clause-most c =
    let has = c.requires.contents in
    let is = c.in_ok-items.ensures has.0 has.1 has.2 has.3 in
    omega (arith, ap length is, length-take 64 (items_after (option_copied c.args.after) has.1))

pub record_of-requires-clause-plain : goal.record_of-requires-clause-plain
record_of-requires-clause-plain c =
    let has = c.requires.contents in
    batch_plain has.1 has.4 (items_after (option_copied c.args.after) has.1) c.in_ok-items.items.items has.5 (c.in_ok-items.ensures has.0 has.1 has.2 has.3)

pub returns : goal.returns
returns c changes caches before agrees contents joined =
    is_next caches contents.names_rise contents.keys_rise before (items_after (option_copied c.args.after) caches) c.in_ok-items.items.items c.in-Some.item.now c.in_ok-bytes.bytes.items c.in_ok-last.last joined
    (c.in_ok-items.ensures changes caches agrees contents)
    (ap (λ (l : List Mutation). slice_get l (length l - 1)) (sym c.deref.ensures.value) ∙ sym c.last.ensures.value ∙ ap option_copied c.in-Some.is)
    c.in_ok-last.ensures c.in_ok-bytes.ensures.limits c.in_ok-bytes.ensures.text
