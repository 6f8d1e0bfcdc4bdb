use Rattle.std.proofs.Common.{Some, length, ap, ◌∙◌, refl, arith}
use Rattle.partition_map.specs.Place.{place_count, place_bytes, value_count, value_bytes}
use Rattle.partition_map.proofs.SumLemmas.{weight, total-put, old_from_insert, entries_from_insert}
use Rattle.partition_map.proofs.ValueLemmas.{values-changed}
use Rattle.partition_map.proofs.HiddenLemmas.{hides-shown}
use Rattle.partition_map.proofs.places.Places.put.Goals as goal

pub overflow_add-self : goal.overflow_add-self
overflow_add-self c = omega (arith, c.self.invariant.0, c.requires.counts, ap value_count c.self.view_is)

pub overflow_sub-self-2 : goal.overflow_sub-self-2
overflow_sub-self-2 c =
    let old = old_from_insert c.insert-put.result _ _ c.unwrap-old.ensures c.insert-put.ensures.old in
    let told = c.bytes_in-old_bytes.ensures ∙ ap (λ t. weight place_bytes t c.unwrap-old.result) c.text.ensures.bytes in
    omega (arith, told, ap (weight place_bytes c.args.key) old, total-put place_bytes c.self.inside.entries.entries c.args.key (Some c.args.value) c.insert-put.ensures.was_ordered, c.self.invariant.1, ap length c.text.ensures.bytes, ap length c.text-2.ensures.bytes)

pub invariant_of-self : goal.invariant_of-self
invariant_of-self c =
    let old = old_from_insert c.insert-put.result _ _ c.unwrap-old.ensures c.insert-put.ensures.old in
    let told = c.bytes_in-old_bytes.ensures ∙ ap (λ t. weight place_bytes t c.unwrap-old.result) c.text.ensures.bytes in
    let after = entries_from_insert c.insert-put.result _ _ c.unwrap-old.ensures c.insert-put.ensures.entries in (
      omega (arith, c.count_in-old_count.ensures, ap (weight place_count c.args.key) old, ap value_count after, total-put place_count c.self.inside.entries.entries c.args.key (Some c.args.value) c.insert-put.ensures.was_ordered, c.self.invariant.0),
      omega (arith, told, ap (weight place_bytes c.args.key) old, ap value_bytes after, total-put place_bytes c.self.inside.entries.entries c.args.key (Some c.args.value) c.insert-put.ensures.was_ordered, c.self.invariant.1, ap length c.text.ensures.bytes, ap length c.text-2.ensures.bytes),
      c.insert-put.ensures.ordered,
    )

pub returns-clause-values : goal.returns-clause-values
returns-clause-values c =
    rw (← c.self.view_is) (values-changed _ _ c.args.key (Some (Some c.args.value)) (entries_from_insert c.insert-put.result _ _ c.unwrap-old.ensures c.insert-put.ensures.updates).0)

pub returns-clause-count : goal.returns-clause-count
returns-clause-count c =
    let after = entries_from_insert c.insert-put.result _ _ c.unwrap-old.ensures c.insert-put.ensures.entries in
    omega (arith, ap value_count after, ap value_count c.self.view_is, total-put place_count c.self.inside.entries.entries c.args.key (Some c.args.value) c.insert-put.ensures.was_ordered)

pub returns-clause-bytes : goal.returns-clause-bytes
returns-clause-bytes c =
    let after = entries_from_insert c.insert-put.result _ _ c.unwrap-old.ensures c.insert-put.ensures.entries in
    omega (arith, ap value_bytes after, ap value_bytes c.self.view_is, total-put place_bytes c.self.inside.entries.entries c.args.key (Some c.args.value) c.insert-put.ensures.was_ordered)

pub returns-clause-hidden : goal.returns-clause-hidden
returns-clause-hidden c =
    rw (← c.self.view_is) (hides-shown _ _ c.args.key (Some (Some c.args.value)) (entries_from_insert c.insert-put.result _ _ c.unwrap-old.ensures c.insert-put.ensures.updates).0 refl)
