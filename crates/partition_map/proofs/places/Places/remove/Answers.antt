use Rattle.std.proofs.Common.{None, ap, ◌∙◌, refl, arith}
use Rattle.partition_map.specs.Place.{place_count, place_bytes, value_count, value_bytes}
use Rattle.partition_map.proofs.SumLemmas.{weight, total-remove}
use Rattle.partition_map.proofs.ValueLemmas.{values-changed}
use Rattle.partition_map.proofs.HiddenLemmas.{hides-shown}
use Rattle.partition_map.proofs.places.Places.remove.Goals as goal

pub overflow_sub-self : goal.overflow_sub-self
overflow_sub-self c =
    let e = ap (weight place_count c.args.key.now) c.remove-old.ensures.value in
    omega (arith, c.count_in.ensures, e, total-remove place_count c.self.inside.entries.entries c.args.key.now, c.self.invariant.0)

pub overflow_sub-self-2 : goal.overflow_sub-self-2
overflow_sub-self-2 c =
    let e = ap (weight place_bytes c.args.key.now) c.remove-old.ensures.value in
    let told = c.bytes_in.ensures ∙ ap (λ t. weight place_bytes t c.remove-old.result) c.text.ensures.bytes in
    omega (arith, told, e, total-remove place_bytes c.self.inside.entries.entries c.args.key.now, c.self.invariant.1)

pub invariant_of-self : goal.invariant_of-self
invariant_of-self c =
    let counted = ap (weight place_count c.args.key.now) c.remove-old.ensures.value in
    let weighed = ap (weight place_bytes c.args.key.now) c.remove-old.ensures.value in
    let told = c.bytes_in.ensures ∙ ap (λ t. weight place_bytes t c.remove-old.result) c.text.ensures.bytes in (
      omega (arith, c.count_in.ensures, counted, ap value_count c.remove-old.ensures.entries, total-remove place_count c.self.inside.entries.entries c.args.key.now, c.self.invariant.0),
      omega (arith, told, weighed, ap value_bytes c.remove-old.ensures.entries, total-remove place_bytes c.self.inside.entries.entries c.args.key.now, c.self.invariant.1),
      c.remove-old.ensures.ordered,
    )

pub returns-clause-values : goal.returns-clause-values
returns-clause-values c =
    rw (← c.self.view_is) (values-changed _ _ c.args.key.now None c.remove-old.ensures.updates.0)

pub returns-clause-hidden : goal.returns-clause-hidden
returns-clause-hidden c =
    rw (← c.self.view_is) (hides-shown _ _ c.args.key.now None c.remove-old.ensures.updates.0 refl)

pub returns-clause-entries : goal.returns-clause-entries
returns-clause-entries c = rw (← c.self.view_is) c.remove-old.ensures.entries

pub returns-clause-found : goal.returns-clause-found
returns-clause-found c = rw (← c.self.view_is) c.remove-old.ensures.updates.0
