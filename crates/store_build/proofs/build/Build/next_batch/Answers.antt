use Rattle.std.proofs.Common.{◌≡◌, List, ◌++◌, drop, true, false, Option, ap, ◌∙◌, sym}
use Rattle.std.specs.List.{flat_map}
use Rattle.cache_key.specs.declared.request.Mutation.{Mutation}
use Rattle.cache_model.specs.PlainList.{plain_list}
use Rattle.partition_map.specs.Items.{items_after}
use Rattle.partition_map.specs.declared.item.LastItem.{LastItem}
use Rattle.store_build.proofs.BatchLemmas.{batches_joined}
use Rattle.store_build.proofs.RecordLemmas.{next_made, none_left, some_left}
use Rattle.store_build.proofs.build.Build.next_batch.Goals as goal

pub next_record-requires : goal.next_record-requires
next_record-requires g c =
    let has = c.requires.building in
    let is = has.5 in
    record {
      contents = (
        has.1,
        has.2,
        has.3,
        has.4,
        flat_map (λ (b : List Mutation). b) is.batches,
        ap (λ (o : Option LastItem). flat_map (λ (b : List Mutation). b) is.batches ++ items_after o has.2) c.as_ref.ensures.value ∙ batches_joined (plain_list has.2) is.batches (items_after c.args.self.now.last has.2) is.cut,
      );
    }

pub write_record-requires-clause-building : goal.write_record-requires-clause-building
write_record-requires-clause-building g c =
    let has = c.requires.building in
    let is = has.5 in
    let joined = ap (λ (o : Option LastItem). flat_map (λ (b : List Mutation). b) is.batches ++ items_after o has.2) c.as_ref.ensures.value ∙ batches_joined (plain_list has.2) is.batches (items_after c.args.self.now.last has.2) is.cut in (
      has.0,
      has.2,
      is,
      next_made has.2 _ _ _ c.in-Some.field-0 _ (ap (λ (o : Option LastItem). items_after o has.2) c.as_ref.ensures.value) c.in-Some.is c.deref.ensures.value
          (c.in_ok-bytes.ensures has.1 has.2 (flat_map (λ (b : List Mutation). b) is.batches) has.3 has.4 joined),
    )

pub write_gate-requires-clause-building : goal.write_gate-requires-clause-building
write_gate-requires-clause-building g c =
    let has = c.requires.building in
    let is = has.5 in
    let joined = ap (λ (o : Option LastItem). flat_map (λ (b : List Mutation). b) is.batches ++ items_after o has.2) c.as_ref.ensures.value ∙ batches_joined (plain_list has.2) is.batches (items_after c.args.self.now.last has.2) is.cut in (
      has.0,
      has.2,
      is,
      none_left has.2 _ _ _ (ap (λ (o : Option LastItem). items_after o has.2) c.as_ref.ensures.value) c.in-None.is
          (c.in_ok-bytes.ensures has.1 has.2 (flat_map (λ (b : List Mutation). b) is.batches) has.3 has.4 joined),
    )

pub returns-in_ok-write_record-in-Some-clause-built : goal.returns-in_ok-write_record-in-Some-clause-built
returns-in_ok-write_record-in-Some-clause-built g c header changes caches agrees contents is =
    let joined = ap (λ (o : Option LastItem). flat_map (λ (b : List Mutation). b) is.batches ++ items_after o caches) c.as_ref.ensures.value ∙ batches_joined (plain_list caches) is.batches (items_after c.args.self.now.last caches) is.cut in
    c.in_ok-write_record-in-Some.ensures.built header caches is
    (next_made caches _ _ _ c.in-Some.field-0 _ (ap (λ (o : Option LastItem). items_after o caches) c.as_ref.ensures.value) c.in-Some.is c.deref.ensures.value
    (c.in_ok-bytes.ensures changes caches (flat_map (λ (b : List Mutation). b) is.batches) agrees contents joined))

pub returns-in_ok-write_record-in-Some-clause-next : goal.returns-in_ok-write_record-in-Some-clause-next
returns-in_ok-write_record-in-Some-clause-next g c changes caches header agrees contents is =
    let joined = ap (λ (o : Option LastItem). flat_map (λ (b : List Mutation). b) is.batches ++ items_after o caches) c.as_ref.ensures.value ∙ batches_joined (plain_list caches) is.batches (items_after c.args.self.now.last caches) is.cut in
    let next =
    next_made caches (items_after c.args.self.now.last caches) _ _ c.in-Some.field-0 _ (ap (λ (o : Option LastItem). items_after o caches) c.as_ref.ensures.value) c.in-Some.is c.deref.ensures.value
    (c.in_ok-bytes.ensures changes caches (flat_map (λ (b : List Mutation). b) is.batches) agrees contents joined) in (
      c.in_ok-write_record-in-Some.ensures.last caches next,
      (
        λ whole. let wrong : true ≡ false = sym whole ∙ c.write_record.ensures.open in absurd (cc wrong),
        λ none. absurd (some_left caches _ _ _ next none),
      ),
    )

pub returns-in_ok-write_gate-in-None-clause-built : goal.returns-in_ok-write_gate-in-None-clause-built
returns-in_ok-write_gate-in-None-clause-built g c header changes caches agrees contents is =
    let joined = ap (λ (o : Option LastItem). flat_map (λ (b : List Mutation). b) is.batches ++ items_after o caches) c.as_ref.ensures.value ∙ batches_joined (plain_list caches) is.batches (items_after c.args.self.now.last caches) is.cut in
    c.in_ok-write_gate-in-None.ensures.built header caches is
    (none_left caches _ _ _ (ap (λ (o : Option LastItem). items_after o caches) c.as_ref.ensures.value) c.in-None.is
    (c.in_ok-bytes.ensures changes caches (flat_map (λ (b : List Mutation). b) is.batches) agrees contents joined))

pub returns-in_ok-write_gate-in-None-clause-next : goal.returns-in_ok-write_gate-in-None-clause-next
returns-in_ok-write_gate-in-None-clause-next g c changes caches header agrees contents is =
    let joined = ap (λ (o : Option LastItem). flat_map (λ (b : List Mutation). b) is.batches ++ items_after o caches) c.as_ref.ensures.value ∙ batches_joined (plain_list caches) is.batches (items_after c.args.self.now.last caches) is.cut in
    let none =
    none_left caches (items_after c.args.self.now.last caches) _ _ (ap (λ (o : Option LastItem). items_after o caches) c.as_ref.ensures.value) c.in-None.is
    (c.in_ok-bytes.ensures changes caches (flat_map (λ (b : List Mutation). b) is.batches) agrees contents joined) in (
      ap (λ (o : Option LastItem). items_after o caches) c.write_gate.ensures.last ∙ none ∙ sym (ap (λ (l : List Mutation). drop 64 l) none),
      (λ whole. none, λ empty. c.in_ok-write_gate-in-None.ensures.whole),
    )
