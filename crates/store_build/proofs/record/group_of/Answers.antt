use Rattle.std.proofs.Common.{[], ◌++◌, reverse, unwrap_or, ap, ◌∙◌, arith, Option, option_to_list}
use Rattle.std.proofs.lemmas.List.{reverse-reverse}
use Rattle.cache_key.specs.declared.request.Mutation.{Mutation}
use Rattle.record_form.proofs.GroupLengthLemmas.{length_group}
use Rattle.store_build.proofs.RecordLemmas.{next_popped}
use Rattle.store_build.proofs.record.group_of.Goals as goal

pub loop-item-init : goal.loop-item-init
loop-item-init c = record { joined = ap reverse c.reverse.ensures.items ∙ reverse-reverse c.args.items.items; short = omega (arith, length_group []) }

pub with_item-requires-clause-plain : goal.with_item-requires-clause-plain
with_item-requires-clause-plain c =
    next_popped (unwrap_or c.loop-item.group []) c.loop-item.items.items c.pop.new.self.items c.args.items.items c.in-Some.item c.loop-item.invariant.joined
    (c.pop.ensures.items ∙ ap (λ (o : Option Mutation). c.pop.new.self.items ++ option_to_list o) c.in-Some.is)
    c.requires.plain
