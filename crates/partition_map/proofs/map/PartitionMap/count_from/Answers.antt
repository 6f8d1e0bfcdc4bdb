use Rattle.std.proofs.Common.{length, Some, ap, ◌∙◌, sym, subst}
use Rattle.std.specs.Option.{option_copied}
use Rattle.cache_model.specs.PlainList.{plain_list}
use Rattle.partition_map.specs.After.{AgreesWith}
use Rattle.partition_map.specs.Extents.{caches_in}
use Rattle.partition_map.specs.Items.{items_after}
use Rattle.partition_map.proofs.ChangedLemmas.{only_contents}
use Rattle.partition_map.proofs.map.PartitionMap.count_from.Goals as goal

pub returns-in-Some : goal.returns-in-Some
returns-in-Some c = λ changes caches agrees contents.
    let agreed = subst (AgreesWith changes) (sym c.self.view_is) agrees in
    let shown = caches_in c.self.inside.extents.entries in
    c.count_after_item.ensures
    ∙ ap (λ cs. length (items_after (Some c.in-Some.item.now) cs)) (only_contents changes shown caches agreed.contents contents)
    ∙ sym (ap (λ o. length (items_after (option_copied o) caches)) c.in-Some.is)

pub returns-in-None : goal.returns-in-None
returns-in-None c = λ changes caches agrees contents.
    let agreed = subst (AgreesWith changes) (sym c.self.view_is) agrees in
    let shown = caches_in c.self.inside.extents.entries in
    c.self.invariant.0.items
    ∙ ap (λ cs. length (plain_list cs)) (only_contents changes shown caches agreed.contents contents)
    ∙ sym (ap (λ o. length (items_after (option_copied o) caches)) c.in-None.is)
