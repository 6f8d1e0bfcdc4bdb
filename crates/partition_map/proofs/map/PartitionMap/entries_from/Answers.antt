use Rattle.std.proofs.Common.{◌++◌, take, ap, ◌∙◌, sym, subst}
use Rattle.std.specs.Option.{option_copied}
use Rattle.partition_map.specs.After.{AgreesWith}
use Rattle.partition_map.specs.Extents.{caches_in}
use Rattle.partition_map.specs.Items.{items_after}
use Rattle.partition_map.proofs.ChangedLemmas.{only_contents}
use Rattle.partition_map.proofs.map.PartitionMap.entries_from.Goals as goal

pub returns : goal.returns
returns c = λ changes caches agrees contents.
    let agreed = subst (AgreesWith changes) (sym c.self.view_is) agrees in
    let shown = caches_in c.self.inside.extents.entries in
    c.in_ok-add_after.ensures
    ∙ ap (λ t. take c.args.most (t ++ items_after (option_copied c.args.after) shown)) c.new-items.ensures.items
    ∙ ap (λ cs. take c.args.most (items_after (option_copied c.args.after) cs)) (only_contents changes shown caches agreed.contents contents)
