use Rattle.std.proofs.Common.{◌++◌, take, ap, ◌∙◌, sym}
use Rattle.std.specs.Option.{option_copied}
use Rattle.std.proofs.lemmas.Result.{on_ok_weaker}
use Rattle.cache_model.specs.PlainList.{plain_list}
use Rattle.partition_map.specs.Extents.{caches_in}
use Rattle.partition_map.specs.Items.{items_after}
use Rattle.partition_map.proofs.InOrderLemmas.{between-all}
use Rattle.partition_map.proofs.list.add_after.Goals as goal

pub returns-in-None : goal.returns-in-None
returns-in-None c =
    let es = c.args.extents.now.entries in
    on_ok_weaker c.add_extents.result
    (λ is. is ∙ ap (λ t. take c.args.most (c.args.items.now.items ++ plain_list (caches_in t))) (c.range.ensures.between tt ∙ between-all es) ∙ sym (ap (λ o. take c.args.most (c.args.items.now.items ++ items_after (option_copied o) (caches_in es))) c.in-None.is))
    c.add_extents.ensures
