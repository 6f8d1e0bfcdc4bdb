use Rattle.std.proofs.Common.{◌++◌, take, ap, ◌∙◌}
use Rattle.std.proofs.lemmas.Result.{on_ok_weaker}
use Rattle.cache_model.specs.PlainList.{plain_list}
use Rattle.partition_map.specs.Extents.{caches_in}
use Rattle.partition_map.proofs.InOrderLemmas.{caches_in-after}
use Rattle.partition_map.proofs.list.add_caches_after.Goals as goal

pub returns : goal.returns
returns c =
    on_ok_weaker c.add_extents.result
    (λ is. is ∙ ap (λ cs. take c.args.most (c.args.items.now.items ++ plain_list cs)) (ap caches_in (c.range.ensures.between tt) ∙ caches_in-after c.args.cache.now c.args.extents.now.entries))
    c.add_extents.ensures
