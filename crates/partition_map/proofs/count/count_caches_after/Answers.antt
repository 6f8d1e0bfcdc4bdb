use Rattle.std.proofs.Common.{◌≡◌, length, ap, ◌∙◌, arith}
use Rattle.cache_model.specs.PlainList.{plain_list}
use Rattle.partition_map.specs.Extents.{caches_in}
use Rattle.partition_map.specs.Items.{caches_after}
use Rattle.partition_map.proofs.InOrderLemmas.{caches_in-after}
use Rattle.partition_map.proofs.CountLemmas.{count-after}
use Rattle.partition_map.proofs.count.count_caches_after.Goals as goal

pub count_extents-requires : goal.count_extents-requires
count_extents-requires c =
    let es = c.args.extents.now.entries in
    let is : caches_in c.range.result ≡ caches_after c.args.cache.now (caches_in es) = ap caches_in (c.range.ensures.between tt) ∙ caches_in-after c.args.cache.now es in
    omega (arith, ap (λ cs. length (plain_list cs)) is, count-after c.args.cache.now (caches_in es), c.requires.fits)

pub returns : goal.returns
returns c =
    c.count_extents.ensures ∙ ap (λ cs. length (plain_list cs)) (ap caches_in (c.range.ensures.between tt) ∙ caches_in-after c.args.cache.now c.args.extents.now.entries)
