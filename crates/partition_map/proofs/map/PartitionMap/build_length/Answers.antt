use Rattle.std.proofs.Common.{◌∙◌, ap}
use Rattle.cache_model.specs.PlainList.{live}
use Rattle.partition_map.specs.Extents.{Maps, caches_in}
use Rattle.partition_map.proofs.ChangedLemmas.{live_kept}
use Rattle.partition_map.proofs.map.PartitionMap.build_length.Goals as goal

pub returns-clause-kept : goal.returns-clause-kept
returns-clause-kept c =
    live_kept c.self.inside.extents.entries c.self.inside.items c.self.inside.bytes c.div_ceil-records.result c.self.invariant.0 c.div_ceil-records.ensures ∙ ap (λ (m : Maps). live (caches_in m.extents)) c.self.view_is
