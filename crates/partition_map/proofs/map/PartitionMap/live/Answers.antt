use Rattle.std.proofs.Common.{◌∙◌, ap}
use Rattle.cache_model.specs.PlainList.{live}
use Rattle.partition_map.specs.Extents.{caches_in}
use Rattle.partition_map.proofs.ChangedLemmas.{only_contents}
use Rattle.partition_map.proofs.map.PartitionMap.live.Goals as goal

pub returns-clause-live : goal.returns-clause-live
returns-clause-live c = λ changes caches agrees contents.
    c.build_length.ensures.kept ∙ ap live (only_contents changes (caches_in c.args.self.now.extents) caches agrees.contents contents)
