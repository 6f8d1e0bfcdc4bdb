use Rattle.std.proofs.Common.{List}
use Rattle.cache_model.specs.Caches.{Caches}
use Rattle.cache_model.specs.Change.{Change}
use Rattle.cache_model.specs.Contents.{AreContentsAfter}
use Rattle.partition_map.specs.After.{AgreesWith}
use Rattle.record_form.specs.declared.header.Header.{Header}
use Rattle.store_build.specs.Built.{IsBuilding}
use Rattle.build_runs.proofs.contents.write_all.Given as goal

abbrev pub invariant-loop : goal.invariant-loop
invariant-loop g l =
    (header : Header) × (changes : List Change) × (caches : Caches) × AgreesWith changes l.map × AreContentsAfter changes caches × IsBuilding (g.D.Disk.view l.disk) l.build header caches
