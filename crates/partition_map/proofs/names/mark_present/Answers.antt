use Rattle.std.proofs.Common.{true, ap, ◌∙◌}
use Rattle.std.specs.Map.{keys_of}
use Rattle.indexmap.proofs.SetLemmas.{keys_insert_entry}
use Rattle.cache_model.specs.Caches.{same}
use Rattle.partition_map.proofs.MarkLemmas.{AreRemarked-written}
use Rattle.partition_map.proofs.SumLemmas.{entries_from_insert}
use Rattle.partition_map.proofs.names.mark_present.Goals as goal

pub returns-clause-keys : goal.returns-clause-keys
returns-clause-keys c =
    ap keys_of (entries_from_insert c.insert-marked.result _ _ c.unwrap.ensures c.insert-marked.ensures.entries)
    ∙ keys_insert_entry same c.args.names.now.entries c.args.name true

pub returns-clause-marks : goal.returns-clause-marks
returns-clause-marks c =
    AreRemarked-written c.args.name true c.args.names.now.entries c.insert-marked.new.self.entries (entries_from_insert c.insert-marked.result _ _ c.unwrap.ensures c.insert-marked.ensures.updates).0
