use Rattle.std.proofs.Common.{◌≡◌, ap, sym, subst, ◌∙◌}
use Rattle.disk_trait.specs.View.{View}
use Rattle.cluster_commands.specs.OnDisk.{FilesHold, disks_in}
use Rattle.cluster_commands.specs.State.{known_of, store_in}
use Rattle.partition_cell.specs.Cells.{caches_of}
use Rattle.partition_cell.proofs.ListLemmas.{reset_same}
use Rattle.cluster_commands.proofs.StoredLemmas.{held, on_one, law_at}
use Rattle.cluster_commands.proofs.cluster.Opened.is_stored.Goals as goal

pub returns : goal.returns
returns g c = record {
  stored = λ cluster is.
      let seen = c.survives.ensures in
      let law = law_at g.D.Disk.view c.cell.result.now c.args.self.now.kept.cell c.cell.ensures (record { recorded = seen.recorded; survives = seen.survives; whole = seen.whole; most = seen.told; current = seen.current; lone = seen.lone }) in
      let serving = c.requires.serving in
      on_one g.D.Disk.view (disks_in c.args.self.now) (λ (v : View). FilesHold (store_in (known_of cluster)) v) serving.one (λ disk one m image.
      held g.D.Disk.view c.args.self.now.kept.cell cluster disk is.file is.id is.end is.told (reset_same cluster.changes (caches_of c.args.self.now.kept.cell) is.contents) is.flight is.sound.0 is.lone
      serving.number serving.owner law.recorded law.survives law.whole law.most one law.current law.lone m image);
}
