use Rattle.std.proofs.Common.{arith, ap, ◌∙◌}
use Rattle.partition_cell.specs.Cells.{Cell}
use Rattle.cluster_commands.specs.OnDisk.{disks_in}
use Rattle.cluster_commands.proofs.FilesLemmas.{restarted_slice}
use Rattle.cluster_commands.proofs.command.stop.Goals as goal

pub returns-clause-restarted : goal.returns-clause-restarted
returns-clause-restarted g c =
    restarted_slice g.D.Disk.view (disks_in c.args.cluster) c.as_mut_slice.result.now c.into_lane-disks.result.items c.restart_lane.new.disks c.into_lane-disks.result.len (omega (arith, c.into_lane-disks.result.ok.0))
    (c.into_lane-disks.ensures ∙ ap (λ (x : Cell _). x.disks) c.into_cell.ensures) c.requires.one c.as_mut_slice.ensures.value c.restart_lane.ensures.one c.restart_lane.ensures.restarted
