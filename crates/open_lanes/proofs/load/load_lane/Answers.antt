use Rattle.std.proofs.Common.{inr, subst, sym, ap, List, ◌∙◌}
use Rattle.partition_cell.specs.Cells.{Cell}
use Rattle.partition_cell.specs.Loaded.{KeepsNewest, StandsThroughout, ErasesBesideNewest}
use Rattle.open_lanes.proofs.LoadedLemmas.{erases_beside}
use Rattle.open_lanes.proofs.load.load_lane.Goals as goal

pub returns-in-Ok-begin-clause-beside : goal.returns-in-Ok-begin-clause-beside
returns-in-Ok-begin-clause-beside g c =
    subst (λ (cell : Cell g.row.D.Denot). ErasesBesideNewest g.D.Disk.view c.args.hosts.now (record { partition = c.args.partition; partitions = c.args.partitions }) c.args.disks.items cell.disks) (sym c.in-Ok-begin.ensures.cell)
    (erases_beside g.D.Disk.view c.args.hosts.now (record { partition = c.args.partition; partitions = c.args.partitions }) c.args.disks.items c.in-Ok.cell c.in-Ok.ensures.loaded c.in-Ok.ensures.of_partition)

pub returns-in-Err-begin-clause-kept : goal.returns-in-Err-begin-clause-kept
returns-in-Err-begin-clause-kept g c =
    subst (λ (disks : List g.row.D.Denot). KeepsNewest g.D.Disk.view c.args.hosts.now (record { partition = c.args.partition; partitions = c.args.partitions }) c.args.disks.items disks)
    (sym (c.into_lane.ensures ∙ ap (λ (cell : Cell g.row.D.Denot). cell.disks) c.in-Err-begin.ensures.back))
    (inr (erases_beside g.D.Disk.view c.args.hosts.now (record { partition = c.args.partition; partitions = c.args.partitions }) c.args.disks.items c.in-Ok.cell c.in-Ok.ensures.loaded c.in-Ok.ensures.of_partition))

pub returns-in-Err-begin-clause-stands : goal.returns-in-Err-begin-clause-stands
returns-in-Err-begin-clause-stands g c =
    subst (λ (disks : List g.row.D.Denot). StandsThroughout g.D.Disk.view c.args.hosts.now (record { partition = c.args.partition; partitions = c.args.partitions }) c.args.disks.items disks)
    (sym (c.into_lane.ensures ∙ ap (λ (cell : Cell g.row.D.Denot). cell.disks) c.in-Err-begin.ensures.back))
    c.in-Ok.ensures.loaded.stands
