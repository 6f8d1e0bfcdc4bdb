use Rattle.std.proofs.Common.{◌≡◌, ℕ, Some, slice_get, subst, ap}
use Rattle.std.proofs.lemmas.Result.{IfOk-weaker, IfErr-weaker}
use Rattle.partition_cell.specs.Cells.{Cell}
use Rattle.cluster_commands.proofs.FilesLemmas.{settled_first}
use Rattle.cluster_commands.proofs.FoundLemmas.{only_host}
use Rattle.cluster_commands.proofs.KnownLemmas.{refused_known, refused_lane, loaded_known, loaded_lane}
use Rattle.cluster_commands.proofs.partition.load_partition.Goals as goal

pub load_newest-requires-clause-settled : goal.load_newest-requires-clause-settled
load_newest-requires-clause-settled g c h f disk listed le at =
    settled_first g.D.Disk.view c.args.disks.items c.requires.settled f disk le (subst (λ (k : ℕ). slice_get c.args.disks.items k ≡ Some disk) (only_host h listed) at)

pub returns-in-Ok-clause-lane : goal.returns-in-Ok-clause-lane
returns-in-Ok-clause-lane g c = IfOk-weaker c.begin_trail.result _ _
    (λ kept is. loaded_lane g.D.Disk.view c.args.disks.items kept.cell.disks c.requires.one c.in-Ok.cell (ap (λ (x : Cell _). x.disks) is.0) c.in-Ok.ensures.loaded)
    c.begin_trail.ensures.begun

pub returns-in-Ok-clause-known : goal.returns-in-Ok-clause-known
returns-in-Ok-clause-known g c = IfErr-weaker c.begin_trail.result _ _
    (λ refused is. loaded_known g.D.Disk.view c.args.disks.items refused.1.items c.requires.one c.in-Ok.cell is.1 c.in-Ok.ensures.loaded c.requires.settled)
    c.begin_trail.ensures.back

pub returns-in-Ok-clause-back : goal.returns-in-Ok-clause-back
returns-in-Ok-clause-back g c = IfErr-weaker c.begin_trail.result _ _
    (λ refused is. loaded_lane g.D.Disk.view c.args.disks.items refused.1.items c.requires.one c.in-Ok.cell is.1 c.in-Ok.ensures.loaded)
    c.begin_trail.ensures.back

pub returns-in-Err-clause-known : goal.returns-in-Err-clause-known
returns-in-Err-clause-known g c = refused_known g.D.Disk.view c.args.disks.items c.in-Err.refused.1.items c.requires.one c.in-Err.ensures.kept c.requires.settled c.in-Err.ensures.stands

pub returns-in-Err-clause-back : goal.returns-in-Err-clause-back
returns-in-Err-clause-back g c = refused_lane g.D.Disk.view c.args.disks.items c.in-Err.refused.1.items c.requires.one c.in-Err.ensures.kept
