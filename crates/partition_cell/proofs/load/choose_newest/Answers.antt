use Rattle.std.proofs.Common.{◌≤◌, subst}
use Rattle.std.specs.Prelude.{Contains}
use Rattle.newest_store.specs.Choice.{IsOneOf}
use Rattle.partition_cell.proofs.LoadLemmas.{choice_refused, chosen_there}
use Rattle.partition_cell.proofs.load.choose_newest.Goals as goal

pub returns-in-Ok-One-clause-there : goal.returns-in-Ok-One-clause-there
returns-in-Ok-One-clause-there g c =
    let one : Contains c.args.hosts.now c.in-Ok-One.host × (c.in-Ok-One.file ≤ 1) = subst (IsOneOf c.args.hosts.now) c.in-Ok-One.field-0-is c.in-Ok-One.ensures.one_of in
    chosen_there g.D.Disk.view c.args.hosts.now c.args.disks.now c.newest.new.disks c.in-Ok-One.host c.requires.disks one.0 c.newest.ensures.reads_only

pub returns-in-Err-clause-refused : goal.returns-in-Err-clause-refused
returns-in-Err-clause-refused g c number = rw c.refused_choice.ensures
    (choice_refused g.D.Disk.view c.args.hosts.now number c.args.disks.now c.newest.new.disks c.in-Err.fault c.newest.ensures.reads_only c.in-Err.ensures.refused)
