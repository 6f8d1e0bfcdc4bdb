use Rattle.std.proofs.Common.{[], ◌∷◌, arith}
use Rattle.std.proofs.lemmas.Result.{IfErr-weaker}
use Rattle.std.proofs.lemmas.List.Elements.{Contains-push}
use Rattle.disk_lane.proofs.LaneLemmas.{disk_there}
use Rattle.partition_cell.proofs.OlderLemmas.{lane_joined, fault_later, on_ok}
use Rattle.partition_cell.proofs.older.free_host.Goals as goal

pub free_file-requires-clause-settled : goal.free_file-requires-clause-settled
free_file-requires-clause-settled g c disk at = c.requires.settled 0 disk (omega arith) at

pub free_file-requires-2-clause-disk : goal.free_file-requires-2-clause-disk
free_file-requires-2-clause-disk g c = let many = (c.free_file.ensures.erases (c.args.host ∷ []) (Contains-push [] c.args.host)).as_many in omega (arith, c.requires.disk, many)

pub free_file-requires-2-clause-slot : goal.free_file-requires-2-clause-slot
free_file-requires-2-clause-slot g c = omega (arith, c.requires.slot, c.free_file.ensures.hosts)

pub free_file-requires-2-clause-settled : goal.free_file-requires-2-clause-settled
free_file-requires-2-clause-settled g c disk at =
    let first = disk_there c.args.disks.now c.args.host c.requires.disk in
    c.in_ok-free_file.ensures.settled 1 first.0 disk first.1 at (omega arith) (c.requires.settled 1 first.0 (omega arith) first.1)

pub returns-clause-freed : goal.returns-clause-freed
returns-clause-freed g c = on_ok c.free_file-2.result _ _
    (λ second start hosts done listed are. second start hosts done listed (c.in_ok-free_file.ensures.freed start hosts done listed are))
    c.free_file-2.ensures.freed

pub returns-clause-erases : goal.returns-clause-erases
returns-clause-erases g c hosts listed =
    lane_joined g.D.Disk.view hosts c.args.newest.host c.args.newest.file _ _ _ (c.free_file.ensures.erases hosts listed) (c.free_file-2.ensures.erases hosts listed)

pub returns-clause-refused : goal.returns-clause-refused
returns-clause-refused g c = IfErr-weaker c.free_file-2.result _ _
    (λ fault is. fault_later g.D.Disk.view (c.args.host ∷ []) c.args.newest.host c.args.newest.file _ _ _ fault (c.free_file.ensures.erases (c.args.host ∷ []) (Contains-push [] c.args.host)) is)
    c.free_file-2.ensures.refused
