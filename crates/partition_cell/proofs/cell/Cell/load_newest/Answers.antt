use Rattle.std.proofs.Common.{inl, inr, ◌<◌, List, length, sym, subst, arith}
use Rattle.partition_cell.proofs.LoadLemmas.{read_back, refused_back, stands_back, there_again, settled_again, erasure_back, beside_back, erased_back, kept_back, loaded_back}
use Rattle.partition_cell.proofs.cell.Cell.load_newest.Goals as goal

pub find_newest-found-requires-clause-disks : goal.find_newest-found-requires-clause-disks
find_newest-found-requires-clause-disks g c h listed =
    subst (λ (l : List _). h < length l) (sym c.as_mut_slice.ensures.value) (c.requires.hosts h listed)

pub returns-in-Err-clause-refused : goal.returns-in-Err-clause-refused
returns-in-Err-clause-refused g c =
    refused_back g.D.Disk.view c.args.hosts.now (record { partition = c.args.partition; partitions = c.args.partitions }) c.args.disks.items c.as_mut_slice.result.now c.find_newest-found.new.disks c.args.disks.len (omega (arith, c.args.disks.ok.0)) c.as_mut_slice.ensures.value c.find_newest-found.ensures.reads_only c.requires.hosts c.requires.settled
    c.in-Err.refusal c.in-Err.ensures.refused

pub returns-in-Err-clause-stands : goal.returns-in-Err-clause-stands
returns-in-Err-clause-stands g c =
    stands_back g.D.Disk.view c.args.hosts.now (record { partition = c.args.partition; partitions = c.args.partitions }) c.args.disks.items c.as_mut_slice.result.now c.find_newest-found.new.disks c.args.disks.len (omega (arith, c.args.disks.ok.0)) c.as_mut_slice.ensures.value c.find_newest-found.ensures.reads_only c.requires.hosts c.requires.settled

pub returns-in-Err-of-clause-kept : goal.returns-in-Err-of-clause-kept
returns-in-Err-of-clause-kept g c =
    inl (read_back g.D.Disk.view c.args.hosts.now (record { partition = c.args.partition; partitions = c.args.partitions }) c.args.disks.items c.as_mut_slice.result.now c.find_newest-found.new.disks c.args.disks.len (omega (arith, c.args.disks.ok.0)) c.as_mut_slice.ensures.value c.find_newest-found.ensures.reads_only c.requires.hosts c.requires.settled)

pub returns-in-Err-of-clause-stands : goal.returns-in-Err-of-clause-stands
returns-in-Err-of-clause-stands g c =
    stands_back g.D.Disk.view c.args.hosts.now (record { partition = c.args.partition; partitions = c.args.partitions }) c.args.disks.items c.as_mut_slice.result.now c.find_newest-found.new.disks c.args.disks.len (omega (arith, c.args.disks.ok.0)) c.as_mut_slice.ensures.value c.find_newest-found.ensures.reads_only c.requires.hosts c.requires.settled

pub erase_older-requires-clause-disks : goal.erase_older-requires-clause-disks
erase_older-requires-clause-disks g c =
    there_again g.D.Disk.view c.args.hosts.now (record { partition = c.args.partition; partitions = c.args.partitions }) c.args.disks.items c.as_mut_slice.result.now c.find_newest-found.new.disks c.args.disks.len (omega (arith, c.args.disks.ok.0)) c.as_mut_slice.ensures.value c.find_newest-found.ensures.reads_only c.requires.hosts c.requires.settled c.as_mut_slice-2.result.now c.as_mut_slice-2.ensures.value

pub erase_older-requires-clause-settled : goal.erase_older-requires-clause-settled
erase_older-requires-clause-settled g c =
    settled_again g.D.Disk.view c.args.hosts.now (record { partition = c.args.partition; partitions = c.args.partitions }) c.args.disks.items c.as_mut_slice.result.now c.find_newest-found.new.disks c.args.disks.len (omega (arith, c.args.disks.ok.0)) c.as_mut_slice.ensures.value c.find_newest-found.ensures.reads_only c.requires.hosts c.requires.settled c.as_mut_slice-2.result.now c.as_mut_slice-2.ensures.value

pub set-requires-clause-host : goal.set-requires-clause-host
set-requires-clause-host g c =
    let many = c.in-Ok-erase_older.ensures.freed.as_many in
    let within = there_again g.D.Disk.view c.args.hosts.now (record { partition = c.args.partition; partitions = c.args.partitions }) c.args.disks.items c.as_mut_slice.result.now c.find_newest-found.new.disks c.args.disks.len (omega (arith, c.args.disks.ok.0)) c.as_mut_slice.ensures.value c.find_newest-found.ensures.reads_only c.requires.hosts c.requires.settled c.as_mut_slice-2.result.now c.as_mut_slice-2.ensures.value c.in-Ok.found.0 c.in-Ok.ensures.store.0 in
    omega (arith, many, within)

pub invariant_of-result : goal.invariant_of-result
invariant_of-result g c =
    kept_back g.D.Disk.view c.args.hosts.now (record { partition = c.args.partition; partitions = c.args.partitions }) c.args.disks.items c.as_mut_slice.result.now c.find_newest-found.new.disks c.args.disks.len (omega (arith, c.args.disks.ok.0)) c.as_mut_slice.ensures.value c.find_newest-found.ensures.reads_only c.requires.hosts c.requires.settled c.as_mut_slice-2.result.now c.as_mut_slice-2.ensures.value
    c.erase_older.new.disks c.in-Ok.found.0 c.in-Ok.found.1.store c.in-Ok.found.1.contents c.in-Ok.ensures.store.0 c.in-Ok.ensures.store.2 c.in-Ok.ensures.found c.erase_older.ensures.erases c.erase_older.new.board c.set.new.self c.in-Ok-erase_older.ensures.freed c.set.ensures c.requires.least c.requires.most

pub returns-in-Ok-erase_older-clause-loaded : goal.returns-in-Ok-erase_older-clause-loaded
returns-in-Ok-erase_older-clause-loaded g c =
    loaded_back g.D.Disk.view c.args.hosts.now (record { partition = c.args.partition; partitions = c.args.partitions }) c.args.disks.items c.as_mut_slice.result.now c.find_newest-found.new.disks c.args.disks.len (omega (arith, c.args.disks.ok.0)) c.as_mut_slice.ensures.value c.find_newest-found.ensures.reads_only c.requires.hosts c.requires.settled c.as_mut_slice-2.result.now c.as_mut_slice-2.ensures.value
    c.erase_older.new.disks c.in-Ok.found.0 c.in-Ok.found.1.store c.in-Ok.found.1.contents c.in-Ok.ensures.store.0 c.in-Ok.ensures.store.2 c.in-Ok.ensures.found c.erase_older.ensures.erases c.erase_older.new.board c.set.new.self c.in-Ok-erase_older.ensures.freed c.set.ensures

pub returns-in-Err-erase_older-clause-refused : goal.returns-in-Err-erase_older-clause-refused
returns-in-Err-erase_older-clause-refused g c =
    erasure_back g.D.Disk.view c.args.hosts.now (record { partition = c.args.partition; partitions = c.args.partitions }) c.args.disks.items c.as_mut_slice.result.now c.find_newest-found.new.disks c.args.disks.len (omega (arith, c.args.disks.ok.0)) c.as_mut_slice.ensures.value c.find_newest-found.ensures.reads_only c.requires.hosts c.requires.settled c.as_mut_slice-2.result.now c.as_mut_slice-2.ensures.value
    c.erase_older.new.disks c.in-Ok.found.0 c.in-Ok.found.1.store c.in-Ok.found.1.contents c.in-Ok.ensures.store.0 c.in-Ok.ensures.store.2 c.in-Ok.ensures.found c.erase_older.ensures.erases
    c.in-Err-erase_older.refusal c.in-Err-erase_older.ensures.refused

pub returns-in-Err-erase_older-clause-kept : goal.returns-in-Err-erase_older-clause-kept
returns-in-Err-erase_older-clause-kept g c =
    inr (beside_back g.D.Disk.view c.args.hosts.now (record { partition = c.args.partition; partitions = c.args.partitions }) c.args.disks.items c.as_mut_slice.result.now c.find_newest-found.new.disks c.args.disks.len (omega (arith, c.args.disks.ok.0)) c.as_mut_slice.ensures.value c.find_newest-found.ensures.reads_only c.requires.hosts c.requires.settled c.as_mut_slice-2.result.now c.as_mut_slice-2.ensures.value
    c.erase_older.new.disks c.in-Ok.found.0 c.in-Ok.found.1.store c.in-Ok.found.1.contents c.in-Ok.ensures.store.0 c.in-Ok.ensures.store.2 c.in-Ok.ensures.found c.erase_older.ensures.erases)

pub returns-in-Err-erase_older-clause-stands : goal.returns-in-Err-erase_older-clause-stands
returns-in-Err-erase_older-clause-stands g c =
    erased_back g.D.Disk.view c.args.hosts.now (record { partition = c.args.partition; partitions = c.args.partitions }) c.args.disks.items c.as_mut_slice.result.now c.find_newest-found.new.disks c.args.disks.len (omega (arith, c.args.disks.ok.0)) c.as_mut_slice.ensures.value c.find_newest-found.ensures.reads_only c.requires.hosts c.requires.settled c.as_mut_slice-2.result.now c.as_mut_slice-2.ensures.value
    c.erase_older.new.disks c.in-Ok.found.0 c.in-Ok.found.1.store c.in-Ok.found.1.contents c.in-Ok.ensures.store.0 c.in-Ok.ensures.store.2 c.in-Ok.ensures.found c.erase_older.ensures.erases
