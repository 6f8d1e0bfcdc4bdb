use Rattle.std.proofs.Common.{◌≡◌, Err, length, ◌<◌, arith, refl, sym, ap, ◌∙◌}
use Rattle.std.proofs.lemmas.Option.{slice_get_read}
use Rattle.disk_lane.proofs.LaneLemmas.{failed_on}
use Rattle.slot_board.specs.Slots.{hosts_of}
use Rattle.partition_cell.specs.Made.{first_header}
use Rattle.partition_cell.proofs.MakeLemmas.{made_kept, made_event, made_lone}
use Rattle.partition_cell.proofs.RefusalLemmas.{making_fault}
use Rattle.partition_cell.proofs.StepLemmas.{call_onward}
use Rattle.partition_cell.proofs.cell.Cell.create.Goals as goal

pub invariant_of-result : goal.invariant_of-result
invariant_of-result g c =
    let many : length c.args.disks.items ≡ hosts_of c.in-Ok.board = omega (arith, c.in-Ok.ensures.hosts, c.len.ensures, c.args.disks.ok) in
    let there : c.args.host < hosts_of c.in-Ok.board = omega (arith, many, c.requires.host) in
    let was = slice_get_read c.args.disks.items _ c.args.host c.index_mut.result.now refl c.requires.host c.index_mut.ensures.value in
    let done = c.in-Ok-make_store.ensures in
    made_kept c.in-Ok-make_store.kind done.spare.0 c.in-Ok.board c.set.new.self c.set-in-Ok-make_store.new.self c.args.host c.in-Ok.ensures.unknown c.in-Ok.ensures.told there c.set.ensures c.set-in-Ok-make_store.ensures
    g.D.Disk.view c.args.disks.items (record { partition = c.args.partition; partitions = c.args.partitions }) many c.requires.least c.requires.most
    _ was c.make_store.new.disk (first_header c.args.partition c.args.partitions c.args.host) refl refl refl
    done.spare.1 c.empty.result c.empty.ensures c.in-Ok-make_store.store done.store.0 done.store.1 done.store.2

pub returns-in-Ok-make_store-clause-event : goal.returns-in-Ok-make_store-clause-event
returns-in-Ok-make_store-clause-event g c =
    let was = slice_get_read c.args.disks.items _ c.args.host c.index_mut.result.now refl c.requires.host c.index_mut.ensures.value in
    made_event g.D.Disk.view c.args.disks.items c.args.host c.index_mut.result.now c.make_store.new.disk was _ c.make_store.ensures.moments
    (call_onward (g.D.Disk.view c.index_mut.result.now) (g.D.Disk.view c.make_store.new.disk) c.make_store.result c.make_store.ensures.cause c.make_store.ensures.tells)

pub returns-in-Err-make_store-clause-refused : goal.returns-in-Err-make_store-clause-refused
returns-in-Err-make_store-clause-refused g c =
    let was = slice_get_read c.args.disks.items _ c.args.host c.index_mut.result.now refl c.requires.host c.index_mut.ensures.value in
    made_event g.D.Disk.view c.args.disks.items c.args.host c.index_mut.result.now c.make_store.new.disk was _ c.make_store.ensures.moments
    (call_onward (g.D.Disk.view c.index_mut.result.now) (g.D.Disk.view c.make_store.new.disk) c.make_store.result c.make_store.ensures.cause c.make_store.ensures.tells)

pub returns-in-Err-make_store-clause-fault : goal.returns-in-Err-make_store-clause-fault
returns-in-Err-make_store-clause-fault g c =
    let was = slice_get_read c.args.disks.items _ c.args.host c.index_mut.result.now refl c.requires.host c.index_mut.ensures.value in
    rw c.refused_cell.ensures
    (making_fault g.D.Disk.view c.args.host c.args.disks.items _ c.in-Err-make_store.refusal
    (λ failed. failed_on g.D.Disk.view c.args.disks.items c.args.host _ c.make_store.new.disk was (c.make_store.ensures.cause.failed (c.in-Err-make_store.is ∙ ap Err failed))))

pub returns-in-Ok-make_store-clause-lone : goal.returns-in-Ok-make_store-clause-lone
returns-in-Ok-make_store-clause-lone g c =
    let many : length c.args.disks.items ≡ hosts_of c.in-Ok.board = omega (arith, c.in-Ok.ensures.hosts, c.len.ensures, c.args.disks.ok) in
    let there : c.args.host < hosts_of c.in-Ok.board = omega (arith, many, c.requires.host) in
    let done = c.in-Ok-make_store.ensures in
    record {
      free = λ h f recorded le other.
          made_lone c.in-Ok-make_store.kind done.spare.0 c.in-Ok.board c.set.new.self c.set-in-Ok-make_store.new.self c.args.host c.in-Ok.ensures.unknown c.in-Ok.ensures.told there c.set.ensures c.set-in-Ok-make_store.ensures
          h f recorded.known le (λ same. other (same.0, same.1 ∙ sym done.store.1));
    }
