use Rattle.std.proofs.Common.{⊎_elim, [], ◌∷◌, subst, ap, Err, ◌∙◌}
use Rattle.std.proofs.lemmas.Option.{slice_get-get_or}
use Rattle.std.proofs.lemmas.List.Elements.{Contains-push}
use Rattle.disk_lane.proofs.LaneLemmas.{some_same}
use Rattle.seal_gate.specs.Seal.{IsSettled}
use Rattle.partition_cell.proofs.OlderLemmas.{lane_none, lane_one, one_freed, newest_left, one_more, erasure_fault, settles}
use Rattle.partition_cell.proofs.StepLemmas.{call_onward}
use Rattle.partition_cell.proofs.older.free_file.Goals as goal

pub returns-then-file-newest-clause-freed : goal.returns-then-file-newest-clause-freed
returns-then-file-newest-clause-freed g c start hosts done listed are =
    one_more g.D.Disk.view hosts c.args.newest.host c.args.newest.file start _ _ done c.args.host c.args.file
    (newest_left g.D.Disk.view hosts c.args.newest.host c.args.newest.file _ start _ _ c.args.host c.args.file c.if-host-newest.true c.if-file-newest.true are)

pub returns-then-file-newest-clause-erases : goal.returns-then-file-newest-clause-erases
returns-then-file-newest-clause-erases g c hosts listed = lane_none g.D.Disk.view hosts c.args.newest.host c.args.newest.file c.args.disks.now

pub returns-then-file-newest-clause-settled : goal.returns-then-file-newest-clause-settled
returns-then-file-newest-clause-settled g c f before now was is le settled = subst (λ (d : _). IsSettled (g.D.Disk.view d) f) (some_same before now _ was is) settled

pub free_of_store-requires-clause-settled : goal.free_of_store-requires-clause-settled
free_of_store-requires-clause-settled g c = c.requires.settled _ (slice_get-get_or c.args.disks.now c.args.host _ c.requires.disk)

pub returns-in-Ok-clause-freed : goal.returns-in-Ok-clause-freed
returns-in-Ok-clause-freed g c start hosts done listed are =
    let was = slice_get-get_or c.args.disks.now c.args.host _ c.requires.disk in
    one_more g.D.Disk.view hosts c.args.newest.host c.args.newest.file start _ _ done c.args.host c.args.file
    (one_freed g.D.Disk.view hosts c.args.newest.host c.args.newest.file c.args.disks.now c.args.host c.args.file _ c.free_of_store.new.disk was
    (record { listed = listed; one_of_two = c.requires.file; other = λ same. ⊎_elim (λ x. x.1 same.1) (λ x. x same.0) c.else-host-newest.either })
    c.free_of_store.ensures.moments (call_onward _ _ c.free_of_store.result c.free_of_store.ensures.cause c.free_of_store.ensures.tells)
    c.in-Ok.kind c.in-Ok.ensures.free.0 c.in-Ok.ensures.free.1 c.in-Ok.ensures.settled c.free_of_store.ensures.others _ c.set.new.self c.set.ensures _ start are)

pub returns-in-Ok-clause-erases : goal.returns-in-Ok-clause-erases
returns-in-Ok-clause-erases g c hosts listed =
    lane_one g.D.Disk.view hosts c.args.newest.host c.args.newest.file c.args.disks.now c.args.host c.args.file _ c.free_of_store.new.disk (slice_get-get_or c.args.disks.now c.args.host _ c.requires.disk)
    (record { listed = listed; one_of_two = c.requires.file; other = λ same. ⊎_elim (λ x. x.1 same.1) (λ x. x same.0) c.else-host-newest.either })
    c.free_of_store.ensures.moments (call_onward _ _ c.free_of_store.result c.free_of_store.ensures.cause c.free_of_store.ensures.tells)

pub returns-in-Ok-clause-settled : goal.returns-in-Ok-clause-settled
returns-in-Ok-clause-settled g c =
    settles g.D.Disk.view (c.args.host ∷ []) c.args.newest.host c.args.newest.file c.args.disks.now c.args.host c.args.file _ c.free_of_store.new.disk (slice_get-get_or c.args.disks.now c.args.host _ c.requires.disk)
    (record { listed = Contains-push [] c.args.host; one_of_two = c.requires.file; other = λ same. ⊎_elim (λ x. x.1 same.1) (λ x. x same.0) c.else-host-newest.either })
    c.free_of_store.ensures.moments (call_onward _ _ c.free_of_store.result c.free_of_store.ensures.cause c.free_of_store.ensures.tells)
    c.in-Ok.ensures.settled c.free_of_store.ensures.others

pub returns-in-Err-clause-erases : goal.returns-in-Err-clause-erases
returns-in-Err-clause-erases g c hosts listed =
    lane_one g.D.Disk.view hosts c.args.newest.host c.args.newest.file c.args.disks.now c.args.host c.args.file _ c.free_of_store.new.disk (slice_get-get_or c.args.disks.now c.args.host _ c.requires.disk)
    (record { listed = listed; one_of_two = c.requires.file; other = λ same. ⊎_elim (λ x. x.1 same.1) (λ x. x same.0) c.else-host-newest.either })
    c.free_of_store.ensures.moments (call_onward _ _ c.free_of_store.result c.free_of_store.ensures.cause c.free_of_store.ensures.tells)

pub returns-in-Err-clause-refused : goal.returns-in-Err-clause-refused
returns-in-Err-clause-refused g c = rw c.refused_cell.ensures
    (erasure_fault g.D.Disk.view (c.args.host ∷ []) c.args.newest.host c.args.newest.file c.args.disks.now c.args.host c.args.file _ c.free_of_store.new.disk (slice_get-get_or c.args.disks.now c.args.host _ c.requires.disk)
    (record { listed = Contains-push [] c.args.host; one_of_two = c.requires.file; other = λ same. ⊎_elim (λ x. x.1 same.1) (λ x. x same.0) c.else-host-newest.either })
    c.free_of_store.ensures.moments (call_onward _ _ c.free_of_store.result c.free_of_store.ensures.cause c.free_of_store.ensures.tells)
    c.in-Err.refusal (λ e. c.free_of_store.ensures.cause.failed (c.in-Err.is ∙ ap Err e)))
