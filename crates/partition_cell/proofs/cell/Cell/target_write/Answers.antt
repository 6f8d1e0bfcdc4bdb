use Rattle.std.proofs.Common.{◌≡◌, slice_set, length, ◌<◌, arith, refl, sym, subst, ◌∙◌, ap, Err, true, false, ◌∷◌, []}
use Rattle.std.proofs.lemmas.Option.{slice_get_read}
use Rattle.std.proofs.lemmas.Result.{err_from_is_err_and}
use Rattle.disk_trait.specs.declared.DiskRefusal.TheVariants.{Failed}
use Rattle.partition_cell.specs.declared.moving.Moving.{Moving}
use Rattle.disk_lane.specs.Lanes.{LaneEvent, HasFailedOn}
use Rattle.cache_model.specs.Change.{reset}
use Rattle.partition_map.specs.Extents.{caches_in}
use Rattle.partition_cell.specs.Cells.{in_flight, target_header}
use Rattle.file_kinds.specs.Order.{SurvivesIn}
use Rattle.disk_lane.proofs.LaneLemmas.{some_same, failed_on}
use Rattle.store_build.specs.declared.build.Progress.TheVariants.{More, Whole}
use Rattle.partition_map.specs.Items.{items_after}
use Rattle.partition_cell.specs.Beyond.{OthersStay}
use Rattle.partition_cell.proofs.BeyondLemmas.{others_moved}
use Rattle.partition_cell.proofs.StepLemmas.{building, build_ended, build_goes, own_onward, fewer_left}
use Rattle.partition_cell.proofs.cell.Cell.target_write.Goals as goal

pub index_mut-requires : goal.index_mut-requires
index_mut-requires g c =
    let target = c.self.invariant.moves c.in-Some.moving (sym c.take.ensures.value ∙ c.in-Some.is) in
    omega (arith, c.self.invariant.hosts, target.there, c.self.inside.disks.ok)

pub invariant_of-self : goal.invariant_of-self
invariant_of-self g c =
    let target = c.self.invariant.moves c.in-Some.moving (sym c.take.ensures.value ∙ c.in-Some.is) in
    let here : c.in-Some.moving.host < length c.self.inside.disks.items = omega (arith, c.self.invariant.hosts, target.there) in
    let was = slice_get_read c.self.inside.disks.items _ c.in-Some.moving.host c.index_mut.result.now refl here c.index_mut.ensures.value in
    build_ended g.D.Disk.view _ c.self.invariant c.in-Some.moving.host c.index_mut.result.now was c.next_batch.new.disk c.in-Some.moving.build.file target.blank c.next_batch.ensures.moments _ c.take.ensures.after

pub returns-in_err-progress-clause-event : goal.returns-in_err-progress-clause-event
returns-in_err-progress-clause-event g c =
    let target = c.self.invariant.moves c.in-Some.moving (sym c.take.ensures.value ∙ c.in-Some.is) in
    let here : c.in-Some.moving.host < length c.self.inside.disks.items = omega (arith, c.self.invariant.hosts, target.there) in
    let was = slice_get_read c.self.inside.disks.items _ c.in-Some.moving.host c.index_mut.result.now refl here c.index_mut.ensures.value in
    rw (← c.self.view_is) (λ old at.
    let same = some_same c.in-Some.moving old c.self.inside.moving (sym c.take.ensures.value ∙ c.in-Some.is) at in
    subst (λ (o : Moving). LaneEvent g.D.Disk.view o.host c.self.inside.disks.items (slice_set c.self.inside.disks.items c.in-Some.moving.host c.next_batch.new.disk) (SurvivesIn c.self.inside.board c.self.inside.owner (record { partition = c.self.inside.partition; partitions = c.self.inside.partitions }) (reset (caches_in c.self.inside.map.extents) ∷ []) (in_flight c.self.inside.flight))) same
    (building g.D.Disk.view _ c.self.invariant c.in-Some.moving.host c.index_mut.result.now was c.next_batch.new.disk c.in-Some.moving.build.file target.blank c.next_batch.ensures.moments (own_onward (g.D.Disk.view c.index_mut.result.now) (g.D.Disk.view c.next_batch.new.disk) c.next_batch.result c.next_batch.ensures.cause c.next_batch.ensures.tells)))

pub returns-in_err-progress-clause-failed : goal.returns-in_err-progress-clause-failed
returns-in_err-progress-clause-failed g c =
    let target = c.self.invariant.moves c.in-Some.moving (sym c.take.ensures.value ∙ c.in-Some.is) in
    let here : c.in-Some.moving.host < length c.self.inside.disks.items = omega (arith, c.self.invariant.hosts, target.there) in
    let was = slice_get_read c.self.inside.disks.items _ c.in-Some.moving.host c.index_mut.result.now refl here c.index_mut.ensures.value in
    rw (← c.self.view_is) (λ old at is.
    let p = err_from_is_err_and c.from_residual.result c.from_residual.ensures.1 in
    let e : p.0 ≡ Failed = cc (sym p.1 ∙ is) in
    let same = some_same c.in-Some.moving old c.self.inside.moving (sym c.take.ensures.value ∙ c.in-Some.is) at in
    subst (λ (o : Moving). HasFailedOn g.D.Disk.view o.host c.self.inside.disks.items (slice_set c.self.inside.disks.items c.in-Some.moving.host c.next_batch.new.disk)) same
    (failed_on g.D.Disk.view c.self.inside.disks.items c.in-Some.moving.host _ c.next_batch.new.disk was (c.next_batch.ensures.cause.failed (c.in_err-progress.was ∙ ap Err (sym p.2 ∙ e)))))

pub invariant_of-self-2 : goal.invariant_of-self-2
invariant_of-self-2 g c =
    let target = c.self.invariant.moves c.in-Some.moving (sym c.take.ensures.value ∙ c.in-Some.is) in
    let here : c.in-Some.moving.host < length c.self.inside.disks.items = omega (arith, c.self.invariant.hosts, target.there) in
    let was = slice_get_read c.self.inside.disks.items _ c.in-Some.moving.host c.index_mut.result.now refl here c.index_mut.ensures.value in
    let kept = c.self.invariant in
    let built = c.in_ok-progress.ensures.built (target_header (record { partition = c.self.inside.partition; partitions = c.self.inside.partitions }) c.in-Some.moving) kept.changes (caches_in c.self.inside.map.extents)
    kept.agrees kept.agrees.contents (target.building c.index_mut.result.now was) in
    build_goes g.D.Disk.view _ c.self.invariant c.in-Some.moving.host c.index_mut.result.now was c.next_batch.new.disk c.in-Some.moving.build.file target.blank c.next_batch.ensures.moments
    c.in-Some.moving target refl refl _ refl c.next_batch.ensures.file c.next_batch.ensures.id built (λ (yes : false ≡ true). absurd (cc yes))

pub returns-clause-event : goal.returns-clause-event
returns-clause-event g c =
    let target = c.self.invariant.moves c.in-Some.moving (sym c.take.ensures.value ∙ c.in-Some.is) in
    let here : c.in-Some.moving.host < length c.self.inside.disks.items = omega (arith, c.self.invariant.hosts, target.there) in
    let was = slice_get_read c.self.inside.disks.items _ c.in-Some.moving.host c.index_mut.result.now refl here c.index_mut.ensures.value in
    rw (← c.self.view_is) (λ old at.
    let same = some_same c.in-Some.moving old c.self.inside.moving (sym c.take.ensures.value ∙ c.in-Some.is) at in
    subst (λ (o : Moving). LaneEvent g.D.Disk.view o.host c.self.inside.disks.items (slice_set c.self.inside.disks.items c.in-Some.moving.host c.next_batch.new.disk) (SurvivesIn c.self.inside.board c.self.inside.owner (record { partition = c.self.inside.partition; partitions = c.self.inside.partitions }) (reset (caches_in c.self.inside.map.extents) ∷ []) (in_flight c.self.inside.flight))) same
    (building g.D.Disk.view _ c.self.invariant c.in-Some.moving.host c.index_mut.result.now was c.next_batch.new.disk c.in-Some.moving.build.file target.blank c.next_batch.ensures.moments (own_onward (g.D.Disk.view c.index_mut.result.now) (g.D.Disk.view c.next_batch.new.disk) c.next_batch.result c.next_batch.ensures.cause c.next_batch.ensures.tells)))

pub next_batch-requires : goal.next_batch-requires
next_batch-requires g c =
    let target = c.self.invariant.moves c.in-Some.moving (sym c.take.ensures.value ∙ c.in-Some.is) in
    let here : c.in-Some.moving.host < length c.self.inside.disks.items = omega (arith, c.self.invariant.hosts, target.there) in
    let was = slice_get_read c.self.inside.disks.items _ c.in-Some.moving.host c.index_mut.result.now refl here c.index_mut.ensures.value in
    let kept = c.self.invariant in
    record { building = (_, kept.changes, caches_in c.self.inside.map.extents, kept.agrees, kept.agrees.contents, target.building c.index_mut.result.now was) }

pub returns-clause-moved : goal.returns-clause-moved
returns-clause-moved g c =
    let target = c.self.invariant.moves c.in-Some.moving (sym c.take.ensures.value ∙ c.in-Some.is) in
    let here : c.in-Some.moving.host < length c.self.inside.disks.items = omega (arith, c.self.invariant.hosts, target.there) in
    let was = slice_get_read c.self.inside.disks.items _ c.in-Some.moving.host c.index_mut.result.now refl here c.index_mut.ensures.value in
    let kept = c.self.invariant in
    let caches = caches_in c.self.inside.map.extents in
    let progress = c.in_ok-progress.ensures.progress in
    let next = c.in_ok-progress.ensures.next kept.changes caches (target_header (record { partition = c.self.inside.partition; partitions = c.self.inside.partitions }) c.in-Some.moving)
    kept.agrees kept.agrees.contents (target.building c.index_mut.result.now was) in
    rw (← c.self.view_is) (λ old at.
    let same = some_same c.in-Some.moving old c.self.inside.moving (sym c.take.ensures.value ∙ c.in-Some.is) at in (
      _,
      refl,
      ap (λ (m : Moving). m.host) same,
      c.next_batch.ensures.id ∙ ap (λ (m : Moving). m.build.id) same,
      λ more. subst (λ (o : Moving). length (items_after c.next_batch.new.self.last caches) < length (items_after o.build.last caches)) same
          (fewer_left (items_after c.in-Some.moving.build.last caches) (items_after c.next_batch.new.self.last caches) c.next_batch.new.self.whole next.0 next.1.1
          (λ whole. let is = progress.1 whole in let wrong : More ≡ Whole = sym more ∙ is in cc wrong)),
      λ whole. progress.0 whole,
    ))

pub returns-in_err-progress-clause-others : goal.returns-in_err-progress-clause-others
returns-in_err-progress-clause-others g c =
    let target = c.self.invariant.moves c.in-Some.moving (sym c.take.ensures.value ∙ c.in-Some.is) in
    let here : c.in-Some.moving.host < length c.self.inside.disks.items = omega (arith, c.self.invariant.hosts, target.there) in
    let was = slice_get_read c.self.inside.disks.items _ c.in-Some.moving.host c.index_mut.result.now refl here c.index_mut.ensures.value in
    rw (← c.self.view_is) (λ old at.
    let same = some_same c.in-Some.moving old c.self.inside.moving (sym c.take.ensures.value ∙ c.in-Some.is) at in
    subst (λ (o : Moving). OthersStay g.D.Disk.view o.host c.self.inside.disks.items (slice_set c.self.inside.disks.items c.in-Some.moving.host c.next_batch.new.disk)) same
    (others_moved g.D.Disk.view c.self.inside.disks.items c.in-Some.moving.host _ c.next_batch.new.disk was c.in-Some.moving.build.file target.one_of_two _ c.next_batch.ensures.moments))

pub returns-clause-others : goal.returns-clause-others
returns-clause-others g c =
    let target = c.self.invariant.moves c.in-Some.moving (sym c.take.ensures.value ∙ c.in-Some.is) in
    let here : c.in-Some.moving.host < length c.self.inside.disks.items = omega (arith, c.self.invariant.hosts, target.there) in
    let was = slice_get_read c.self.inside.disks.items _ c.in-Some.moving.host c.index_mut.result.now refl here c.index_mut.ensures.value in
    rw (← c.self.view_is) (λ old at.
    let same = some_same c.in-Some.moving old c.self.inside.moving (sym c.take.ensures.value ∙ c.in-Some.is) at in
    subst (λ (o : Moving). OthersStay g.D.Disk.view o.host c.self.inside.disks.items (slice_set c.self.inside.disks.items c.in-Some.moving.host c.next_batch.new.disk)) same
    (others_moved g.D.Disk.view c.self.inside.disks.items c.in-Some.moving.host _ c.next_batch.new.disk was c.in-Some.moving.build.file target.one_of_two _ c.next_batch.ensures.moments))
