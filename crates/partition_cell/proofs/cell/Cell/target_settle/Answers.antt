use Rattle.std.proofs.Common.{◌≡◌, slice_set, Some, length, ◌<◌, arith, refl, sym, subst, ◌∙◌, ap, Err, true, ◌∷◌, []}
use Rattle.std.proofs.lemmas.Option.{slice_get_read}
use Rattle.std.proofs.lemmas.Result.{err_from_is_err_and}
use Rattle.disk_trait.specs.declared.DiskRefusal.TheVariants.{Failed}
use Rattle.partition_cell.specs.declared.moving.Moving.{Moving}
use Rattle.disk_lane.specs.Lanes.{LaneEvent, HasFailedOn}
use Rattle.cache_model.specs.Change.{reset}
use Rattle.partition_map.specs.Extents.{caches_in}
use Rattle.partition_cell.specs.Cells.{Cell, in_flight}
use Rattle.file_kinds.specs.Order.{SurvivesIn}
use Rattle.disk_lane.proofs.LaneLemmas.{some_same, failed_on}
use Rattle.store_build.proofs.BuiltLemmas.{settled_built}
use Rattle.partition_cell.specs.Beyond.{OthersStay}
use Rattle.partition_cell.proofs.BeyondLemmas.{others_moved}
use Rattle.partition_cell.proofs.StepLemmas.{building, build_ended, build_goes, same_blank, call_onward, settled_building}
use Rattle.partition_cell.proofs.cell.Cell.target_settle.Goals as goal

pub index_mut-requires : goal.index_mut-requires
index_mut-requires g c =
    let target = c.self.invariant.moves c.in-Some.moving (sym c.take.ensures.value ∙ c.in-Some.is) in
    omega (arith, c.self.invariant.hosts, target.there, c.self.inside.disks.ok)

pub invariant_of-self : goal.invariant_of-self
invariant_of-self g c =
    let target = c.self.invariant.moves c.in-Some.moving (sym c.take.ensures.value ∙ c.in-Some.is) in
    let here : c.in-Some.moving.host < length c.self.inside.disks.items = omega (arith, c.self.invariant.hosts, target.there) in
    let was = slice_get_read c.self.inside.disks.items _ c.in-Some.moving.host c.index_mut.result.now refl here c.index_mut.ensures.value in
    build_ended g.D.Disk.view _ c.self.invariant c.in-Some.moving.host c.index_mut.result.now was c.settle.new.disk c.in-Some.moving.build.file target.blank (same_blank (g.D.Disk.view c.index_mut.result.now) (g.D.Disk.view c.settle.new.disk) c.in-Some.moving.build.file (target.building c.index_mut.result.now was).blank c.settle.ensures.moments) _ c.take.ensures.after

pub returns-in_err-settle-clause-event : goal.returns-in_err-settle-clause-event
returns-in_err-settle-clause-event g c =
    let target = c.self.invariant.moves c.in-Some.moving (sym c.take.ensures.value ∙ c.in-Some.is) in
    let here : c.in-Some.moving.host < length c.self.inside.disks.items = omega (arith, c.self.invariant.hosts, target.there) in
    let was = slice_get_read c.self.inside.disks.items _ c.in-Some.moving.host c.index_mut.result.now refl here c.index_mut.ensures.value in
    rw (← c.self.view_is) (λ old at.
    let same = some_same c.in-Some.moving old c.self.inside.moving (sym c.take.ensures.value ∙ c.in-Some.is) at in
    subst (λ (o : Moving). LaneEvent g.D.Disk.view o.host c.self.inside.disks.items (slice_set c.self.inside.disks.items c.in-Some.moving.host c.settle.new.disk) (SurvivesIn c.self.inside.board c.self.inside.owner (record { partition = c.self.inside.partition; partitions = c.self.inside.partitions }) (reset (caches_in c.self.inside.map.extents) ∷ []) (in_flight c.self.inside.flight))) same
    (building g.D.Disk.view _ c.self.invariant c.in-Some.moving.host c.index_mut.result.now was c.settle.new.disk c.in-Some.moving.build.file target.blank (same_blank (g.D.Disk.view c.index_mut.result.now) (g.D.Disk.view c.settle.new.disk) c.in-Some.moving.build.file (target.building c.index_mut.result.now was).blank c.settle.ensures.moments) (call_onward (g.D.Disk.view c.index_mut.result.now) (g.D.Disk.view c.settle.new.disk) c.settle.result c.settle.ensures.cause c.settle.ensures.tells)))

pub returns-in_err-settle-clause-failed : goal.returns-in_err-settle-clause-failed
returns-in_err-settle-clause-failed g c =
    let target = c.self.invariant.moves c.in-Some.moving (sym c.take.ensures.value ∙ c.in-Some.is) in
    let here : c.in-Some.moving.host < length c.self.inside.disks.items = omega (arith, c.self.invariant.hosts, target.there) in
    let was = slice_get_read c.self.inside.disks.items _ c.in-Some.moving.host c.index_mut.result.now refl here c.index_mut.ensures.value in
    rw (← c.self.view_is) (λ old at is.
    let p = err_from_is_err_and c.from_residual.result c.from_residual.ensures.1 in
    let e : p.0 ≡ Failed = cc (sym p.1 ∙ is) in
    let same = some_same c.in-Some.moving old c.self.inside.moving (sym c.take.ensures.value ∙ c.in-Some.is) at in
    subst (λ (o : Moving). HasFailedOn g.D.Disk.view o.host c.self.inside.disks.items (slice_set c.self.inside.disks.items c.in-Some.moving.host c.settle.new.disk)) same
    (failed_on g.D.Disk.view c.self.inside.disks.items c.in-Some.moving.host _ c.settle.new.disk was (c.settle.ensures.cause.failed (c.in_err-settle.was ∙ ap Err (sym p.2 ∙ e)))))

pub invariant_of-self-2 : goal.invariant_of-self-2
invariant_of-self-2 g c =
    let target = c.self.invariant.moves c.in-Some.moving (sym c.take.ensures.value ∙ c.in-Some.is) in
    let here : c.in-Some.moving.host < length c.self.inside.disks.items = omega (arith, c.self.invariant.hosts, target.there) in
    let was = slice_get_read c.self.inside.disks.items _ c.in-Some.moving.host c.index_mut.result.now refl here c.index_mut.ensures.value in
    let asked = subst (λ (s : Cell g.row.D.Denot). (moving : Moving) × (s.moving ≡ Some moving) × (moving.build.whole ≡ true)) (sym c.self.view_is) c.requires.moving in
    let whole = ap (λ (m : Moving). m.build.whole) (some_same c.in-Some.moving asked.0 c.self.inside.moving (sym c.take.ensures.value ∙ c.in-Some.is) asked.1) ∙ asked.2 in
    build_goes g.D.Disk.view _ c.self.invariant c.in-Some.moving.host c.index_mut.result.now was c.settle.new.disk c.in-Some.moving.build.file target.blank (same_blank (g.D.Disk.view c.index_mut.result.now) (g.D.Disk.view c.settle.new.disk) c.in-Some.moving.build.file (target.building c.index_mut.result.now was).blank c.settle.ensures.moments)
    c.in-Some.moving target refl refl _ refl refl refl (settled_building (g.D.Disk.view c.index_mut.result.now) _ _ _ _ (target.building c.index_mut.result.now was) c.settle.ensures.moments (c.settle.ensures.seen c.in-Some.moving.build.file))
    (λ yes. settled_built (g.D.Disk.view c.index_mut.result.now) _ _ _ _ (target.building c.index_mut.result.now was) whole c.settle.ensures.moments c.in_ok-settle.ensures.settled (c.settle.ensures.seen c.in-Some.moving.build.file))

pub returns-clause-event : goal.returns-clause-event
returns-clause-event g c =
    let target = c.self.invariant.moves c.in-Some.moving (sym c.take.ensures.value ∙ c.in-Some.is) in
    let here : c.in-Some.moving.host < length c.self.inside.disks.items = omega (arith, c.self.invariant.hosts, target.there) in
    let was = slice_get_read c.self.inside.disks.items _ c.in-Some.moving.host c.index_mut.result.now refl here c.index_mut.ensures.value in
    rw (← c.self.view_is) (λ old at.
    let same = some_same c.in-Some.moving old c.self.inside.moving (sym c.take.ensures.value ∙ c.in-Some.is) at in
    subst (λ (o : Moving). LaneEvent g.D.Disk.view o.host c.self.inside.disks.items (slice_set c.self.inside.disks.items c.in-Some.moving.host c.settle.new.disk) (SurvivesIn c.self.inside.board c.self.inside.owner (record { partition = c.self.inside.partition; partitions = c.self.inside.partitions }) (reset (caches_in c.self.inside.map.extents) ∷ []) (in_flight c.self.inside.flight))) same
    (building g.D.Disk.view _ c.self.invariant c.in-Some.moving.host c.index_mut.result.now was c.settle.new.disk c.in-Some.moving.build.file target.blank (same_blank (g.D.Disk.view c.index_mut.result.now) (g.D.Disk.view c.settle.new.disk) c.in-Some.moving.build.file (target.building c.index_mut.result.now was).blank c.settle.ensures.moments) (call_onward (g.D.Disk.view c.index_mut.result.now) (g.D.Disk.view c.settle.new.disk) c.settle.result c.settle.ensures.cause c.settle.ensures.tells)))

pub returns-clause-settled : goal.returns-clause-settled
returns-clause-settled g c =
    let asked = subst (λ (s : Cell g.row.D.Denot). (moving : Moving) × (s.moving ≡ Some moving) × (moving.build.whole ≡ true)) (sym c.self.view_is) c.requires.moving in
    let whole = ap (λ (m : Moving). m.build.whole) (some_same c.in-Some.moving asked.0 c.self.inside.moving (sym c.take.ensures.value ∙ c.in-Some.is) asked.1) ∙ asked.2 in
    rw (← c.self.view_is) (λ old at.
    let same = some_same c.in-Some.moving old c.self.inside.moving (sym c.take.ensures.value ∙ c.in-Some.is) at in
    (_, refl, ap (λ (m : Moving). m.host) same, ap (λ (m : Moving). m.build.id) same, whole, refl))

pub returns-in_err-settle-clause-others : goal.returns-in_err-settle-clause-others
returns-in_err-settle-clause-others g c =
    let target = c.self.invariant.moves c.in-Some.moving (sym c.take.ensures.value ∙ c.in-Some.is) in
    let here : c.in-Some.moving.host < length c.self.inside.disks.items = omega (arith, c.self.invariant.hosts, target.there) in
    let was = slice_get_read c.self.inside.disks.items _ c.in-Some.moving.host c.index_mut.result.now refl here c.index_mut.ensures.value in
    rw (← c.self.view_is) (λ old at.
    let same = some_same c.in-Some.moving old c.self.inside.moving (sym c.take.ensures.value ∙ c.in-Some.is) at in
    subst (λ (o : Moving). OthersStay g.D.Disk.view o.host c.self.inside.disks.items (slice_set c.self.inside.disks.items c.in-Some.moving.host c.settle.new.disk)) same
    (others_moved g.D.Disk.view c.self.inside.disks.items c.in-Some.moving.host _ c.settle.new.disk was c.in-Some.moving.build.file target.one_of_two _ (same_blank (g.D.Disk.view c.index_mut.result.now) (g.D.Disk.view c.settle.new.disk) c.in-Some.moving.build.file (target.building c.index_mut.result.now was).blank c.settle.ensures.moments)))

pub returns-clause-others : goal.returns-clause-others
returns-clause-others g c =
    let target = c.self.invariant.moves c.in-Some.moving (sym c.take.ensures.value ∙ c.in-Some.is) in
    let here : c.in-Some.moving.host < length c.self.inside.disks.items = omega (arith, c.self.invariant.hosts, target.there) in
    let was = slice_get_read c.self.inside.disks.items _ c.in-Some.moving.host c.index_mut.result.now refl here c.index_mut.ensures.value in
    rw (← c.self.view_is) (λ old at.
    let same = some_same c.in-Some.moving old c.self.inside.moving (sym c.take.ensures.value ∙ c.in-Some.is) at in
    subst (λ (o : Moving). OthersStay g.D.Disk.view o.host c.self.inside.disks.items (slice_set c.self.inside.disks.items c.in-Some.moving.host c.settle.new.disk)) same
    (others_moved g.D.Disk.view c.self.inside.disks.items c.in-Some.moving.host _ c.settle.new.disk was c.in-Some.moving.build.file target.one_of_two _ (same_blank (g.D.Disk.view c.index_mut.result.now) (g.D.Disk.view c.settle.new.disk) c.in-Some.moving.build.file (target.building c.index_mut.result.now was).blank c.settle.ensures.moments)))
