use Rattle.std.proofs.Common.{◌≡◌, ℕ, ◌+◌, slice_set, Some, None, length, ◌<◌, arith, refl, sym, subst, ◌∙◌, ap, Err, true, ◌∷◌, []}
use Rattle.std.proofs.lemmas.Option.{slice_get_read}
use Rattle.std.proofs.lemmas.Result.{err_from_is_err_and}
use Rattle.disk_trait.specs.declared.DiskRefusal.TheVariants.{Failed}
use Rattle.partition_cell.specs.declared.moving.Moving.{Moving}
use Rattle.disk_lane.specs.Lanes.{LaneEvent, HasFailedOn}
use Rattle.cache_model.specs.Change.{reset}
use Rattle.partition_map.specs.Extents.{caches_in}
use Rattle.partition_cell.specs.Cells.{Cell, in_flight, target_header}
use Rattle.file_kinds.specs.Order.{SurvivesIn}
use Rattle.disk_lane.proofs.LaneLemmas.{some_same, failed_on}
use Rattle.store_build.proofs.BuiltLemmas.{length-whole, built_length}
use Rattle.partition_cell.specs.Beyond.{OthersStay}
use Rattle.partition_cell.proofs.EnteredLemmas.{other_file}
use Rattle.partition_cell.proofs.BeyondLemmas.{others_moved}
use Rattle.partition_cell.proofs.StepLemmas.{call_onward}
use Rattle.partition_cell.proofs.SealLemmas.{sealing, seal_refused, seal_done, seal_sound, refused_known, done_known}
use Rattle.partition_cell.proofs.cell.Cell.target_seal.Goals as goal

pub set-requires-clause-host : goal.set-requires-clause-host
set-requires-clause-host g c =
    let target = c.self.invariant.moves c.in-Some.moving (sym c.take.ensures.value ∙ c.in-Some.is) in
    target.there

pub set-requires-clause-file : goal.set-requires-clause-file
set-requires-clause-file g c =
    let target = c.self.invariant.moves c.in-Some.moving (sym c.take.ensures.value ∙ c.in-Some.is) in
    target.one_of_two

pub set-requires-clause-version : goal.set-requires-clause-version
set-requires-clause-version g c =
    let target = c.self.invariant.moves c.in-Some.moving (sym c.take.ensures.value ∙ c.in-Some.is) in
    target.below

pub set-requires-2-clause-file : goal.set-requires-2-clause-file
set-requires-2-clause-file g c =
    let target = c.self.invariant.moves c.in-Some.moving (sym c.take.ensures.value ∙ c.in-Some.is) in
    target.one_of_two

pub seal-requires-clause-settled : goal.seal-requires-clause-settled
seal-requires-clause-settled g c m is =
    let target = c.self.invariant.moves c.in-Some.moving (sym c.take.ensures.value ∙ c.in-Some.is) in
    let here : c.in-Some.moving.host < length c.self.inside.disks.items = omega (arith, c.self.invariant.hosts, target.there) in
    let was = slice_get_read c.self.inside.disks.items _ c.in-Some.moving.host c.index_mut.result.now refl here c.index_mut.ensures.value in
    let asked = subst (λ (s : Cell g.row.D.Denot). (moving : Moving) × (s.moving ≡ Some moving) × (moving.build.whole ≡ true) × (moving.settled ≡ true)) (sym c.self.view_is) c.requires.moving in
    let settled = ap (λ (m : Moving). m.settled) (some_same c.in-Some.moving asked.0 c.self.inside.moving (sym c.take.ensures.value ∙ c.in-Some.is) asked.1) ∙ asked.3 in
    let built = target.built settled c.index_mut.result.now was in
    built.each m is ∙ sym (built.each _ ((g.D.Disk.view c.index_mut.result.now).told m is))

pub seal-requires-clause-long : goal.seal-requires-clause-long
seal-requires-clause-long g c m is =
    let target = c.self.invariant.moves c.in-Some.moving (sym c.take.ensures.value ∙ c.in-Some.is) in
    let here : c.in-Some.moving.host < length c.self.inside.disks.items = omega (arith, c.self.invariant.hosts, target.there) in
    let was = slice_get_read c.self.inside.disks.items _ c.in-Some.moving.host c.index_mut.result.now refl here c.index_mut.ensures.value in
    let asked = subst (λ (s : Cell g.row.D.Denot). (moving : Moving) × (s.moving ≡ Some moving) × (moving.build.whole ≡ true) × (moving.settled ≡ true)) (sym c.self.view_is) c.requires.moving in
    let settled = ap (λ (m : Moving). m.settled) (some_same c.in-Some.moving asked.0 c.self.inside.moving (sym c.take.ensures.value ∙ c.in-Some.is) asked.1) ∙ asked.3 in
    let built = target.built settled c.index_mut.result.now was in
    omega (arith, ap length (built.each m is), length-whole (target_header (record { partition = c.self.inside.partition; partitions = c.self.inside.partitions }) c.in-Some.moving) built.batches, built.there, c.in-Some.moving.build.some)

pub invariant_of-self : goal.invariant_of-self
invariant_of-self g c =
    let target = c.self.invariant.moves c.in-Some.moving (sym c.take.ensures.value ∙ c.in-Some.is) in
    let here : c.in-Some.moving.host < length c.self.inside.disks.items = omega (arith, c.self.invariant.hosts, target.there) in
    let was = slice_get_read c.self.inside.disks.items _ c.in-Some.moving.host c.index_mut.result.now refl here c.index_mut.ensures.value in
    let asked = subst (λ (s : Cell g.row.D.Denot). (moving : Moving) × (s.moving ≡ Some moving) × (moving.build.whole ≡ true) × (moving.settled ≡ true)) (sym c.self.view_is) c.requires.moving in
    let settled = ap (λ (m : Moving). m.settled) (some_same c.in-Some.moving asked.0 c.self.inside.moving (sym c.take.ensures.value ∙ c.in-Some.is) asked.1) ∙ asked.3 in
    let built = target.built settled c.index_mut.result.now was in
    seal_refused g.D.Disk.view _ c.self.invariant c.in-Some.moving target c.index_mut.result.now was c.seal.new.disk built c.plain_list_leaves_the_contents.ensures c.set.new.self (record { here = c.set.ensures.here; others = c.set.ensures.others; hosts = c.set.ensures.hosts; told = c.set.ensures.told }) c.seal.ensures.moments _ c.take.ensures.after

pub returns-in_err-seal-clause-event : goal.returns-in_err-seal-clause-event
returns-in_err-seal-clause-event g c =
    let target = c.self.invariant.moves c.in-Some.moving (sym c.take.ensures.value ∙ c.in-Some.is) in
    let here : c.in-Some.moving.host < length c.self.inside.disks.items = omega (arith, c.self.invariant.hosts, target.there) in
    let was = slice_get_read c.self.inside.disks.items _ c.in-Some.moving.host c.index_mut.result.now refl here c.index_mut.ensures.value in
    let asked = subst (λ (s : Cell g.row.D.Denot). (moving : Moving) × (s.moving ≡ Some moving) × (moving.build.whole ≡ true) × (moving.settled ≡ true)) (sym c.self.view_is) c.requires.moving in
    let settled = ap (λ (m : Moving). m.settled) (some_same c.in-Some.moving asked.0 c.self.inside.moving (sym c.take.ensures.value ∙ c.in-Some.is) asked.1) ∙ asked.3 in
    let built = target.built settled c.index_mut.result.now was in
    rw (← c.self.view_is) (λ old at.
    let same = some_same c.in-Some.moving old c.self.inside.moving (sym c.take.ensures.value ∙ c.in-Some.is) at in
    subst (λ (o : Moving). LaneEvent g.D.Disk.view o.host c.self.inside.disks.items (slice_set c.self.inside.disks.items c.in-Some.moving.host c.seal.new.disk) (SurvivesIn c.self.inside.board c.self.inside.owner (record { partition = c.self.inside.partition; partitions = c.self.inside.partitions }) (reset (caches_in c.self.inside.map.extents) ∷ []) (in_flight c.self.inside.flight))) same
    (sealing g.D.Disk.view _ c.self.invariant c.in-Some.moving target c.index_mut.result.now was c.seal.new.disk built c.plain_list_leaves_the_contents.ensures c.set.new.self (record { here = c.set.ensures.here; others = c.set.ensures.others; hosts = c.set.ensures.hosts; told = c.set.ensures.told }) c.seal.ensures.moments (call_onward (g.D.Disk.view c.index_mut.result.now) (g.D.Disk.view c.seal.new.disk) c.seal.result c.seal.ensures.cause c.seal.ensures.tells)))

pub returns-in_err-seal-clause-failed : goal.returns-in_err-seal-clause-failed
returns-in_err-seal-clause-failed g c =
    let target = c.self.invariant.moves c.in-Some.moving (sym c.take.ensures.value ∙ c.in-Some.is) in
    let here : c.in-Some.moving.host < length c.self.inside.disks.items = omega (arith, c.self.invariant.hosts, target.there) in
    let was = slice_get_read c.self.inside.disks.items _ c.in-Some.moving.host c.index_mut.result.now refl here c.index_mut.ensures.value in
    let asked = subst (λ (s : Cell g.row.D.Denot). (moving : Moving) × (s.moving ≡ Some moving) × (moving.build.whole ≡ true) × (moving.settled ≡ true)) (sym c.self.view_is) c.requires.moving in
    let settled = ap (λ (m : Moving). m.settled) (some_same c.in-Some.moving asked.0 c.self.inside.moving (sym c.take.ensures.value ∙ c.in-Some.is) asked.1) ∙ asked.3 in
    let built = target.built settled c.index_mut.result.now was in
    rw (← c.self.view_is) (λ old at is.
    let p = err_from_is_err_and c.from_residual.result c.from_residual.ensures.1 in
    let e : p.0 ≡ Failed = cc (sym p.1 ∙ is) in
    let same = some_same c.in-Some.moving old c.self.inside.moving (sym c.take.ensures.value ∙ c.in-Some.is) at in
    subst (λ (o : Moving). HasFailedOn g.D.Disk.view o.host c.self.inside.disks.items (slice_set c.self.inside.disks.items c.in-Some.moving.host c.seal.new.disk)) same
    (failed_on g.D.Disk.view c.self.inside.disks.items c.in-Some.moving.host _ c.seal.new.disk was (c.seal.ensures.cause.failed (c.in_err-seal.was ∙ ap Err (sym p.2 ∙ e)))))

pub invariant_of-self-2 : goal.invariant_of-self-2
invariant_of-self-2 g c =
    let target = c.self.invariant.moves c.in-Some.moving (sym c.take.ensures.value ∙ c.in-Some.is) in
    let here : c.in-Some.moving.host < length c.self.inside.disks.items = omega (arith, c.self.invariant.hosts, target.there) in
    let was = slice_get_read c.self.inside.disks.items _ c.in-Some.moving.host c.index_mut.result.now refl here c.index_mut.ensures.value in
    let asked = subst (λ (s : Cell g.row.D.Denot). (moving : Moving) × (s.moving ≡ Some moving) × (moving.build.whole ≡ true) × (moving.settled ≡ true)) (sym c.self.view_is) c.requires.moving in
    let settled = ap (λ (m : Moving). m.settled) (some_same c.in-Some.moving asked.0 c.self.inside.moving (sym c.take.ensures.value ∙ c.in-Some.is) asked.1) ∙ asked.3 in
    let built = target.built settled c.index_mut.result.now was in
    seal_done g.D.Disk.view _ c.self.invariant c.in-Some.moving target c.index_mut.result.now was c.seal.new.disk built c.plain_list_leaves_the_contents.ensures c.set.new.self (record { here = c.set.ensures.here; others = c.set.ensures.others; hosts = c.set.ensures.hosts; told = c.set.ensures.told }) c.seal.ensures.moments
    c.supersede.new.self c.set-2.new.self (record { slots = c.supersede.ensures.slots; hosts = c.supersede.ensures.hosts; told = c.supersede.ensures.told })
    (record { here = c.set-2.ensures.here; others = c.set-2.ensures.others; hosts = c.set-2.ensures.hosts; told = c.set-2.ensures.told })
    c.in_ok-seal.ensures.sealed c.finish-self-inside.result c.finish-self-inside.ensures.0 c.finish-self-inside.ensures.1 c.finish-self-inside.ensures.2 None refl _ c.take.ensures.after

pub returns-clause-event : goal.returns-clause-event
returns-clause-event g c =
    let target = c.self.invariant.moves c.in-Some.moving (sym c.take.ensures.value ∙ c.in-Some.is) in
    let here : c.in-Some.moving.host < length c.self.inside.disks.items = omega (arith, c.self.invariant.hosts, target.there) in
    let was = slice_get_read c.self.inside.disks.items _ c.in-Some.moving.host c.index_mut.result.now refl here c.index_mut.ensures.value in
    let asked = subst (λ (s : Cell g.row.D.Denot). (moving : Moving) × (s.moving ≡ Some moving) × (moving.build.whole ≡ true) × (moving.settled ≡ true)) (sym c.self.view_is) c.requires.moving in
    let settled = ap (λ (m : Moving). m.settled) (some_same c.in-Some.moving asked.0 c.self.inside.moving (sym c.take.ensures.value ∙ c.in-Some.is) asked.1) ∙ asked.3 in
    let built = target.built settled c.index_mut.result.now was in
    rw (← c.self.view_is) (λ old at.
    let same = some_same c.in-Some.moving old c.self.inside.moving (sym c.take.ensures.value ∙ c.in-Some.is) at in
    subst (λ (o : Moving). LaneEvent g.D.Disk.view o.host c.self.inside.disks.items (slice_set c.self.inside.disks.items c.in-Some.moving.host c.seal.new.disk) (SurvivesIn c.self.inside.board c.self.inside.owner (record { partition = c.self.inside.partition; partitions = c.self.inside.partitions }) (reset (caches_in c.self.inside.map.extents) ∷ []) (in_flight c.self.inside.flight))) same
    (sealing g.D.Disk.view _ c.self.invariant c.in-Some.moving target c.index_mut.result.now was c.seal.new.disk built c.plain_list_leaves_the_contents.ensures c.set.new.self (record { here = c.set.ensures.here; others = c.set.ensures.others; hosts = c.set.ensures.hosts; told = c.set.ensures.told }) c.seal.ensures.moments (call_onward (g.D.Disk.view c.index_mut.result.now) (g.D.Disk.view c.seal.new.disk) c.seal.result c.seal.ensures.cause c.seal.ensures.tells)))

pub returns-clause-sealed : goal.returns-clause-sealed
returns-clause-sealed g c =
    let target = c.self.invariant.moves c.in-Some.moving (sym c.take.ensures.value ∙ c.in-Some.is) in
    let here : c.in-Some.moving.host < length c.self.inside.disks.items = omega (arith, c.self.invariant.hosts, target.there) in
    let was = slice_get_read c.self.inside.disks.items _ c.in-Some.moving.host c.index_mut.result.now refl here c.index_mut.ensures.value in
    let asked = subst (λ (s : Cell g.row.D.Denot). (moving : Moving) × (s.moving ≡ Some moving) × (moving.build.whole ≡ true) × (moving.settled ≡ true)) (sym c.self.view_is) c.requires.moving in
    let settled = ap (λ (m : Moving). m.settled) (some_same c.in-Some.moving asked.0 c.self.inside.moving (sym c.take.ensures.value ∙ c.in-Some.is) asked.1) ∙ asked.3 in
    let built = target.built settled c.index_mut.result.now was in
    let sound = seal_sound g.D.Disk.view _ c.self.invariant c.in-Some.moving target c.index_mut.result.now was c.seal.new.disk built c.plain_list_leaves_the_contents.ensures c.set.new.self (record { here = c.set.ensures.here; others = c.set.ensures.others; hosts = c.set.ensures.hosts; told = c.set.ensures.told }) c.seal.ensures.moments
    c.supersede.new.self c.set-2.new.self (record { slots = c.supersede.ensures.slots; hosts = c.supersede.ensures.hosts; told = c.supersede.ensures.told })
    (record { here = c.set-2.ensures.here; others = c.set-2.ensures.others; hosts = c.set-2.ensures.hosts; told = c.set-2.ensures.told })
    c.in_ok-seal.ensures.sealed c.finish-self-inside.result c.finish-self-inside.ensures.0 c.finish-self-inside.ensures.1 c.finish-self-inside.ensures.2 in
    rw (← c.self.view_is) (λ old at.
    let same = some_same c.in-Some.moving old c.self.inside.moving (sym c.take.ensures.value ∙ c.in-Some.is) at in (
      ap (λ (m : Moving). m.build.id) same,
      c.finish-self-inside.ensures.1 ∙ ap (λ (m : Moving). m.build.id) same,
      c.finish-self-inside.ensures.0 ∙ ap (λ (m : Moving). m.build.file) same,
      ap (λ (m : Moving). m.host) same,
      record { none = refl; no_doubt = sound },
    ))

pub returns-in_err-seal-clause-known : goal.returns-in_err-seal-clause-known
returns-in_err-seal-clause-known g c =
    let target = c.self.invariant.moves c.in-Some.moving (sym c.take.ensures.value ∙ c.in-Some.is) in
    let here : c.in-Some.moving.host < length c.self.inside.disks.items = omega (arith, c.self.invariant.hosts, target.there) in
    let was = slice_get_read c.self.inside.disks.items _ c.in-Some.moving.host c.index_mut.result.now refl here c.index_mut.ensures.value in
    let asked = subst (λ (s : Cell g.row.D.Denot). (moving : Moving) × (s.moving ≡ Some moving) × (moving.build.whole ≡ true) × (moving.settled ≡ true)) (sym c.self.view_is) c.requires.moving in
    let settled = ap (λ (m : Moving). m.settled) (some_same c.in-Some.moving asked.0 c.self.inside.moving (sym c.take.ensures.value ∙ c.in-Some.is) asked.1) ∙ asked.3 in
    let built = target.built settled c.index_mut.result.now was in
    rw (← c.self.view_is) (refused_known g.D.Disk.view _ c.self.invariant c.in-Some.moving target c.index_mut.result.now was c.seal.new.disk built c.plain_list_leaves_the_contents.ensures c.set.new.self (record { here = c.set.ensures.here; others = c.set.ensures.others; hosts = c.set.ensures.hosts; told = c.set.ensures.told }) c.seal.ensures.moments)

pub returns-clause-known : goal.returns-clause-known
returns-clause-known g c =
    let target = c.self.invariant.moves c.in-Some.moving (sym c.take.ensures.value ∙ c.in-Some.is) in
    let here : c.in-Some.moving.host < length c.self.inside.disks.items = omega (arith, c.self.invariant.hosts, target.there) in
    let was = slice_get_read c.self.inside.disks.items _ c.in-Some.moving.host c.index_mut.result.now refl here c.index_mut.ensures.value in
    let asked = subst (λ (s : Cell g.row.D.Denot). (moving : Moving) × (s.moving ≡ Some moving) × (moving.build.whole ≡ true) × (moving.settled ≡ true)) (sym c.self.view_is) c.requires.moving in
    let settled = ap (λ (m : Moving). m.settled) (some_same c.in-Some.moving asked.0 c.self.inside.moving (sym c.take.ensures.value ∙ c.in-Some.is) asked.1) ∙ asked.3 in
    let built = target.built settled c.index_mut.result.now was in
    rw (← c.self.view_is) (done_known g.D.Disk.view _ c.self.invariant c.in-Some.moving target c.index_mut.result.now was c.seal.new.disk built c.plain_list_leaves_the_contents.ensures c.set.new.self (record { here = c.set.ensures.here; others = c.set.ensures.others; hosts = c.set.ensures.hosts; told = c.set.ensures.told }) c.seal.ensures.moments
    c.supersede.new.self c.set-2.new.self (record { slots = c.supersede.ensures.slots; hosts = c.supersede.ensures.hosts; told = c.supersede.ensures.told })
    (record { here = c.set-2.ensures.here; others = c.set-2.ensures.others; hosts = c.set-2.ensures.hosts; told = c.set-2.ensures.told })
    c.in_ok-seal.ensures.sealed c.finish-self-inside.result c.finish-self-inside.ensures.0 c.finish-self-inside.ensures.1 c.finish-self-inside.ensures.2)

pub returns-clause-plain : goal.returns-clause-plain
returns-clause-plain g c =
    let target = c.self.invariant.moves c.in-Some.moving (sym c.take.ensures.value ∙ c.in-Some.is) in
    let here : c.in-Some.moving.host < length c.self.inside.disks.items = omega (arith, c.self.invariant.hosts, target.there) in
    let was = slice_get_read c.self.inside.disks.items _ c.in-Some.moving.host c.index_mut.result.now refl here c.index_mut.ensures.value in
    let asked = subst (λ (s : Cell g.row.D.Denot). (moving : Moving) × (s.moving ≡ Some moving) × (moving.build.whole ≡ true) × (moving.settled ≡ true)) (sym c.self.view_is) c.requires.moving in
    let settled = ap (λ (m : Moving). m.settled) (some_same c.in-Some.moving asked.0 c.self.inside.moving (sym c.take.ensures.value ∙ c.in-Some.is) asked.1) ∙ asked.3 in
    let built = target.built settled c.index_mut.result.now was in
    rw (← c.self.view_is) (ap (λ (n : ℕ). n + 1) c.finish-self-inside.ensures.2 ∙ built_length (g.D.Disk.view c.index_mut.result.now) _ _ _ _ built)

pub returns-in_err-seal-clause-others : goal.returns-in_err-seal-clause-others
returns-in_err-seal-clause-others g c =
    let target = c.self.invariant.moves c.in-Some.moving (sym c.take.ensures.value ∙ c.in-Some.is) in
    let here : c.in-Some.moving.host < length c.self.inside.disks.items = omega (arith, c.self.invariant.hosts, target.there) in
    let was = slice_get_read c.self.inside.disks.items _ c.in-Some.moving.host c.index_mut.result.now refl here c.index_mut.ensures.value in
    rw (← c.self.view_is) (λ old at.
    let same = some_same c.in-Some.moving old c.self.inside.moving (sym c.take.ensures.value ∙ c.in-Some.is) at in
    subst (λ (o : Moving). OthersStay g.D.Disk.view o.host c.self.inside.disks.items (slice_set c.self.inside.disks.items c.in-Some.moving.host c.seal.new.disk)) same
    (others_moved g.D.Disk.view c.self.inside.disks.items c.in-Some.moving.host _ c.seal.new.disk was c.in-Some.moving.build.file target.one_of_two _ c.seal.ensures.moments))

pub returns-clause-others : goal.returns-clause-others
returns-clause-others g c =
    let target = c.self.invariant.moves c.in-Some.moving (sym c.take.ensures.value ∙ c.in-Some.is) in
    let here : c.in-Some.moving.host < length c.self.inside.disks.items = omega (arith, c.self.invariant.hosts, target.there) in
    let was = slice_get_read c.self.inside.disks.items _ c.in-Some.moving.host c.index_mut.result.now refl here c.index_mut.ensures.value in
    rw (← c.self.view_is) (λ old at.
    let same = some_same c.in-Some.moving old c.self.inside.moving (sym c.take.ensures.value ∙ c.in-Some.is) at in
    subst (λ (o : Moving). OthersStay g.D.Disk.view o.host c.self.inside.disks.items (slice_set c.self.inside.disks.items c.in-Some.moving.host c.seal.new.disk)) same
    (others_moved g.D.Disk.view c.self.inside.disks.items c.in-Some.moving.host _ c.seal.new.disk was c.in-Some.moving.build.file target.one_of_two _ c.seal.ensures.moments))

pub returns-clause-other : goal.returns-clause-other
returns-clause-other g c =
    let target = c.self.invariant.moves c.in-Some.moving (sym c.take.ensures.value ∙ c.in-Some.is) in
    rw (← c.self.view_is) (λ old at here.
    let same = some_same c.in-Some.moving old c.self.inside.moving (sym c.take.ensures.value ∙ c.in-Some.is) at in
    let file = other_file g.D.Disk.view _ c.self.invariant c.in-Some.moving target (ap (λ (m : Moving). m.host) same ∙ here) in
    omega (arith, c.finish-self-inside.ensures.0, file))

pub returns-in_err-seal-clause-told : goal.returns-in_err-seal-clause-told
returns-in_err-seal-clause-told g c =
    let target = c.self.invariant.moves c.in-Some.moving (sym c.take.ensures.value ∙ c.in-Some.is) in
    rw (← c.self.view_is) (omega (arith, c.set.ensures.told, target.next))

pub returns-clause-told : goal.returns-clause-told
returns-clause-told g c =
    let target = c.self.invariant.moves c.in-Some.moving (sym c.take.ensures.value ∙ c.in-Some.is) in
    rw (← c.self.view_is) (omega (arith, c.set.ensures.told, target.next, c.supersede.ensures.told, c.set-2.ensures.told))
