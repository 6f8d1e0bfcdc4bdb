use Rattle.std.proofs.Common.{◌≡◌, ℕ, slice_get, slice_set, length, ◌<◌, arith, refl, sym, subst, ◌∙◌, ap, Err, [], ◌∷◌}
use Rattle.std.proofs.lemmas.Option.{slice_get_read}
use Rattle.call_trail.specs.declared.refusal.CallRefusal.TheVariants as calls
use Rattle.disk_lane.specs.Lanes.{HasFailedOn}
use Rattle.disk_lane.proofs.LaneLemmas.{some_same, failed_on}
use Rattle.record_form.specs.GroupText.{tail_text}
use Rattle.partition_cell.specs.Cells.{Cell, IsSoundCell}
use Rattle.partition_cell.proofs.BeyondLemmas.{others_moved}
use Rattle.partition_cell.proofs.CommitLemmas.{resting, header, committing, kept_in_flight, kept_longer}
use Rattle.partition_cell.proofs.RefusalLemmas.{call_fault, call_no_memory}
use Rattle.partition_cell.proofs.StepLemmas.{call_onward}
use Rattle.partition_cell.proofs.cell.Cell.commit.Goals as goal

pub append-requires-clause-at_rest : goal.append-requires-clause-at_rest
append-requires-clause-at_rest g c =
    let sound = subst (λ (s : Cell g.row.D.Denot). IsSoundCell s) (sym c.self.view_is) c.requires.sound in
    let still = ap (λ (s : Cell g.row.D.Denot). s.moving) c.self.view_is ∙ c.requires.still in
    let here : c.self.inside.owner < length c.self.inside.disks.items = omega (arith, c.self.invariant.hosts, c.self.invariant.ordered.there) in
    let was = slice_get_read c.self.inside.disks.items _ c.self.inside.owner c.index_mut.result.now refl here c.index_mut.ensures.value in
    let r = resting g.D.Disk.view _ c.self.invariant sound still c.prepared.inside.mutation _ was c.index_mut.result.now in
    (_, r.groups, r.at_rest)

pub invariant_of-self : goal.invariant_of-self
invariant_of-self g c =
    let sound = subst (λ (s : Cell g.row.D.Denot). IsSoundCell s) (sym c.self.view_is) c.requires.sound in
    let still = ap (λ (s : Cell g.row.D.Denot). s.moving) c.self.view_is ∙ c.requires.still in
    let here : c.self.inside.owner < length c.self.inside.disks.items = omega (arith, c.self.invariant.hosts, c.self.invariant.ordered.there) in
    let was = slice_get_read c.self.inside.disks.items _ c.self.inside.owner c.index_mut.result.now refl here c.index_mut.ensures.value in
    let mutation = c.prepared.inside.mutation in
    let spelled : c.deref.result.now ≡ tail_text (mutation ∷ []) = c.deref.ensures.value ∙ c.prepared.invariant.1 in
    let r = resting g.D.Disk.view _ c.self.invariant sound still mutation _ was c.append.new.disk in
    let all = c.append.ensures.moments (header g.D.Disk.view _ c.self.invariant sound still mutation _ was c.append.new.disk) r.groups (mutation ∷ []) c.prepared.invariant.0 spelled r.at_rest in
    let kept = c.self.invariant in
    kept_longer g.D.Disk.view _ kept sound still mutation _ was c.append.new.disk all c.append.new.self c.append.ensures.file c.append.ensures.id
    (c.in-Ok.ensures.appended _ r.groups (mutation ∷ []) c.prepared.invariant.0 spelled r.at_rest) c.apply.new.self (c.apply.ensures kept.changes kept.agrees) _ sound.none

pub returns-in-Ok-clause-event : goal.returns-in-Ok-clause-event
returns-in-Ok-clause-event g c =
    let sound = subst (λ (s : Cell g.row.D.Denot). IsSoundCell s) (sym c.self.view_is) c.requires.sound in
    let still = ap (λ (s : Cell g.row.D.Denot). s.moving) c.self.view_is ∙ c.requires.still in
    let here : c.self.inside.owner < length c.self.inside.disks.items = omega (arith, c.self.invariant.hosts, c.self.invariant.ordered.there) in
    let was = slice_get_read c.self.inside.disks.items _ c.self.inside.owner c.index_mut.result.now refl here c.index_mut.ensures.value in
    let mutation = c.prepared.inside.mutation in
    let spelled : c.deref.result.now ≡ tail_text (mutation ∷ []) = c.deref.ensures.value ∙ c.prepared.invariant.1 in
    let r = resting g.D.Disk.view _ c.self.invariant sound still mutation _ was c.append.new.disk in
    let all = c.append.ensures.moments (header g.D.Disk.view _ c.self.invariant sound still mutation _ was c.append.new.disk) r.groups (mutation ∷ []) c.prepared.invariant.0 spelled r.at_rest in
    rw (← c.self.view_is, ← c.prepared.view_is) (committing g.D.Disk.view _ c.self.invariant sound still mutation _ was c.append.new.disk all
    (call_onward (g.D.Disk.view c.index_mut.result.now) (g.D.Disk.view c.append.new.disk) c.append.result c.append.ensures.cause c.append.ensures.tells))

pub invariant_of-self-in-Err : goal.invariant_of-self-in-Err
invariant_of-self-in-Err g c =
    let sound = subst (λ (s : Cell g.row.D.Denot). IsSoundCell s) (sym c.self.view_is) c.requires.sound in
    let still = ap (λ (s : Cell g.row.D.Denot). s.moving) c.self.view_is ∙ c.requires.still in
    let here : c.self.inside.owner < length c.self.inside.disks.items = omega (arith, c.self.invariant.hosts, c.self.invariant.ordered.there) in
    let was = slice_get_read c.self.inside.disks.items _ c.self.inside.owner c.index_mut.result.now refl here c.index_mut.ensures.value in
    let mutation = c.prepared.inside.mutation in
    let spelled : c.deref.result.now ≡ tail_text (mutation ∷ []) = c.deref.ensures.value ∙ c.prepared.invariant.1 in
    let r = resting g.D.Disk.view _ c.self.invariant sound still mutation _ was c.append.new.disk in
    let all = c.append.ensures.moments (header g.D.Disk.view _ c.self.invariant sound still mutation _ was c.append.new.disk) r.groups (mutation ∷ []) c.prepared.invariant.0 spelled r.at_rest in
    kept_in_flight g.D.Disk.view _ c.self.invariant sound still mutation _ was c.append.new.disk all c.append.new.self c.in-Err.ensures.refused c.set_in_flight.new.flight c.set_in_flight.ensures

pub returns-clause-event : goal.returns-clause-event
returns-clause-event g c =
    let sound = subst (λ (s : Cell g.row.D.Denot). IsSoundCell s) (sym c.self.view_is) c.requires.sound in
    let still = ap (λ (s : Cell g.row.D.Denot). s.moving) c.self.view_is ∙ c.requires.still in
    let here : c.self.inside.owner < length c.self.inside.disks.items = omega (arith, c.self.invariant.hosts, c.self.invariant.ordered.there) in
    let was = slice_get_read c.self.inside.disks.items _ c.self.inside.owner c.index_mut.result.now refl here c.index_mut.ensures.value in
    let mutation = c.prepared.inside.mutation in
    let spelled : c.deref.result.now ≡ tail_text (mutation ∷ []) = c.deref.ensures.value ∙ c.prepared.invariant.1 in
    let r = resting g.D.Disk.view _ c.self.invariant sound still mutation _ was c.append.new.disk in
    let all = c.append.ensures.moments (header g.D.Disk.view _ c.self.invariant sound still mutation _ was c.append.new.disk) r.groups (mutation ∷ []) c.prepared.invariant.0 spelled r.at_rest in
    rw (← c.self.view_is, ← c.prepared.view_is) (committing g.D.Disk.view _ c.self.invariant sound still mutation _ was c.append.new.disk all
    (call_onward (g.D.Disk.view c.index_mut.result.now) (g.D.Disk.view c.append.new.disk) c.append.result c.append.ensures.cause c.append.ensures.tells))

pub returns-clause-fault : goal.returns-clause-fault
returns-clause-fault g c = rw (← c.self.view_is) (λ host err.
    let here : c.self.inside.owner < length c.self.inside.disks.items = omega (arith, c.self.invariant.hosts, c.self.invariant.ordered.there) in
    let was = slice_get_read c.self.inside.disks.items _ c.self.inside.owner c.index_mut.result.now refl here c.index_mut.ensures.value in
    let e : c.refused_call.result ≡ calls.Fault host = cc err in
    let same = call_fault c.self.inside.owner host c.in-Err.refusal (sym c.refused_call.ensures ∙ e) in (
      same.0,
      subst (λ (h : ℕ). HasFailedOn g.D.Disk.view h c.self.inside.disks.items (slice_set c.self.inside.disks.items c.self.inside.owner c.append.new.disk)) (sym same.0)
          (failed_on g.D.Disk.view c.self.inside.disks.items c.self.inside.owner _ c.append.new.disk was (c.append.ensures.cause.failed (c.in-Err.is ∙ ap Err same.1))),
    ))

pub returns-clause-no_memory : goal.returns-clause-no_memory
returns-clause-no_memory g c = rw (← c.self.view_is) (λ err disk at spares.
    let here : c.self.inside.owner < length c.self.inside.disks.items = omega (arith, c.self.invariant.hosts, c.self.invariant.ordered.there) in
    let was = slice_get_read c.self.inside.disks.items _ c.self.inside.owner c.index_mut.result.now refl here c.index_mut.ensures.value in
    let e : c.refused_call.result ≡ calls.NoMemory = cc err in
    let same = call_no_memory c.self.inside.owner c.in-Err.refusal (sym c.refused_call.ensures ∙ e) in
    let one = some_same disk c.index_mut.result.now (slice_get c.self.inside.disks.items c.self.inside.owner) at was in
    c.append.ensures.cause.no_memory (c.in-Err.is ∙ ap Err same) (subst (λ (d : g.row.D.Denot). (g.D.Disk.view d).spares) one spares))

pub returns-clause-others : goal.returns-clause-others
returns-clause-others g c =
    let sound = subst (λ (s : Cell g.row.D.Denot). IsSoundCell s) (sym c.self.view_is) c.requires.sound in
    let still = ap (λ (s : Cell g.row.D.Denot). s.moving) c.self.view_is ∙ c.requires.still in
    let here : c.self.inside.owner < length c.self.inside.disks.items = omega (arith, c.self.invariant.hosts, c.self.invariant.ordered.there) in
    let was = slice_get_read c.self.inside.disks.items _ c.self.inside.owner c.index_mut.result.now refl here c.index_mut.ensures.value in
    let mutation = c.prepared.inside.mutation in
    let spelled : c.deref.result.now ≡ tail_text (mutation ∷ []) = c.deref.ensures.value ∙ c.prepared.invariant.1 in
    let r = resting g.D.Disk.view _ c.self.invariant sound still mutation _ was c.append.new.disk in
    let all = c.append.ensures.moments (header g.D.Disk.view _ c.self.invariant sound still mutation _ was c.append.new.disk) r.groups (mutation ∷ []) c.prepared.invariant.0 spelled r.at_rest in
    rw (← c.self.view_is) (others_moved g.D.Disk.view c.self.inside.disks.items c.self.inside.owner _ c.append.new.disk was c.self.inside.store.file c.self.invariant.ordered.one_of_two _ all)

pub returns-in-Ok-clause-others : goal.returns-in-Ok-clause-others
returns-in-Ok-clause-others g c =
    let sound = subst (λ (s : Cell g.row.D.Denot). IsSoundCell s) (sym c.self.view_is) c.requires.sound in
    let still = ap (λ (s : Cell g.row.D.Denot). s.moving) c.self.view_is ∙ c.requires.still in
    let here : c.self.inside.owner < length c.self.inside.disks.items = omega (arith, c.self.invariant.hosts, c.self.invariant.ordered.there) in
    let was = slice_get_read c.self.inside.disks.items _ c.self.inside.owner c.index_mut.result.now refl here c.index_mut.ensures.value in
    let mutation = c.prepared.inside.mutation in
    let spelled : c.deref.result.now ≡ tail_text (mutation ∷ []) = c.deref.ensures.value ∙ c.prepared.invariant.1 in
    let r = resting g.D.Disk.view _ c.self.invariant sound still mutation _ was c.append.new.disk in
    let all = c.append.ensures.moments (header g.D.Disk.view _ c.self.invariant sound still mutation _ was c.append.new.disk) r.groups (mutation ∷ []) c.prepared.invariant.0 spelled r.at_rest in
    rw (← c.self.view_is) (others_moved g.D.Disk.view c.self.inside.disks.items c.self.inside.owner _ c.append.new.disk was c.self.inside.store.file c.self.invariant.ordered.one_of_two _ all)
