use Rattle.std.proofs.Common.{◌≡◌, ◌⊎◌, inl, inr, ⊎_elim, refl, slice_get, length, Err, Some, None, IsErrOf, sym, subst, ap, ◌∙◌}
use Rattle.std.proofs.lemmas.Result.{err_from_is_err_and}
use Rattle.cache_key.specs.declared.request.Mutation.{Mutation}
use Rattle.cache_model.specs.Change.{change_of}
use Rattle.call_trail.specs.declared.refusal.CallRefusal.TheVariants.{Fault, NoMemory}
use Rattle.call_trail.specs.Trails.{most_entries}
use Rattle.disk_lane.specs.Lanes.{LaneImage, LaneEvent}
use Rattle.partition_cell.specs.Cells.{Cell, caches_of, Surviving, SurvivingBefore}
use Rattle.partition_cell.specs.Entered.{record_length, HasGrown, IsNotEntered}
use Rattle.partition_cell.proofs.BeyondLemmas.{others_none}
use Rattle.partition_cell.proofs.EnteredLemmas.{where_refused}
use Rattle.kept_cell.specs.KeptCells.{IsReadied, IsHeldBack}
use Rattle.kept_cell.proofs.GrownLemmas.{readied_then, grown_before, not_renewed_before, not_entered_before, others_before}
use Rattle.kept_cell.proofs.KeptLemmas.{uncalled, readied_event}
use Rattle.kept_cell.proofs.CauseLemmas.{causes_pinned, causes_prepared, causes_entered}
use Rattle.kept_cell.proofs.kept.Kept.change.Goals as goal

pub returns-in-Some-clause-event : goal.returns-in-Some-clause-event
returns-in-Some-clause-event g c = rw (← c.self.view_is) (uncalled g.D.Disk.view c.self.inside.cell (change_of c.args.mutation) c.survives.ensures.there c.survives.ensures.survives)

pub returns-in-Some-clause-causes : goal.returns-in-Some-clause-causes
returns-in-Some-clause-causes g c = rw (← c.self.view_is)
    (causes_pinned (record { cell = c.self.inside.cell; trail = c.self.inside.trail }) c.args.mutation c.in-Some.to c.in-Some.ensures.some)

pub returns-then-is_full-clause-event : goal.returns-then-is_full-clause-event
returns-then-is_full-clause-event g c = rw (← c.self.view_is) (uncalled g.D.Disk.view c.self.inside.cell (change_of c.args.mutation) c.survives.ensures.there c.survives.ensures.survives)

pub returns-in_err-prepared-clause-causes : goal.returns-in_err-prepared-clause-causes
returns-in_err-prepared-clause-causes g c =
    let p = err_from_is_err_and c.from_residual.result c.from_residual.ensures.1 in
    let is = c.in_err-prepared.was ∙ ap Err (sym p.2) in
    let none = (c.target.ensures.none).0 c.in_default.is in
    let not_full : length c.self.inside.trail.entries ≡ most_entries → ⊥ = λ e. let yes = c.is_full.ensures.full.1 e in cc yes in
    let made = causes_prepared (record { cell = c.self.inside.cell; trail = c.self.inside.trail }) c.args.mutation none not_full c.prepare.result p.0 is
    (λ to. inl (λ e. let has = (c.prepare.ensures.pinned to).0 e in let wrong : Some has.0 ≡ None = sym has.1 ∙ none in cc wrong))
    c.prepare.ensures.full c.prepare.ensures.version_end c.prepare.ensures.no_fault c.prepare.ensures.no_suspension c.prepare.ensures.no_trail in
    rw (← c.self.view_is, p.1) made

pub returns-in-Err-clause-event : goal.returns-in-Err-clause-event
returns-in-Err-clause-event g c =
    let disks = ap (λ (x : Cell g.row.D.Denot). x.disks) c.spell_change.ensures.cell ∙ ap (λ (x : Cell g.row.D.Denot). x.disks) c.prepare.ensures.kept in
    rw (← c.self.view_is, disks) (uncalled g.D.Disk.view c.self.inside.cell (change_of c.args.mutation) c.survives.ensures.there c.survives.ensures.survives)

pub returns-in_err-finish-clause-event : goal.returns-in_err-finish-clause-event
returns-in_err-finish-clause-event g c =
    let last = c.finish.new.self.cell.disks in
    let on_ready = subst (λ (x : Cell g.row.D.Denot). LaneEvent g.D.Disk.view x.owner x.disks last (λ (ms : LaneImage). Surviving x ms ⊎ SurvivingBefore x (change_of c.in_ok-prepared.prepared.mutation) ms)) c.spell_change.ensures.cell c.finish.ensures.event in
    let of_mutation = subst (λ (m : Mutation). LaneEvent g.D.Disk.view c.prepare.new.self.owner c.prepare.new.self.disks last (λ (ms : LaneImage). Surviving c.prepare.new.self ms ⊎ SurvivingBefore c.prepare.new.self (change_of m) ms))
    c.in_ok-prepared.ensures.prepared.0 on_ready in
    rw (← c.self.view_is) (readied_event g.D.Disk.view c.self.inside.cell c.prepare.new.self last (change_of c.args.mutation) c.prepare.ensures.kept c.prepare.ensures.same of_mutation)

pub returns-in_err-finish-clause-causes : goal.returns-in_err-finish-clause-causes
returns-in_err-finish-clause-causes g c =
    let p = err_from_is_err_and c.from_residual-in_err-finish.result c.from_residual-in_err-finish.ensures.1 in
    let not_full : length c.self.inside.trail.entries ≡ most_entries → ⊥ = λ e. let yes = c.is_full.ensures.full.1 e in cc yes in
    let still = c.in_ok-prepared.ensures.still in
    let owner = ap (λ (x : Cell g.row.D.Denot). x.owner) c.spell_change.ensures.cell ∙ ap (λ (x : Cell g.row.D.Denot). x.owner) c.prepare.ensures.kept in
    let is : (p.0 ≡ NoMemory) ⊎ (p.0 ≡ Fault c.self.inside.cell.owner) = ⊎_elim
    (λ e. let same : c.in_err-finish.field-0.0 ≡ NoMemory = cc e in inl (p.2 ∙ same))
    (λ e. let same : c.in_err-finish.field-0.0 ≡ Fault c.spell_change.new.self.cell.owner = cc e in inr (p.2 ∙ same ∙ ap Fault owner))
    c.in_err-finish.ensures.only in
    rw (← c.self.view_is, p.1) (causes_entered (record { cell = c.self.inside.cell; trail = c.self.inside.trail }) c.args.mutation still.0 not_full still.1 still.2 p.0 is)

pub returns-clause-event : goal.returns-clause-event
returns-clause-event g c =
    let last = c.finish.new.self.cell.disks in
    let on_ready = subst (λ (x : Cell g.row.D.Denot). LaneEvent g.D.Disk.view x.owner x.disks last (λ (ms : LaneImage). Surviving x ms ⊎ SurvivingBefore x (change_of c.in_ok-prepared.prepared.mutation) ms)) c.spell_change.ensures.cell c.finish.ensures.event in
    let of_mutation = subst (λ (m : Mutation). LaneEvent g.D.Disk.view c.prepare.new.self.owner c.prepare.new.self.disks last (λ (ms : LaneImage). Surviving c.prepare.new.self ms ⊎ SurvivingBefore c.prepare.new.self (change_of m) ms))
    c.in_ok-prepared.ensures.prepared.0 on_ready in
    rw (← c.self.view_is) (readied_event g.D.Disk.view c.self.inside.cell c.prepare.new.self last (change_of c.args.mutation) c.prepare.ensures.kept c.prepare.ensures.same of_mutation)

pub returns-in-Some-clause-others : goal.returns-in-Some-clause-others
returns-in-Some-clause-others g c = rw (← c.self.view_is) (others_none g.D.Disk.view c.self.inside.cell.disks c.self.inside.cell.owner)

pub returns-then-is_full-clause-others : goal.returns-then-is_full-clause-others
returns-then-is_full-clause-others g c = rw (← c.self.view_is) (others_none g.D.Disk.view c.self.inside.cell.disks c.self.inside.cell.owner)

pub returns-in_err-prepared-clause-others : goal.returns-in_err-prepared-clause-others
returns-in_err-prepared-clause-others g c =
    let disks = ap (λ (x : Cell g.row.D.Denot). x.disks) c.prepare.ensures.kept in
    rw (← c.self.view_is, disks) (others_none g.D.Disk.view c.self.inside.cell.disks c.self.inside.cell.owner)

pub returns-in-Err-clause-others : goal.returns-in-Err-clause-others
returns-in-Err-clause-others g c =
    let disks = ap (λ (x : Cell g.row.D.Denot). x.disks) c.spell_change.ensures.cell ∙ ap (λ (x : Cell g.row.D.Denot). x.disks) c.prepare.ensures.kept in
    rw (← c.self.view_is, disks) (others_none g.D.Disk.view c.self.inside.cell.disks c.self.inside.cell.owner)

pub returns-in_err-finish-clause-others : goal.returns-in_err-finish-clause-others
returns-in_err-finish-clause-others g c =
    let kept = readied_then c.self.inside.cell c.prepare.new.self c.spell_change.new.self.cell c.spell_change.ensures.cell c.prepare.ensures.kept in
    let same = ap (λ (x : Cell g.row.D.Denot). caches_of x) c.spell_change.ensures.cell ∙ c.prepare.ensures.same in
    rw (← c.self.view_is) (others_before c.self.inside.cell c.spell_change.new.self.cell kept same g.D.Disk.view c.finish.new.self.cell.disks c.finish.ensures.others)

pub returns-clause-others : goal.returns-clause-others
returns-clause-others g c =
    let kept = readied_then c.self.inside.cell c.prepare.new.self c.spell_change.new.self.cell c.spell_change.ensures.cell c.prepare.ensures.kept in
    let same = ap (λ (x : Cell g.row.D.Denot). caches_of x) c.spell_change.ensures.cell ∙ c.prepare.ensures.same in
    rw (← c.self.view_is) (others_before c.self.inside.cell c.spell_change.new.self.cell kept same g.D.Disk.view c.finish.new.self.cell.disks c.finish.ensures.others)

pub returns-in-Some-clause-left : goal.returns-in-Some-clause-left
returns-in-Some-clause-left g c = rw (← c.self.view_is) (inl refl)

pub returns-then-is_full-clause-left : goal.returns-then-is_full-clause-left
returns-then-is_full-clause-left g c = rw (← c.self.view_is) (inl refl)

pub returns-in_err-prepared-clause-left : goal.returns-in_err-prepared-clause-left
returns-in_err-prepared-clause-left g c =
    rw (← c.self.view_is) (where_refused c.from_residual.result (IsHeldBack c.self.inside.cell c.prepare.new.self c.args.epoch c.args.mutation) (inl c.prepare.ensures.kept))

pub returns-in-Err-clause-left : goal.returns-in-Err-clause-left
returns-in-Err-clause-left g c =
    rw (← c.self.view_is) (inl (readied_then c.self.inside.cell c.prepare.new.self c.spell_change.new.self.cell c.spell_change.ensures.cell c.prepare.ensures.kept))

pub returns-in_err-finish-clause-left : goal.returns-in_err-finish-clause-left
returns-in_err-finish-clause-left g c =
    let kept = readied_then c.self.inside.cell c.prepare.new.self c.spell_change.new.self.cell c.spell_change.ensures.cell c.prepare.ensures.kept in
    let same = ap (λ (x : Cell g.row.D.Denot). caches_of x) c.spell_change.ensures.cell ∙ c.prepare.ensures.same in
    let held = subst (λ (m : Mutation). IsNotEntered c.spell_change.new.self.cell c.finish.new.self.cell c.args.epoch m) c.in_ok-prepared.ensures.prepared.0 c.in_err-finish.ensures.left in
    rw (← c.self.view_is) (where_refused c.from_residual-in_err-finish.result (IsHeldBack c.self.inside.cell c.finish.new.self.cell c.args.epoch c.args.mutation)
    (inr (not_entered_before c.self.inside.cell c.spell_change.new.self.cell kept same c.finish.new.self.cell c.args.epoch c.args.mutation held)))

pub returns-in_err-prepared-clause-no_memory : goal.returns-in_err-prepared-clause-no_memory
returns-in_err-prepared-clause-no_memory g c = rw (← c.self.view_is) (λ err disk at spares. inl c.prepare.ensures.kept)

pub returns-in-Err-clause-no_memory : goal.returns-in-Err-clause-no_memory
returns-in-Err-clause-no_memory g c =
    rw (← c.self.view_is) (λ err disk at spares. inl (readied_then c.self.inside.cell c.prepare.new.self c.spell_change.new.self.cell c.spell_change.ensures.cell c.prepare.ensures.kept))

pub returns-in_err-finish-clause-no_memory : goal.returns-in_err-finish-clause-no_memory
returns-in_err-finish-clause-no_memory g c =
    let p = err_from_is_err_and c.from_residual-in_err-finish.result c.from_residual-in_err-finish.ensures.1 in
    let kept = readied_then c.self.inside.cell c.prepare.new.self c.spell_change.new.self.cell c.spell_change.ensures.cell c.prepare.ensures.kept in
    let same = ap (λ (x : Cell g.row.D.Denot). caches_of x) c.spell_change.ensures.cell ∙ c.prepare.ensures.same in
    rw (← c.self.view_is) (λ err disk at spares.
    let e : p.0 ≡ NoMemory = cc (sym p.1 ∙ err) in
    let here = subst (λ (x : Cell g.row.D.Denot). slice_get x.disks x.owner ≡ Some disk) (sym kept) at in
    inr (not_renewed_before c.self.inside.cell c.spell_change.new.self.cell kept same c.finish.new.self.cell (c.finish.ensures.no_memory (c.in_err-finish.was ∙ ap Err (sym p.2 ∙ e)) disk here spares)))

pub returns-clause-grown : goal.returns-clause-grown
returns-clause-grown g c =
    let kept = readied_then c.self.inside.cell c.prepare.new.self c.spell_change.new.self.cell c.spell_change.ensures.cell c.prepare.ensures.kept in
    let same = ap (λ (x : Cell g.row.D.Denot). caches_of x) c.spell_change.ensures.cell ∙ c.prepare.ensures.same in
    let grown = subst (λ (m : Mutation). HasGrown c.spell_change.new.self.cell c.finish.new.self.cell c.args.epoch (record_length m)) c.in_ok-prepared.ensures.prepared.0 c.in_ok-finish.ensures.grown in
    rw (← c.self.view_is) (grown_before c.self.inside.cell c.spell_change.new.self.cell kept same c.finish.new.self.cell c.args.epoch (record_length c.args.mutation) grown)

pub returns-in-Some-clause-early : goal.returns-in-Some-clause-early
returns-in-Some-clause-early g c = rw (← c.self.view_is) (inl refl)

pub returns-then-is_full-clause-early : goal.returns-then-is_full-clause-early
returns-then-is_full-clause-early g c = rw (← c.self.view_is) (inl refl)

pub returns-in_err-prepared-clause-early : goal.returns-in_err-prepared-clause-early
returns-in_err-prepared-clause-early g c =
    rw (← c.self.view_is) (where_refused c.from_residual.result (IsReadied c.self.inside.cell c.prepare.new.self ⊎ IsErrOf c.from_residual.result NoMemory ⊎ IsErrOf c.from_residual.result (Fault c.self.inside.cell.owner)) (inl c.prepare.ensures.kept))

pub returns-in-Err-clause-early : goal.returns-in-Err-clause-early
returns-in-Err-clause-early g c =
    rw (← c.self.view_is) (inl (readied_then c.self.inside.cell c.prepare.new.self c.spell_change.new.self.cell c.spell_change.ensures.cell c.prepare.ensures.kept))

pub returns-in_err-finish-clause-early : goal.returns-in_err-finish-clause-early
returns-in_err-finish-clause-early g c =
    let r = c.from_residual-in_err-finish.result in
    let p = err_from_is_err_and r c.from_residual-in_err-finish.ensures.1 in
    let owner = ap (λ (x : Cell g.row.D.Denot). x.owner) c.spell_change.ensures.cell ∙ ap (λ (x : Cell g.row.D.Denot). x.owner) c.prepare.ensures.kept in
    let is : IsErrOf r NoMemory ⊎ IsErrOf r (Fault c.self.inside.cell.owner) = ⊎_elim
    (λ e. let same : c.in_err-finish.field-0.0 ≡ NoMemory = cc e in inl (p.1 ∙ ap Err (p.2 ∙ same)))
    (λ e. let same : c.in_err-finish.field-0.0 ≡ Fault c.spell_change.new.self.cell.owner = cc e in inr (p.1 ∙ ap Err (p.2 ∙ same ∙ ap Fault owner)))
    c.in_err-finish.ensures.only in
    rw (← c.self.view_is) (where_refused r (IsReadied c.self.inside.cell c.finish.new.self.cell ⊎ IsErrOf r NoMemory ⊎ IsErrOf r (Fault c.self.inside.cell.owner)) (inr is))

pub returns-in_err-prepared-clause-failed : goal.returns-in_err-prepared-clause-failed
returns-in_err-prepared-clause-failed g c host err =
    let p = err_from_is_err_and c.from_residual.result c.from_residual.ensures.1 in
    let e : p.0 ≡ Fault host = cc (sym p.1 ∙ err) in
    absurd (c.prepare.ensures.no_fault host (c.in_err-prepared.was ∙ ap Err (sym p.2 ∙ e)))

pub returns-in_err-finish-clause-failed : goal.returns-in_err-finish-clause-failed
returns-in_err-finish-clause-failed g c =
    let kept = readied_then c.self.inside.cell c.prepare.new.self c.spell_change.new.self.cell c.spell_change.ensures.cell c.prepare.ensures.kept in
    let same = ap (λ (x : Cell g.row.D.Denot). caches_of x) c.spell_change.ensures.cell ∙ c.prepare.ensures.same in
    let held = subst (λ (m : Mutation). IsNotEntered c.spell_change.new.self.cell c.finish.new.self.cell c.args.epoch m) c.in_ok-prepared.ensures.prepared.0 c.in_err-finish.ensures.left in
    rw (← c.self.view_is) (λ host err. not_entered_before c.self.inside.cell c.spell_change.new.self.cell kept same c.finish.new.self.cell c.args.epoch c.args.mutation held)
