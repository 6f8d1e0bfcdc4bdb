use Rattle.std.proofs.Common.{◌≡◌, ◌≢◌, ℕ, length, ◌<◌, ◌≤◌, arith, refl, sym, subst, ◌∙◌, ap, Err}
use Rattle.std.proofs.lemmas.Result.{err_from_is_err_and}
use Rattle.std.proofs.lemmas.Option.{slice_get_read}
use Rattle.slot_board.specs.declared.board.SlotKind.{SlotKind}
use Rattle.slot_board.specs.declared.board.SlotKind.TheVariants.{Current, Unknown}
use Rattle.slot_board.specs.Slots.{slot_at}
use Rattle.disk_trait.specs.Moments.{After, Throughout}
use Rattle.disk_trait.specs.Calls.{Moved}
use Rattle.disk_trait.specs.declared.DiskRefusal.TheVariants.{Failed}
use Rattle.file_kinds.specs.Freeing.{IsFreeable, IsFreedFrom}
use Rattle.partition_cell.specs.Cells.{Cell}
use Rattle.file_kinds.specs.Order.{IsRecorded}
use Rattle.file_kinds.proofs.KindLemmas.{fits_freeable}
use Rattle.partition_cell.proofs.BeyondLemmas.{others_moved}
use Rattle.partition_cell.proofs.StepLemmas.{chosen, freeing, free_refused, free_done, call_onward}
use Rattle.disk_lane.proofs.LaneLemmas.{failed_on}
use Rattle.partition_cell.proofs.cell.Cell.free_target.Goals as goal

pub free-requires-clause-fits : goal.free-requires-clause-fits
free-requires-clause-fits g c m is =
    let recorded = subst (λ (s : Cell g.row.D.Denot). IsRecorded s.board c.args.to) (sym c.self.view_is) c.requires.recorded in
    let here : c.args.to < length c.self.inside.disks.items = omega (arith, c.self.invariant.hosts, recorded.there) in
    let was = slice_get_read c.self.inside.disks.items _ c.args.to c.index_mut.result.now refl here c.index_mut.ensures.value in
    let one = chosen c.self.inside.board _ _ c.args.to c.self.invariant.ordered recorded in
    let file = c.choose_target-file.result in
    let known = subst (λ (f : ℕ). (slot_at c.self.inside.board c.args.to f).kind ≢ Unknown) (sym c.choose_target-file.ensures) one.2 in
    let le : file ≤ 1 = omega (arith, one.0, c.choose_target-file.ensures) in
    subst (λ (k : SlotKind). IsFreeable k (m file)) (sym c.kind-kind.ensures)
    (fits_freeable _ _ _ (slot_at c.self.inside.board c.args.to file).kind _ (m file) known (c.self.invariant.kinds c.args.to _ was m is file le))

pub invariant_of-self : goal.invariant_of-self
invariant_of-self g c =
    let recorded = subst (λ (s : Cell g.row.D.Denot). IsRecorded s.board c.args.to) (sym c.self.view_is) c.requires.recorded in
    let here : c.args.to < length c.self.inside.disks.items = omega (arith, c.self.invariant.hosts, recorded.there) in
    let was = slice_get_read c.self.inside.disks.items _ c.args.to c.index_mut.result.now refl here c.index_mut.ensures.value in
    let one = chosen c.self.inside.board _ _ c.args.to c.self.invariant.ordered recorded in
    let file = c.choose_target-file.result in
    let past = subst (λ (f : ℕ). (slot_at c.self.inside.board c.args.to f).kind ≢ Current) (sym c.choose_target-file.ensures) one.1 in
    let all = subst (λ (k : SlotKind). Throughout (g.D.Disk.view c.index_mut.result.now) (g.D.Disk.view c.free.new.disk) (After (g.D.Disk.view c.index_mut.result.now) (Moved file (IsFreedFrom k)))) c.kind-kind.ensures c.free.ensures.moments in
    let still = ap (λ (s : Cell g.row.D.Denot). s.moving) c.self.view_is ∙ c.requires.still in
    free_refused g.D.Disk.view _ c.self.invariant c.args.to _ was c.free.new.disk file past all still

pub returns-in_err-free-clause-event : goal.returns-in_err-free-clause-event
returns-in_err-free-clause-event g c =
    let recorded = subst (λ (s : Cell g.row.D.Denot). IsRecorded s.board c.args.to) (sym c.self.view_is) c.requires.recorded in
    let here : c.args.to < length c.self.inside.disks.items = omega (arith, c.self.invariant.hosts, recorded.there) in
    let was = slice_get_read c.self.inside.disks.items _ c.args.to c.index_mut.result.now refl here c.index_mut.ensures.value in
    let one = chosen c.self.inside.board _ _ c.args.to c.self.invariant.ordered recorded in
    let file = c.choose_target-file.result in
    let past = subst (λ (f : ℕ). (slot_at c.self.inside.board c.args.to f).kind ≢ Current) (sym c.choose_target-file.ensures) one.1 in
    let all = subst (λ (k : SlotKind). Throughout (g.D.Disk.view c.index_mut.result.now) (g.D.Disk.view c.free.new.disk) (After (g.D.Disk.view c.index_mut.result.now) (Moved file (IsFreedFrom k)))) c.kind-kind.ensures c.free.ensures.moments in
    rw (← c.self.view_is) (freeing g.D.Disk.view _ c.self.invariant c.args.to _ was c.free.new.disk file past all (call_onward (g.D.Disk.view c.index_mut.result.now) (g.D.Disk.view c.free.new.disk) c.free.result c.free.ensures.cause c.free.ensures.tells))

pub returns-in_err-free-clause-failed : goal.returns-in_err-free-clause-failed
returns-in_err-free-clause-failed g c is =
    let p = err_from_is_err_and c.from_residual.result c.from_residual.ensures.1 in
    let e : p.0 ≡ Failed = cc (sym p.1 ∙ is) in
    let recorded = subst (λ (s : Cell g.row.D.Denot). IsRecorded s.board c.args.to) (sym c.self.view_is) c.requires.recorded in
    let here : c.args.to < length c.self.inside.disks.items = omega (arith, c.self.invariant.hosts, recorded.there) in
    let was = slice_get_read c.self.inside.disks.items _ c.args.to c.index_mut.result.now refl here c.index_mut.ensures.value in
    let one = chosen c.self.inside.board _ _ c.args.to c.self.invariant.ordered recorded in
    let file = c.choose_target-file.result in
    rw (← c.self.view_is) (failed_on g.D.Disk.view c.self.inside.disks.items c.args.to _ c.free.new.disk was (c.free.ensures.cause.failed (c.in_err-free.was ∙ ap Err (sym p.2 ∙ e))))

pub invariant_of-self-2 : goal.invariant_of-self-2
invariant_of-self-2 g c =
    let recorded = subst (λ (s : Cell g.row.D.Denot). IsRecorded s.board c.args.to) (sym c.self.view_is) c.requires.recorded in
    let here : c.args.to < length c.self.inside.disks.items = omega (arith, c.self.invariant.hosts, recorded.there) in
    let was = slice_get_read c.self.inside.disks.items _ c.args.to c.index_mut.result.now refl here c.index_mut.ensures.value in
    let one = chosen c.self.inside.board _ _ c.args.to c.self.invariant.ordered recorded in
    let file = c.choose_target-file.result in
    let past = subst (λ (f : ℕ). (slot_at c.self.inside.board c.args.to f).kind ≢ Current) (sym c.choose_target-file.ensures) one.1 in
    let all = subst (λ (k : SlotKind). Throughout (g.D.Disk.view c.index_mut.result.now) (g.D.Disk.view c.free.new.disk) (After (g.D.Disk.view c.index_mut.result.now) (Moved file (IsFreedFrom k)))) c.kind-kind.ensures c.free.ensures.moments in
    let still = ap (λ (s : Cell g.row.D.Denot). s.moving) c.self.view_is ∙ c.requires.still in
    let known = subst (λ (f : ℕ). (slot_at c.self.inside.board c.args.to f).kind ≢ Unknown) (sym c.choose_target-file.ensures) one.2 in
    free_done g.D.Disk.view _ c.self.invariant c.args.to _ was c.free.new.disk file past all known still c.set.new.self (record { here = c.set.ensures.here; others = c.set.ensures.others; hosts = c.set.ensures.hosts; told = c.set.ensures.told }) c.in_ok-free.ensures.freed

pub returns-clause-event : goal.returns-clause-event
returns-clause-event g c =
    let recorded = subst (λ (s : Cell g.row.D.Denot). IsRecorded s.board c.args.to) (sym c.self.view_is) c.requires.recorded in
    let here : c.args.to < length c.self.inside.disks.items = omega (arith, c.self.invariant.hosts, recorded.there) in
    let was = slice_get_read c.self.inside.disks.items _ c.args.to c.index_mut.result.now refl here c.index_mut.ensures.value in
    let one = chosen c.self.inside.board _ _ c.args.to c.self.invariant.ordered recorded in
    let file = c.choose_target-file.result in
    let past = subst (λ (f : ℕ). (slot_at c.self.inside.board c.args.to f).kind ≢ Current) (sym c.choose_target-file.ensures) one.1 in
    let all = subst (λ (k : SlotKind). Throughout (g.D.Disk.view c.index_mut.result.now) (g.D.Disk.view c.free.new.disk) (After (g.D.Disk.view c.index_mut.result.now) (Moved file (IsFreedFrom k)))) c.kind-kind.ensures c.free.ensures.moments in
    rw (← c.self.view_is) (freeing g.D.Disk.view _ c.self.invariant c.args.to _ was c.free.new.disk file past all (call_onward (g.D.Disk.view c.index_mut.result.now) (g.D.Disk.view c.free.new.disk) c.free.result c.free.ensures.cause c.free.ensures.tells))

pub returns-in_err-free-clause-others : goal.returns-in_err-free-clause-others
returns-in_err-free-clause-others g c =
    let recorded = subst (λ (s : Cell g.row.D.Denot). IsRecorded s.board c.args.to) (sym c.self.view_is) c.requires.recorded in
    let here : c.args.to < length c.self.inside.disks.items = omega (arith, c.self.invariant.hosts, recorded.there) in
    let was = slice_get_read c.self.inside.disks.items _ c.args.to c.index_mut.result.now refl here c.index_mut.ensures.value in
    let one = chosen c.self.inside.board _ _ c.args.to c.self.invariant.ordered recorded in
    let file : c.choose_target-file.result ≤ 1 = omega (arith, c.choose_target-file.ensures, one.0) in
    rw (← c.self.view_is) (others_moved g.D.Disk.view c.self.inside.disks.items c.args.to _ c.free.new.disk was c.choose_target-file.result file _ c.free.ensures.moments)

pub returns-clause-others : goal.returns-clause-others
returns-clause-others g c =
    let recorded = subst (λ (s : Cell g.row.D.Denot). IsRecorded s.board c.args.to) (sym c.self.view_is) c.requires.recorded in
    let here : c.args.to < length c.self.inside.disks.items = omega (arith, c.self.invariant.hosts, recorded.there) in
    let was = slice_get_read c.self.inside.disks.items _ c.args.to c.index_mut.result.now refl here c.index_mut.ensures.value in
    let one = chosen c.self.inside.board _ _ c.args.to c.self.invariant.ordered recorded in
    let file : c.choose_target-file.result ≤ 1 = omega (arith, c.choose_target-file.ensures, one.0) in
    rw (← c.self.view_is) (others_moved g.D.Disk.view c.self.inside.disks.items c.args.to _ c.free.new.disk was c.choose_target-file.result file _ c.free.ensures.moments)
