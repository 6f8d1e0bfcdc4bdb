use Rattle.std.proofs.Common.{arith, ◌≡◌, refl, sym, ◌∙◌, ap, Err}
use Rattle.std.proofs.lemmas.Result.{err_from_is_err_and}
use Rattle.disk_trait.specs.declared.DiskRefusal.TheVariants.{Failed}
use Rattle.slot_board.specs.declared.board.SlotKind.TheVariants.{Blank}
use Rattle.partition_cell.specs.Cells.{Cell, Surviving}
use Rattle.disk_lane.proofs.LaneLemmas.{failure_later}
use Rattle.partition_cell.proofs.BoardLemmas.{set_known, blank_is_not_unknown}
use Rattle.partition_cell.proofs.BeyondLemmas.{others_joined}
use Rattle.partition_cell.proofs.EnteredLemmas.{next_same}
use Rattle.partition_cell.proofs.StepLemmas.{cells_joined, same_list_survives, same_list_set}
use Rattle.partition_cell.proofs.cell.Cell.target_begin.Goals as goal

pub returns-in_err-start_build-clause-event : goal.returns-in_err-start_build-clause-event
returns-in_err-start_build-clause-event g c =
    let a = c.args.self.now in
    let b = c.free_target.new.self in
    let known = set_known a.board b.board c.args.to c.in_ok-file.file (record { kind = Blank; version = 0 }) c.in_ok-file.ensures.freed.1 blank_is_not_unknown in
    let same = same_list_set a b c.free_target.ensures.kept known (omega (arith, c.in_ok-file.ensures.freed.1.told)) in
    cells_joined g.D.Disk.view c.args.to a b c.start_build.new.self.disks (same_list_survives a b same) c.free_target.ensures.event c.args.to refl c.start_build.ensures.event

pub returns-clause-event : goal.returns-clause-event
returns-clause-event g c =
    let a = c.args.self.now in
    let b = c.free_target.new.self in
    let known = set_known a.board b.board c.args.to c.in_ok-file.file (record { kind = Blank; version = 0 }) c.in_ok-file.ensures.freed.1 blank_is_not_unknown in
    let same = same_list_set a b c.free_target.ensures.kept known (omega (arith, c.in_ok-file.ensures.freed.1.told)) in
    cells_joined g.D.Disk.view c.args.to a b c.start_build.new.self.disks (same_list_survives a b same) c.free_target.ensures.event c.args.to refl c.start_build.ensures.event

pub returns-in_err-start_build-clause-failed : goal.returns-in_err-start_build-clause-failed
returns-in_err-start_build-clause-failed g c is =
    let a = c.args.self.now in
    let b = c.free_target.new.self in
    let p = err_from_is_err_and c.from_residual-in_err-start_build.result c.from_residual-in_err-start_build.ensures.1 in
    let e : p.0 ≡ Failed = cc (sym p.1 ∙ is) in
    failure_later g.D.Disk.view a.disks b.disks c.start_build.new.self.disks c.args.to c.args.to (Surviving a) c.free_target.ensures.event (c.start_build.ensures.failed (c.in_err-start_build.was ∙ ap Err (sym p.2 ∙ e)))

pub returns-clause-begun : goal.returns-clause-begun
returns-clause-begun g c =
    let m = c.in_ok-start_build.ensures.begun in
    let number = ap (λ (s : Cell g.row.D.Denot). s.number) c.free_target.ensures.kept in
    (m.0, m.1, m.2, m.3 ∙ next_same c.args.self.now c.free_target.new.self c.args.to c.args.epoch number (omega (arith, c.in_ok-file.ensures.freed.1.told)))

pub returns-in_err-start_build-clause-others : goal.returns-in_err-start_build-clause-others
returns-in_err-start_build-clause-others g c =
    others_joined g.D.Disk.view c.args.self.now.disks c.free_target.new.self.disks c.start_build.new.self.disks c.args.to c.free_target.ensures.others c.args.to refl c.start_build.ensures.event.there c.start_build.ensures.others

pub returns-clause-others : goal.returns-clause-others
returns-clause-others g c =
    others_joined g.D.Disk.view c.args.self.now.disks c.free_target.new.self.disks c.start_build.new.self.disks c.args.to c.free_target.ensures.others c.args.to refl c.start_build.ensures.event.there c.start_build.ensures.others
