use Rattle.std.proofs.Common.{◌≡◌, ℕ, sym, subst, ◌∙◌, ap, Err}
use Rattle.std.proofs.lemmas.Result.{err_from_is_err_and}
use Rattle.disk_trait.specs.declared.DiskRefusal.TheVariants.{Failed}
use Rattle.disk_lane.specs.Lanes.{HasFailedOn}
use Rattle.partition_cell.specs.Cells.{Surviving}
use Rattle.disk_lane.proofs.LaneLemmas.{failure_later}
use Rattle.partition_cell.proofs.BeyondLemmas.{others_joined}
use Rattle.partition_cell.proofs.StepLemmas.{goes_host, goes_id, cells_joined, same_list_survives, same_list_built, same_list_joined}
use Rattle.partition_cell.proofs.cell.Cell.build_whole.Goals as goal

pub returns-in_err-write_all-clause-event : goal.returns-in_err-write_all-clause-event
returns-in_err-write_all-clause-event g c =
    let a = c.args.self.now in
    let b = c.target_begin.new.self in
    let m = c.in_ok-target_begin.ensures.begun in
    (cells_joined g.D.Disk.view c.args.to a b c.write_all.new.self.disks (same_list_survives a b c.target_begin.ensures.same) c.target_begin.ensures.event m.0.host m.2 (c.write_all.ensures.event m.0 m.1))

pub returns-in_err-write_all-clause-failed : goal.returns-in_err-write_all-clause-failed
returns-in_err-write_all-clause-failed g c is =
    let a = c.args.self.now in
    let b = c.target_begin.new.self in
    let m = c.in_ok-target_begin.ensures.begun in
    let p = err_from_is_err_and c.from_residual-in_err-write_all.result c.from_residual-in_err-write_all.ensures.1 in
    let e : p.0 ≡ Failed = cc (sym p.1 ∙ is) in
    failure_later g.D.Disk.view a.disks b.disks c.write_all.new.self.disks c.args.to c.args.to (Surviving a) c.target_begin.ensures.event
    (subst (λ (h : ℕ). HasFailedOn g.D.Disk.view h b.disks c.write_all.new.self.disks) m.2 (c.write_all.ensures.failed m.0 m.1 (c.in_err-write_all.was ∙ ap Err (sym p.2 ∙ e))))

pub returns-in_err-target_settle-clause-event : goal.returns-in_err-target_settle-clause-event
returns-in_err-target_settle-clause-event g c =
    let a = c.args.self.now in
    let b = c.target_begin.new.self in
    let m = c.in_ok-target_begin.ensures.begun in
    let d = c.write_all.new.self in
    let w = c.in_ok-write_all.ensures.whole in
    let at_host = goes_host _ _ c.in_ok-write_all.ensures.goes m.0 w.0 m.1 w.1 ∙ m.2 in
    let both = same_list_joined a b d c.target_begin.ensures.same (same_list_built b d c.write_all.ensures.kept) in
    (cells_joined g.D.Disk.view c.args.to a d c.target_settle.new.self.disks (same_list_survives a d both) (cells_joined g.D.Disk.view c.args.to a b c.write_all.new.self.disks (same_list_survives a b c.target_begin.ensures.same) c.target_begin.ensures.event m.0.host m.2 (c.write_all.ensures.event m.0 m.1)) w.0.host at_host (c.target_settle.ensures.event w.0 w.1))

pub returns-clause-event : goal.returns-clause-event
returns-clause-event g c =
    let a = c.args.self.now in
    let b = c.target_begin.new.self in
    let m = c.in_ok-target_begin.ensures.begun in
    let d = c.write_all.new.self in
    let w = c.in_ok-write_all.ensures.whole in
    let at_host = goes_host _ _ c.in_ok-write_all.ensures.goes m.0 w.0 m.1 w.1 ∙ m.2 in
    let both = same_list_joined a b d c.target_begin.ensures.same (same_list_built b d c.write_all.ensures.kept) in
    (cells_joined g.D.Disk.view c.args.to a d c.target_settle.new.self.disks (same_list_survives a d both) (cells_joined g.D.Disk.view c.args.to a b c.write_all.new.self.disks (same_list_survives a b c.target_begin.ensures.same) c.target_begin.ensures.event m.0.host m.2 (c.write_all.ensures.event m.0 m.1)) w.0.host at_host (c.target_settle.ensures.event w.0 w.1))

pub returns-in_err-target_settle-clause-failed : goal.returns-in_err-target_settle-clause-failed
returns-in_err-target_settle-clause-failed g c is =
    let a = c.args.self.now in
    let b = c.target_begin.new.self in
    let m = c.in_ok-target_begin.ensures.begun in
    let d = c.write_all.new.self in
    let w = c.in_ok-write_all.ensures.whole in
    let at_host = goes_host _ _ c.in_ok-write_all.ensures.goes m.0 w.0 m.1 w.1 ∙ m.2 in
    let both = same_list_joined a b d c.target_begin.ensures.same (same_list_built b d c.write_all.ensures.kept) in
    let p = err_from_is_err_and c.from_residual-in_err-target_settle.result c.from_residual-in_err-target_settle.ensures.1 in
    let e : p.0 ≡ Failed = cc (sym p.1 ∙ is) in
    failure_later g.D.Disk.view a.disks d.disks c.target_settle.new.self.disks c.args.to c.args.to (Surviving a) (cells_joined g.D.Disk.view c.args.to a b c.write_all.new.self.disks (same_list_survives a b c.target_begin.ensures.same) c.target_begin.ensures.event m.0.host m.2 (c.write_all.ensures.event m.0 m.1))
    (subst (λ (h : ℕ). HasFailedOn g.D.Disk.view h d.disks c.target_settle.new.self.disks) at_host (c.target_settle.ensures.failed w.0 w.1 (c.in_err-target_settle.was ∙ ap Err (sym p.2 ∙ e))))

pub returns-clause-settled : goal.returns-clause-settled
returns-clause-settled g c =
    let a = c.args.self.now in
    let b = c.target_begin.new.self in
    let m = c.in_ok-target_begin.ensures.begun in
    let d = c.write_all.new.self in
    let w = c.in_ok-write_all.ensures.whole in
    let at_host = goes_host _ _ c.in_ok-write_all.ensures.goes m.0 w.0 m.1 w.1 ∙ m.2 in
    let both = same_list_joined a b d c.target_begin.ensures.same (same_list_built b d c.write_all.ensures.kept) in
    let s = c.in_ok-target_settle.ensures.settled w.0 w.1 in
    let id = s.3 ∙ goes_id _ _ c.in_ok-write_all.ensures.goes m.0 w.0 m.1 w.1 in
    (s.0, s.1, s.2 ∙ at_host, id ∙ m.3, s.4, s.5)

pub returns-in_err-write_all-clause-others : goal.returns-in_err-write_all-clause-others
returns-in_err-write_all-clause-others g c =
    let a = c.args.self.now in
    let b = c.target_begin.new.self in
    let m = c.in_ok-target_begin.ensures.begun in
    others_joined g.D.Disk.view a.disks b.disks c.write_all.new.self.disks c.args.to c.target_begin.ensures.others m.0.host m.2 (c.write_all.ensures.event m.0 m.1).there (c.write_all.ensures.others m.0 m.1)

pub returns-in_err-target_settle-clause-others : goal.returns-in_err-target_settle-clause-others
returns-in_err-target_settle-clause-others g c =
    let a = c.args.self.now in
    let b = c.target_begin.new.self in
    let m = c.in_ok-target_begin.ensures.begun in
    let d = c.write_all.new.self in
    let w = c.in_ok-write_all.ensures.whole in
    let at_host = goes_host _ _ c.in_ok-write_all.ensures.goes m.0 w.0 m.1 w.1 ∙ m.2 in
    let written = others_joined g.D.Disk.view a.disks b.disks d.disks c.args.to c.target_begin.ensures.others m.0.host m.2 (c.write_all.ensures.event m.0 m.1).there (c.write_all.ensures.others m.0 m.1) in
    others_joined g.D.Disk.view a.disks d.disks c.target_settle.new.self.disks c.args.to written w.0.host at_host (c.target_settle.ensures.event w.0 w.1).there (c.target_settle.ensures.others w.0 w.1)

pub returns-clause-others : goal.returns-clause-others
returns-clause-others g c =
    let a = c.args.self.now in
    let b = c.target_begin.new.self in
    let m = c.in_ok-target_begin.ensures.begun in
    let d = c.write_all.new.self in
    let w = c.in_ok-write_all.ensures.whole in
    let at_host = goes_host _ _ c.in_ok-write_all.ensures.goes m.0 w.0 m.1 w.1 ∙ m.2 in
    let written = others_joined g.D.Disk.view a.disks b.disks d.disks c.args.to c.target_begin.ensures.others m.0.host m.2 (c.write_all.ensures.event m.0 m.1).there (c.write_all.ensures.others m.0 m.1) in
    others_joined g.D.Disk.view a.disks d.disks c.target_settle.new.self.disks c.args.to written w.0.host at_host (c.target_settle.ensures.event w.0 w.1).there (c.target_settle.ensures.others w.0 w.1)
