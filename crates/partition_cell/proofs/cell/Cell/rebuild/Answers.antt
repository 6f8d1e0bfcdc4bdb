use Rattle.std.proofs.Common.{◌≡◌, ℕ, inl, inr, arith, sym, subst, ◌∙◌, ap, Err}
use Rattle.std.proofs.lemmas.Result.{err_from_is_err_and}
use Rattle.disk_trait.specs.declared.DiskRefusal.TheVariants.{Failed}
use Rattle.store_journal.specs.declared.store.Store.{Store}
use Rattle.cache_model.specs.PlainList.{live}
use Rattle.partition_map.specs.Extents.{Maps, caches_in}
use Rattle.partition_cell.specs.Beyond.{OthersStay}
use Rattle.partition_cell.specs.Entered.{next_id, IsNotRenewed}
use Rattle.partition_cell.proofs.EnteredLemmas.{where_refused}
use Rattle.partition_cell.proofs.BeyondLemmas.{others_joined}
use Rattle.disk_lane.specs.Lanes.{LaneEvent, HasFailedOn}
use Rattle.partition_cell.specs.Cells.{Surviving}
use Rattle.disk_lane.proofs.LaneLemmas.{failure_later}
use Rattle.partition_cell.proofs.BoardLemmas.{known_joined}
use Rattle.partition_cell.proofs.StepLemmas.{cells_joined, same_list_survives}
use Rattle.partition_cell.proofs.cell.Cell.rebuild.Goals as goal

pub returns-in_err-id-clause-event : goal.returns-in_err-id-clause-event
returns-in_err-id-clause-event g c =
    let a = c.args.self.now in
    let b = c.build_whole.new.self in
    let m = c.in_ok-build_whole.ensures.settled in
    let owner = c.owner-host.ensures in
    (cells_joined g.D.Disk.view a.owner a b c.target_seal.new.self.disks (same_list_survives a b c.build_whole.ensures.same) (subst (λ (h : ℕ). LaneEvent g.D.Disk.view h a.disks b.disks (Surviving a)) owner c.build_whole.ensures.event) m.0.host (m.2 ∙ owner) (c.target_seal.ensures.event m.0 m.1))

pub returns-clause-event : goal.returns-clause-event
returns-clause-event g c =
    let a = c.args.self.now in
    let b = c.build_whole.new.self in
    let m = c.in_ok-build_whole.ensures.settled in
    let owner = c.owner-host.ensures in
    (cells_joined g.D.Disk.view a.owner a b c.target_seal.new.self.disks (same_list_survives a b c.build_whole.ensures.same) (subst (λ (h : ℕ). LaneEvent g.D.Disk.view h a.disks b.disks (Surviving a)) owner c.build_whole.ensures.event) m.0.host (m.2 ∙ owner) (c.target_seal.ensures.event m.0 m.1))

pub returns-in_err-id-clause-failed : goal.returns-in_err-id-clause-failed
returns-in_err-id-clause-failed g c is =
    let a = c.args.self.now in
    let b = c.build_whole.new.self in
    let m = c.in_ok-build_whole.ensures.settled in
    let owner = c.owner-host.ensures in
    let p = err_from_is_err_and c.from_residual-in_err-id.result c.from_residual-in_err-id.ensures.1 in
    let e : p.0 ≡ Failed = cc (sym p.1 ∙ is) in
    failure_later g.D.Disk.view a.disks b.disks c.target_seal.new.self.disks a.owner a.owner (Surviving a) (subst (λ (h : ℕ). LaneEvent g.D.Disk.view h a.disks b.disks (Surviving a)) owner c.build_whole.ensures.event)
    (subst (λ (h : ℕ). HasFailedOn g.D.Disk.view h b.disks c.target_seal.new.self.disks) (m.2 ∙ owner) (c.target_seal.ensures.failed m.0 m.1 (c.in_err-id.was ∙ ap Err (sym p.2 ∙ e))))

pub returns-clause-sealed : goal.returns-clause-sealed
returns-clause-sealed g c =
    let m = c.in_ok-build_whole.ensures.settled in
    let s = c.in_ok-id.ensures.sealed m.0 m.1 in
    (s.0 ∙ sym s.1, s.4)

pub returns-clause-anew : goal.returns-clause-anew
returns-clause-anew g c =
    let a = c.args.self.now in
    let b = c.build_whole.new.self in
    let m = c.in_ok-build_whole.ensures.settled in
    let owner = c.owner-host.ensures in
    let s = c.in_ok-id.ensures.sealed m.0 m.1 in
    let same = c.build_whole.ensures.same in
    let size = ap (λ (l : Maps). live (caches_in l.extents)) same.maps in
    let file = ap (λ (x : Store). x.file) same.store in
    let other = c.in_ok-id.ensures.other m.0 m.1 (m.2 ∙ owner ∙ sym same.owner) in
    record {
      id = s.1 ∙ m.3 ∙ ap (λ (h : ℕ). next_id a h c.args.epoch) owner;
      other = omega (arith, other, file);
      end = omega (arith, c.in_ok-id.ensures.plain, size);
      told = omega (arith, c.target_seal.ensures.told, same.told);
    }

pub returns-in_err-build_whole-clause-refused : goal.returns-in_err-build_whole-clause-refused
returns-in_err-build_whole-clause-refused g c =
    let same = c.build_whole.ensures.same in
    where_refused c.from_residual.result (IsNotRenewed c.args.self.now c.build_whole.new.self) (record { store = same.store; flight = same.flight; told = inl same.told })

pub returns-in_err-id-clause-refused : goal.returns-in_err-id-clause-refused
returns-in_err-id-clause-refused g c =
    let same = c.build_whole.ensures.same in
    let refused = c.in_err-id.ensures.refused in
    where_refused c.from_residual-in_err-id.result (IsNotRenewed c.args.self.now c.target_seal.new.self)
    (record { store = refused.1 ∙ same.store; flight = refused.2 ∙ same.flight; told = inr (omega (arith, c.target_seal.ensures.told, same.told)) })

pub returns-in_err-build_whole-clause-others : goal.returns-in_err-build_whole-clause-others
returns-in_err-build_whole-clause-others g c =
    subst (λ (h : ℕ). OthersStay g.D.Disk.view h c.args.self.now.disks c.build_whole.new.self.disks) c.owner-host.ensures c.build_whole.ensures.others

pub returns-in_err-id-clause-others : goal.returns-in_err-id-clause-others
returns-in_err-id-clause-others g c =
    let a = c.args.self.now in
    let b = c.build_whole.new.self in
    let m = c.in_ok-build_whole.ensures.settled in
    let owner = c.owner-host.ensures in
    others_joined g.D.Disk.view a.disks b.disks c.target_seal.new.self.disks a.owner (subst (λ (h : ℕ). OthersStay g.D.Disk.view h a.disks b.disks) owner c.build_whole.ensures.others) m.0.host (m.2 ∙ owner)
    (c.target_seal.ensures.event m.0 m.1).there (c.target_seal.ensures.others m.0 m.1)

pub returns-clause-others : goal.returns-clause-others
returns-clause-others g c =
    let a = c.args.self.now in
    let b = c.build_whole.new.self in
    let m = c.in_ok-build_whole.ensures.settled in
    let owner = c.owner-host.ensures in
    others_joined g.D.Disk.view a.disks b.disks c.target_seal.new.self.disks a.owner (subst (λ (h : ℕ). OthersStay g.D.Disk.view h a.disks b.disks) owner c.build_whole.ensures.others) m.0.host (m.2 ∙ owner)
    (c.target_seal.ensures.event m.0 m.1).there (c.target_seal.ensures.others m.0 m.1)

pub returns-clause-owner : goal.returns-clause-owner
returns-clause-owner g c =
    let a = c.args.self.now in
    let b = c.build_whole.new.self in
    let m = c.in_ok-build_whole.ensures.settled in
    let owner = c.owner-host.ensures in
    let s = c.in_ok-id.ensures.sealed m.0 m.1 in
    s.3 ∙ m.2 ∙ owner

pub returns-in_err-id-clause-known : goal.returns-in_err-id-clause-known
returns-in_err-id-clause-known g c = known_joined _ c.build_whole.new.self.board _ c.build_whole.ensures.same.known c.target_seal.ensures.known

pub returns-clause-known : goal.returns-clause-known
returns-clause-known g c = known_joined _ c.build_whole.new.self.board _ c.build_whole.ensures.same.known c.target_seal.ensures.known
