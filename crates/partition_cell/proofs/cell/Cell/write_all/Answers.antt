use Rattle.std.proofs.Common.{◌≡◌, ℕ, ◌<◌, arith, Option, Some, refl, sym, subst, ◌∙◌, ap, Err}
use Rattle.std.proofs.lemmas.Result.{err_from_is_err_and}
use Rattle.disk_trait.specs.declared.DiskRefusal.TheVariants.{Failed}
use Rattle.partition_cell.specs.declared.moving.Moving.{Moving}
use Rattle.disk_lane.specs.Lanes.{HasFailedOn}
use Rattle.partition_map.specs.Extents.{Maps, caches_in}
use Rattle.partition_cell.specs.Cells.{Cell, Surviving, caches_of, left_in}
use Rattle.partition_cell.proofs.EventLemmas.{kinds_stay}
use Rattle.disk_lane.proofs.LaneLemmas.{failure_later}
use Rattle.partition_cell.proofs.BeyondLemmas.{others_none, others_joined}
use Rattle.partition_cell.proofs.StepLemmas.{goes_host, goes_id, cells_joined, same_list_survives, same_list_built}
use Rattle.partition_cell.proofs.cell.Cell.write_all.Goals as goal

pub records-init : goal.records-init
records-init g c = record {
  moving = c.requires.moving;
  kept = refl;
  goes = record { before = c.requires.moving.0; after = c.requires.moving.0; was = c.requires.moving.1; is = c.requires.moving.1; host = refl; id = refl };
  event = λ old at. let target = c.self.invariant.moves old (ap (λ (s : Cell g.row.D.Denot). s.moving) c.self.view_is ∙ at) in
      rw (← c.self.view_is) (kinds_stay g.D.Disk.view _ old.host _ _ _ _ _ _ c.self.invariant.ordered c.self.invariant.hosts c.self.invariant.kinds (omega (arith, c.self.invariant.hosts, target.there)));
  others = λ old at. others_none g.D.Disk.view c.args.self.now.disks old.host;
}

pub records-preserved : goal.records-preserved
records-preserved g c =
    let a = c.args.self.now in
    let so_far = c.records.invariant in
    let now = c.in_ok-target_write.ensures.moved so_far.moving.0 so_far.moving.1 in
    record {
      moving = (now.0, now.1);
      kept = c.target_write.ensures.kept ∙ ap (λ (x : Cell g.row.D.Denot). record x { disks = c.target_write.new.self.disks; moving = c.target_write.new.self.moving }) so_far.kept;
      goes = record { before = so_far.goes.before; after = now.0; was = so_far.goes.was; is = now.1; host = now.2 ∙ goes_host _ _ so_far.goes so_far.goes.before so_far.moving.0 so_far.goes.was so_far.moving.1; id = now.3 ∙ goes_id _ _ so_far.goes so_far.goes.before so_far.moving.0 so_far.goes.was so_far.moving.1 };
      event = λ old at.
          cells_joined g.D.Disk.view old.host a c.records.self c.target_write.new.self.disks
          (same_list_survives a c.records.self (same_list_built a c.records.self so_far.kept))
          (so_far.event old at) so_far.moving.0.host (goes_host _ _ so_far.goes old so_far.moving.0 at so_far.moving.1)
          (c.target_write.ensures.event so_far.moving.0 so_far.moving.1);
      others = λ old at.
          others_joined g.D.Disk.view a.disks c.records.self.disks c.target_write.new.self.disks old.host (so_far.others old at) so_far.moving.0.host (goes_host _ _ so_far.goes old so_far.moving.0 at so_far.moving.1)
          (c.target_write.ensures.event so_far.moving.0 so_far.moving.1).there (c.target_write.ensures.others so_far.moving.0 so_far.moving.1);
    }

pub returns-in_err-target_write-clause-event : goal.returns-in_err-target_write-clause-event
returns-in_err-target_write-clause-event g c old at =
    let a = c.args.self.now in
    let so_far = c.records.invariant in
    cells_joined g.D.Disk.view old.host a c.records.self c.target_write.new.self.disks
    (same_list_survives a c.records.self (same_list_built a c.records.self so_far.kept))
    (so_far.event old at) so_far.moving.0.host (goes_host _ _ so_far.goes old so_far.moving.0 at so_far.moving.1)
    (c.target_write.ensures.event so_far.moving.0 so_far.moving.1)

pub returns-in-Whole-clause-event : goal.returns-in-Whole-clause-event
returns-in-Whole-clause-event g c old at =
    let a = c.args.self.now in
    let so_far = c.records.invariant in
    cells_joined g.D.Disk.view old.host a c.records.self c.target_write.new.self.disks
    (same_list_survives a c.records.self (same_list_built a c.records.self so_far.kept))
    (so_far.event old at) so_far.moving.0.host (goes_host _ _ so_far.goes old so_far.moving.0 at so_far.moving.1)
    (c.target_write.ensures.event so_far.moving.0 so_far.moving.1)

pub returns-in_err-target_write-clause-failed : goal.returns-in_err-target_write-clause-failed
returns-in_err-target_write-clause-failed g c old at is =
    let a = c.args.self.now in
    let so_far = c.records.invariant in
    let p = err_from_is_err_and c.from_residual.result c.from_residual.ensures.1 in
    let e : p.0 ≡ Failed = cc (sym p.1 ∙ is) in
    failure_later g.D.Disk.view a.disks c.records.self.disks c.target_write.new.self.disks old.host old.host (Surviving a) (so_far.event old at)
    (subst (λ (h : ℕ). HasFailedOn g.D.Disk.view h c.records.self.disks c.target_write.new.self.disks) (goes_host _ _ so_far.goes old so_far.moving.0 at so_far.moving.1)
    (c.target_write.ensures.failed so_far.moving.0 so_far.moving.1 (c.in_err-target_write.was ∙ ap Err (sym p.2 ∙ e))))

pub returns-in-Whole-clause-whole : goal.returns-in-Whole-clause-whole
returns-in-Whole-clause-whole g c =
    let so_far = c.records.invariant in
    let now = c.in_ok-target_write.ensures.moved so_far.moving.0 so_far.moving.1 in
    (now.0, now.1, now.5 c.in-Whole.is)

pub returns-in-Whole-clause-goes : goal.returns-in-Whole-clause-goes
returns-in-Whole-clause-goes g c =
    let so_far = c.records.invariant in
    let now = c.in_ok-target_write.ensures.moved so_far.moving.0 so_far.moving.1 in
    record { before = so_far.goes.before; after = now.0; was = so_far.goes.was; is = now.1; host = now.2 ∙ goes_host _ _ so_far.goes so_far.goes.before so_far.moving.0 so_far.goes.was so_far.moving.1; id = now.3 ∙ goes_id _ _ so_far.goes so_far.goes.before so_far.moving.0 so_far.goes.was so_far.moving.1 }

pub records-smaller : goal.records-smaller
records-smaller g c =
    let so_far = c.records.invariant in
    let now = c.in_ok-target_write.ensures.moved so_far.moving.0 so_far.moving.1 in
    let maps = ap (λ (x : Cell g.row.D.Denot). x.maps) c.target_write.ensures.kept in
    let caches = caches_of c.records.self in
    subst (λ (m : Maps). left_in (caches_in m.extents) c.target_write.new.self.moving < left_in caches c.records.self.moving) (sym maps)
    (subst (λ (o : Option Moving). left_in caches o < left_in caches c.records.self.moving) (sym now.1)
    (subst (λ (o : Option Moving). left_in caches (Some now.0) < left_in caches o) (sym so_far.moving.1) (now.4 c.in-More.is)))

pub returns-in_err-target_write-clause-others : goal.returns-in_err-target_write-clause-others
returns-in_err-target_write-clause-others g c old at =
    let so_far = c.records.invariant in
    others_joined g.D.Disk.view c.args.self.now.disks c.records.self.disks c.target_write.new.self.disks old.host (so_far.others old at) so_far.moving.0.host (goes_host _ _ so_far.goes old so_far.moving.0 at so_far.moving.1)
    (c.target_write.ensures.event so_far.moving.0 so_far.moving.1).there (c.target_write.ensures.others so_far.moving.0 so_far.moving.1)

pub returns-in-Whole-clause-others : goal.returns-in-Whole-clause-others
returns-in-Whole-clause-others g c old at =
    let so_far = c.records.invariant in
    others_joined g.D.Disk.view c.args.self.now.disks c.records.self.disks c.target_write.new.self.disks old.host (so_far.others old at) so_far.moving.0.host (goes_host _ _ so_far.goes old so_far.moving.0 at so_far.moving.1)
    (c.target_write.ensures.event so_far.moving.0 so_far.moving.1).there (c.target_write.ensures.others so_far.moving.0 so_far.moving.1)
