use Rattle.std.proofs.Common.{◌≡◌, ◌⊎◌, inl, inr, ℕ, ◌∙◌, ap, subst, arith, length, slice_get, Some}
use Rattle.std.proofs.lemmas.Result.{on_ok_weaker, on_err_weaker}
use Rattle.cache_model.specs.Change.{change_of}
use Rattle.disk_lane.specs.Lanes.{LaneImage}
use Rattle.disk_lane.proofs.LaneLemmas.{disk_there, failure_later}
use Rattle.store_journal.specs.declared.store.Store.{Store}
use Rattle.partition_cell.proofs.EnteredLemmas.{grown_more, longer}
use Rattle.partition_cell.specs.Cells.{Cell, Surviving, SurvivingBefore}
use Rattle.partition_cell.proofs.BeyondLemmas.{others_joined}
use Rattle.partition_cell.proofs.StepLemmas.{event_weaker, enter_event}
use Rattle.partition_cell.proofs.cell.Cell.enter.Goals as goal

pub returns-in_err-make_fit-clause-event : goal.returns-in_err-make_fit-clause-event
returns-in_err-make_fit-clause-event g c =
    let a = c.args.self.now in
    event_weaker g.D.Disk.view a.owner a.disks c.make_fit.new.self.disks (Surviving a) (λ (ms : LaneImage). Surviving a ms ⊎ SurvivingBefore a (change_of c.args.prepared.mutation) ms)
    (λ ms survives. inl survives) c.make_fit.ensures.event

pub returns-clause-event : goal.returns-clause-event
returns-clause-event g c =
    let m = c.make_fit.ensures in
    enter_event g.D.Disk.view c.args.self.now c.make_fit.new.self c.commit.new.self.disks (change_of c.args.prepared.mutation) m.event m.known m.kept.1 m.kept.2 m.kept.0 c.commit.ensures.event

pub returns-clause-fault : goal.returns-clause-fault
returns-clause-fault g c host is =
    let f = c.commit.ensures.fault host is in
    let m = c.make_fit.ensures in
    let at = f.0 ∙ m.kept.1 in (
      at,
      failure_later g.D.Disk.view c.args.self.now.disks c.make_fit.new.self.disks c.commit.new.self.disks host c.args.self.now.owner (Surviving c.args.self.now) m.event f.1,
    )

pub returns-clause-others : goal.returns-clause-others
returns-clause-others g c =
    let m = c.make_fit.ensures in
    others_joined g.D.Disk.view c.args.self.now.disks c.make_fit.new.self.disks c.commit.new.self.disks c.args.self.now.owner m.others c.make_fit.new.self.owner m.kept.1 c.commit.ensures.event.there c.commit.ensures.others

pub returns-clause-grown : goal.returns-clause-grown
returns-clause-grown g c =
    let added = length c.args.prepared.tail in
    let kept = c.commit.ensures.kept in
    let store = c.commit.ensures.store in
    on_ok_weaker c.commit.result
    (λ durable. grown_more c.args.self.now c.make_fit.new.self c.commit.new.self c.args.epoch added c.in_ok-make_fit.ensures.grown
    (longer c.make_fit.new.self c.commit.new.self added kept store.0 store.1 durable.1))
    c.commit.ensures.durable

pub returns-clause-refused : goal.returns-clause-refused
returns-clause-refused g c =
    let kept = c.commit.ensures.kept in
    let store = c.commit.ensures.store in
    on_err_weaker c.commit.result
    (λ refused.
    let end = ap (λ (s : Store). s.end) refused.1 in (
      refused.0 ∙ c.make_fit.ensures.kept.0,
      inr (
        grown_more c.args.self.now c.make_fit.new.self c.commit.new.self c.args.epoch 0 c.in_ok-make_fit.ensures.grown
            (longer c.make_fit.new.self c.commit.new.self 0 kept store.0 store.1 (omega (arith, end))),
        refused.2,
      ),
    ))
    c.commit.ensures.refused

pub returns-clause-no_memory : goal.returns-clause-no_memory
returns-clause-no_memory g c err disk at spares =
    let m = c.make_fit.ensures in
    let mid = disk_there c.make_fit.new.self.disks c.make_fit.new.self.owner c.commit.ensures.event.there in
    let is = subst (λ (h : ℕ). slice_get c.make_fit.new.self.disks h ≡ Some mid.0) m.kept.1 mid.1 in
    absurd (c.commit.ensures.no_memory err mid.0 mid.1 ((m.event.onward disk mid.0 at is).spares spares))
