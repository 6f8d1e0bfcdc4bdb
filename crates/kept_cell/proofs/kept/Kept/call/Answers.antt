use Rattle.std.proofs.Common.{◌≡◌, ◌⊎◌, OnOk, OnErr, IsErrOf, Some, sym, subst, ◌∙◌}
use Rattle.cache_key.specs.declared.request.Mutation.{Mutation}
use Rattle.cache_model.specs.Change.{change_of}
use Rattle.call_trail.specs.declared.refusal.CallRefusal.TheVariants.{Fault}
use Rattle.disk_lane.specs.Lanes.{LaneImage, LaneEvent}
use Rattle.partition_cell.specs.Cells.{Surviving, SurvivingBefore}
use Rattle.partition_cell.specs.Entered.{record_length, HasGrown, IsNotEntered}
use Rattle.kept_cell.specs.KeptCells.{IsHeldBack}
use Rattle.kept_cell.proofs.kept.Kept.call.Goals as goal

pub returns-clause-event : goal.returns-clause-event
returns-clause-event g c mutation is =
    let a = c.args.self.now.cell in
    let both : Some c.in-Some.mutation ≡ Some mutation = sym c.in-Some.is ∙ c.as_mutation.ensures ∙ is in
    let same : c.in-Some.mutation ≡ mutation = cc both in
    subst (λ (m : Mutation). LaneEvent g.D.Disk.view a.owner a.disks c.change.new.self.cell.disks (λ (ms : LaneImage). Surviving a ms ⊎ SurvivingBefore a (change_of m) ms)) same c.change.ensures.event

pub returns-clause-grown : goal.returns-clause-grown
returns-clause-grown g c mutation is =
    let both : Some c.in-Some.mutation ≡ Some mutation = sym c.in-Some.is ∙ c.as_mutation.ensures ∙ is in
    let same : c.in-Some.mutation ≡ mutation = cc both in
    subst (λ (m : Mutation). OnOk c.change.result (HasGrown c.args.self.now.cell c.change.new.self.cell c.args.epoch (record_length m))) same c.change.ensures.grown

pub returns-clause-left : goal.returns-clause-left
returns-clause-left g c mutation is =
    let both : Some c.in-Some.mutation ≡ Some mutation = sym c.in-Some.is ∙ c.as_mutation.ensures ∙ is in
    let same : c.in-Some.mutation ≡ mutation = cc both in
    subst (λ (m : Mutation). OnErr c.change.result (IsHeldBack c.args.self.now.cell c.change.new.self.cell c.args.epoch m)) same c.change.ensures.left

pub returns-clause-failed : goal.returns-clause-failed
returns-clause-failed g c mutation host is =
    let both : Some c.in-Some.mutation ≡ Some mutation = sym c.in-Some.is ∙ c.as_mutation.ensures ∙ is in
    let same : c.in-Some.mutation ≡ mutation = cc both in
    subst (λ (m : Mutation). IsErrOf c.change.result (Fault host) → IsNotEntered c.args.self.now.cell c.change.new.self.cell c.args.epoch m) same (c.change.ensures.failed host)
