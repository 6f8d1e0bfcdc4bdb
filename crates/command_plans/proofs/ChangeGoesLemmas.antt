-- Where joins and leaves go on: a cluster is open, which is kept where their acts keep it.
use Rattle.std.proofs.Common.{◌≡◌, ℕ, zero, suc, List, [], ◌∷◌, length, map, slice_get, Option, Some, None, Bool, true, false, refl, sym, ◌∙◌, ap, subst, if◌then◌else◌}
use Rattle.roster_form.specs.Membership.{Host}
use Rattle.roster_form.specs.Choice.{is_host}
use Rattle.roster_form.specs.Succession.{last_finished}
use Rattle.roster_form.specs.declared.roster.Roster.{Roster}
use Rattle.roster_form.proofs.PassLemmas.{some_is}
use Rattle.cluster_model.specs.Site.{SiteShape}
use Rattle.cluster_model.specs.Agreement.{Durable}
use Rattle.cluster_model.specs.Members.{pending_join, pending_leave}
use Rattle.cluster_model.specs.Memory.{Setting, PartState}
use Rattle.command_plans.specs.Asked.{SiteRefusal, SiteAnswer}
use Rattle.command_plans.specs.Kept.{HoldsThroughout, HoldsWhereCalled, AreTargets, KeepsCluster, NoneJoins, KeepsOpen}
use Rattle.command_plans.specs.Stage.{OpenSite, opened, RunStage, RunState, Goes, goes_on}
use Rattle.command_plans.specs.Plan.{Plan, answers_with, refused_or, number_of, open_as, with_waits}
use Rattle.command_plans.specs.ChangePlans.{going_on_plan, new_join_plan, join_plan, without_waiting, after_leave, new_leave_plan, leave_again_plan, leave_plan}
use Rattle.command_plans.specs.Steps.{FollowsPlan, BreaksPlan, stage_in}
use Rattle.command_plans.proofs.FollowedLemmas.{cluster_survives, joined_survives, GoesOpen, IsKeptOpen, followed_keeps, broken_keeps, goes_open, told_cluster}

-- ---- a plan

-- the run goes on with a cluster open, of which the disks keep what they should
abbrev pub GoesInCluster : SiteShape → Goes → Type 0
GoesInCluster shape goes = (site : OpenSite) × (goes ≡ goes_on (opened site)) × (site.known ≡ true) × KeepsCluster shape site.memory.parts site.durable

-- at this stage a cluster is open, of which the disks keep what they should
abbrev pub IsInCluster : SiteShape → RunStage → Type 0
IsInCluster shape stage = (after : OpenSite) × (stage ≡ opened after) × (after.known ≡ true) × KeepsCluster shape after.memory.parts after.durable

-- the plan goes on with an open cluster that is kept, where the disks keep it
pub record GoesKept (shape : SiteShape) (site : OpenSite) (plan : Plan) : Type 0 where
  pub durable : plan.durable ≡ site.durable
  pub done_so : (after : Durable) → KeepsCluster shape site.memory.parts after → NoneJoins after → GoesOpen shape (plan.done_goes after)
  pub failed_so : (after : Durable) → KeepsCluster shape site.memory.parts after → NoneJoins after → GoesOpen shape (plan.failed_goes after)
  pub broken_so : (after : Durable) → KeepsCluster shape site.memory.parts after → GoesInCluster shape (plan.failed_goes after)

-- such a plan is followed to an open cluster that is kept
pub change_followed : (shape : SiteShape) (site : OpenSite) (plan : Plan) (old new : RunState) (answer : SiteAnswer) → GoesKept shape site plan → HoldsThroughout (KeepsCluster shape site.memory.parts) plan.acts site.durable → HoldsWhereCalled NoneJoins plan.acts site.durable
    → FollowsPlan shape plan old answer new → IsKeptOpen shape new.stage
change_followed shape site plan old new answer goes holds called carried = followed_keeps shape (KeepsCluster shape site.memory.parts) NoneJoins plan old new answer (cluster_survives shape site.memory.parts) joined_survives
    (subst (λ (d : Durable). HoldsThroughout (KeepsCluster shape site.memory.parts) plan.acts d) (sym goes.durable) holds)
    (subst (λ (d : Durable). HoldsWhereCalled NoneJoins plan.acts d) (sym goes.durable) called)
    goes.done_so
    goes.failed_so
    carried

-- where it is broken off, the disks keep the cluster
pub change_broken : (shape : SiteShape) (site : OpenSite) (plan : Plan) (stage : RunStage) → GoesKept shape site plan → HoldsThroughout (KeepsCluster shape site.memory.parts) plan.acts site.durable → BreaksPlan plan stage → IsInCluster shape stage
change_broken shape site plan stage goes holds broken =
    let left = broken_keeps (KeepsCluster shape site.memory.parts) plan stage (cluster_survives shape site.memory.parts) (subst (λ (d : Durable). HoldsThroughout (KeepsCluster shape site.memory.parts) plan.acts d) (sym goes.durable) holds) broken in
    let so = goes.broken_so left.0 left.1 in
    (so.0, left.2 ∙ ap stage_in so.1, so.2, so.3)

-- ---- where it goes on

-- with the same memory
as_open : (shape : SiteShape) (site : OpenSite) (after : Durable) → KeepsOpen shape site → KeepsCluster shape site.memory.parts after → NoneJoins after → GoesOpen shape (open_as site after)
as_open shape site after keeps is joined = goes_open shape site.memory.parts site site.memory after is joined keeps.known keeps.parts keeps.trails is.targets

-- so where it is broken off
as_broken : (shape : SiteShape) (site : OpenSite) (after : Durable) → KeepsOpen shape site → KeepsCluster shape site.memory.parts after → GoesInCluster shape (open_as site after)
as_broken shape site after keeps is = (_, refl, keeps.known, told_cluster shape site.memory.parts site.memory.parts after is is.targets)

-- an old file that waits may be forgotten, which leaves the moves
forgotten_targets : (shape : SiteShape) (durable : Durable) (host : ℕ) (parts : List PartState) → AreTargets shape durable parts → AreTargets shape durable (map (λ part. with_waits (without_waiting host part.waits) part) parts)
forgotten_targets shape durable host parts targets partition part move e f =
    let was = mapped_move parts partition part e in
    targets partition was.0 move was.1 (sym was.2 ∙ f)
  where
    mapped_move : (all : List PartState) (index : ℕ) (one : PartState) → slice_get (map (λ p. with_waits (without_waiting host p.waits) p) all) index ≡ Some one → (was : PartState) × (slice_get all index ≡ Some was) × (one.move ≡ was.move)
    mapped_move [] index one is = absurd cc
    mapped_move (first ∷ others) zero one is = (first, refl, ap (λ (p : PartState). p.move) (sym (some_is _ one is)))
    mapped_move (first ∷ others) (suc index) one is = mapped_move others index one is

-- there are as many parts
forgotten_length : (host : ℕ) (parts : List PartState) → length (map (λ part. with_waits (without_waiting host part.waits) part) parts) ≡ length parts
forgotten_length host [] = refl
forgotten_length host (part ∷ parts) = ap suc (forgotten_length host parts)

-- after a leave
left_open : (shape : SiteShape) (site : OpenSite) (host : ℕ) (after : Durable) → KeepsOpen shape site → KeepsCluster shape site.memory.parts after → NoneJoins after → GoesOpen shape (after_leave site host after)
left_open shape site host after keeps is joined = goes_open shape site.memory.parts site
    (record { parts = map (λ part. with_waits (without_waiting host part.waits) part) site.memory.parts; trails = site.memory.trails })
    after
    is
    joined
    keeps.known
    (forgotten_length host site.memory.parts ∙ keeps.parts)
    keeps.trails
    (forgotten_targets shape after host site.memory.parts is.targets)

-- ---- joins and leaves

-- the cluster as it is
stays_kept : (shape : SiteShape) (site : OpenSite) (answer : SiteAnswer) → KeepsOpen shape site → GoesKept shape site (answers_with site.durable (goes_on (opened site)) answer)
stays_kept shape site answer keeps = record {
  durable = refl;
  done_so = λ after is joined. (site, refl, keeps);
  failed_so = λ after is joined. (site, refl, keeps);
  broken_so = λ after is. (site, refl, keeps.known, keeps.cluster);
}

-- a plan that is refused or goes on so
or_kept : (shape : SiteShape) (site : OpenSite) (refusal : Option SiteRefusal) (plan : Plan) → KeepsOpen shape site → GoesKept shape site plan → GoesKept shape site (refused_or refusal (goes_on (opened site)) plan)
or_kept shape site None plan keeps goes = goes
or_kept shape site (Some refusal) plan keeps goes = record {
  durable = goes.durable;
  done_so = λ after is joined. (site, refl, keeps);
  failed_so = λ after is joined. (site, refl, keeps);
  broken_so = λ after is. (site, refl, keeps.known, keeps.cluster);
}

-- one of two plans
if_kept : (shape : SiteShape) (site : OpenSite) (b : Bool) (one other : Plan) → GoesKept shape site one → GoesKept shape site other → GoesKept shape site (if b then one else other)
if_kept shape site true one other first second = first
if_kept shape site false one other first second = second

-- a change that goes on
going_on_kept : (setting : Setting) (site : OpenSite) (host : Host) (answer : SiteAnswer) (writing : Option Roster) → KeepsOpen setting.shape site → GoesKept setting.shape site (going_on_plan setting site host answer writing)
going_on_kept setting site host answer None keeps = stays_kept setting.shape site answer keeps
going_on_kept setting site host answer (Some new) keeps = record {
  durable = refl;
  done_so = λ after is joined. as_open setting.shape site after keeps is joined;
  failed_so = λ after is joined. as_open setting.shape site after keeps is joined;
  broken_so = λ after is. as_broken setting.shape site after keeps is;
}

-- a join that begins
new_join_kept : (setting : Setting) (site : OpenSite) (host : Host) (last : Option Roster) → KeepsOpen setting.shape site → GoesKept setting.shape site (new_join_plan setting site host last)
new_join_kept setting site host None keeps = stays_kept setting.shape site _ keeps
new_join_kept setting site host (Some last) keeps = record {
  durable = refl;
  done_so = λ after is joined. as_open setting.shape site after keeps is joined;
  failed_so = λ after is joined. as_open setting.shape site after keeps is joined;
  broken_so = λ after is. as_broken setting.shape site after keeps is;
}

-- a join
pub join_kept : (setting : Setting) (site : OpenSite) (host : Host) → KeepsOpen setting.shape site → GoesKept setting.shape site (join_plan setting site host)
join_kept setting site host keeps = or_kept setting.shape site _ _ keeps
    (if_kept setting.shape site (is_host (pending_join site.durable.rosters) host) _ _ (going_on_kept setting site host _ site.durable.rosters.writing keeps) (new_join_kept setting site host (last_finished site.durable.rosters) keeps))

-- a leave that begins
new_leave_kept : (setting : Setting) (site : OpenSite) (host : Host) (last : Option Roster) → KeepsOpen setting.shape site → GoesKept setting.shape site (new_leave_plan setting site host last)
new_leave_kept setting site host None keeps = stays_kept setting.shape site _ keeps
new_leave_kept setting site host (Some last) keeps = or_kept setting.shape site _ _ keeps
    (record {
      durable = refl;
      done_so = λ after is joined. left_open setting.shape site (number_of setting.shape.hosts host) after keeps is joined;
      failed_so = λ after is joined. as_open setting.shape site after keeps is joined;
      broken_so = λ after is. as_broken setting.shape site after keeps is;
    })

-- one that goes on
leave_again_kept : (setting : Setting) (site : OpenSite) (host : Host) (writing : Option Roster) → KeepsOpen setting.shape site → GoesKept setting.shape site (leave_again_plan setting site host writing)
leave_again_kept setting site host None keeps = stays_kept setting.shape site _ keeps
leave_again_kept setting site host (Some new) keeps = record {
  durable = refl;
  done_so = λ after is joined. left_open setting.shape site (number_of setting.shape.hosts host) after keeps is joined;
  failed_so = λ after is joined. as_open setting.shape site after keeps is joined;
  broken_so = λ after is. as_broken setting.shape site after keeps is;
}

-- a leave
pub leave_kept : (setting : Setting) (site : OpenSite) (host : Host) → KeepsOpen setting.shape site → GoesKept setting.shape site (leave_plan setting site host)
leave_kept setting site host keeps = if_kept setting.shape site (is_host (pending_leave site.durable.rosters) host) _ _ (leave_again_kept setting site host site.durable.rosters.writing keeps)
    (or_kept setting.shape site _ _ keeps (new_leave_kept setting site host (last_finished site.durable.rosters) keeps))
