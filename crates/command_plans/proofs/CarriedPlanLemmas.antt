-- Where the acts of a plan are carried out over images of the site, they keep its invariant.
use Rattle.std.proofs.Common.{◌≡◌, ℕ, List, [], ◌∷◌, Some}
use Rattle.cache_key.specs.declared.request.Request.{Request}
use Rattle.roster_form.specs.Membership.{Host}
use Rattle.cluster_model.specs.Agreement.{two_of, Durable, KeepsSite}
use Rattle.cluster_model.specs.Acts.{Act, done, KeepsRostersThroughout}
use Rattle.cluster_model.specs.Carried.{IsCarriedOver}
use Rattle.cluster_model.specs.Memory.{Setting, PartState}
use Rattle.cluster_model.specs.Site.{SiteShape, SiteImage}
use Rattle.cluster_model.proofs.CarriedLemmas.{carried_keeps}
use Rattle.command_plans.specs.Asked.{SiteEvent}
use Rattle.command_plans.specs.ChangePlans.{join_plan, leave_plan}
use Rattle.command_plans.specs.Kept.{IsSite, HoldsThroughout, KeepsCluster, KeepsOpen}
use Rattle.command_plans.specs.Plan.{Plan}
use Rattle.command_plans.specs.Stage.{OpenSite}
use Rattle.command_plans.specs.Steps.{call_plan, event_plan}
use Rattle.command_plans.proofs.ChangeKeptLemmas.{join_held, leave_held}
use Rattle.command_plans.proofs.KeptActLemmas.{KeepsHere}
use Rattle.command_plans.proofs.KeptPlanLemmas.{KeepsAsOpen, call_keeps, event_keeps}

-- a cluster that is kept throughout has its rosters kept
rosters_throughout : (shape : SiteShape) (parts : List PartState) (acts : List Act) (durable : Durable) → HoldsThroughout (KeepsCluster shape parts) acts durable → KeepsRostersThroughout acts durable
rosters_throughout shape parts [] durable holds = holds.rosters.rosters
rosters_throughout shape parts (act ∷ acts) durable holds = (holds.0.rosters.rosters, holds.1.rosters.rosters, rosters_throughout shape parts acts (done act durable) holds.2)

here_throughout : (shape : SiteShape) (site : OpenSite) (acts : List Act) (durable : Durable) → HoldsThroughout (KeepsHere shape site) acts durable → KeepsRostersThroughout acts durable
here_throughout shape site [] durable holds = holds.0.rosters.rosters
here_throughout shape site (act ∷ acts) durable holds = (holds.0.0.rosters.rosters, holds.1.0.rosters.rosters, here_throughout shape site acts (done act durable) holds.2)

-- a join, and a leave
pub join_carried : (setting : Setting) (site : OpenSite) (host : Host) (kept : Durable) (old new : SiteImage) → IsSite setting.shape → KeepsOpen setting.shape site → KeepsSite setting.shape site.durable (two_of site.durable.rosters) old
    → IsCarriedOver setting.shape (join_plan setting site host).acts site.durable kept old new → KeepsSite setting.shape kept (two_of kept.rosters) new
join_carried setting site host kept old new of_site keeps saved carried =
    carried_keeps setting.shape (join_plan setting site host).acts site.durable kept old new saved (rosters_throughout setting.shape site.memory.parts (join_plan setting site host).acts site.durable (join_held setting site host of_site keeps)) carried

pub leave_carried : (setting : Setting) (site : OpenSite) (host : Host) (kept : Durable) (old new : SiteImage) → IsSite setting.shape → KeepsOpen setting.shape site → KeepsSite setting.shape site.durable (two_of site.durable.rosters) old
    → IsCarriedOver setting.shape (leave_plan setting site host).acts site.durable kept old new → KeepsSite setting.shape kept (two_of kept.rosters) new
leave_carried setting site host kept old new of_site keeps saved carried =
    carried_keeps setting.shape (leave_plan setting site host).acts site.durable kept old new saved (rosters_throughout setting.shape site.memory.parts (leave_plan setting site host).acts site.durable (leave_held setting site host of_site keeps)) carried

-- an event
pub event_carried : (setting : Setting) (site : OpenSite) (event : SiteEvent) (plan : Plan) (kept : Durable) (old new : SiteImage) → KeepsOpen setting.shape site → event_plan setting site event ≡ Some plan → KeepsSite setting.shape plan.durable (two_of plan.durable.rosters) old
    → IsCarriedOver setting.shape plan.acts plan.durable kept old new → KeepsSite setting.shape kept (two_of kept.rosters) new
event_carried setting site event plan kept old new keeps is saved carried =
    let holds : KeepsAsOpen setting.shape site plan = event_keeps setting site event keeps plan is in
    carried_keeps setting.shape plan.acts plan.durable kept old new saved (here_throughout setting.shape site plan.acts plan.durable holds.holds) carried

-- a part of a request
pub call_carried : (setting : Setting) (site : OpenSite) (part : ℕ × Request) (kept : Durable) (old new : SiteImage) → KeepsOpen setting.shape site → KeepsSite setting.shape (call_plan setting site part).durable (two_of (call_plan setting site part).durable.rosters) old
    → IsCarriedOver setting.shape (call_plan setting site part).acts (call_plan setting site part).durable kept old new → KeepsSite setting.shape kept (two_of kept.rosters) new
call_carried setting site part kept old new keeps saved carried =
    let plan = call_plan setting site part in
    carried_keeps setting.shape plan.acts plan.durable kept old new saved (here_throughout setting.shape site plan.acts plan.durable (call_keeps setting site part keeps).holds) carried
