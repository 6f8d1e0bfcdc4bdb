-- Events keep an open cluster, and so wherever they are broken off.
use Rattle.std.proofs.Common.{◌≡◌, ⊎_elim, ℕ, List, [], ◌∷◌, ◌++◌, Option, Some, None, refl, sym, subst}
use Rattle.cache_key.specs.declared.request.Reply.{Reply}
use Rattle.cache_key.specs.declared.request.Request.{Request}
use Rattle.cache_model.specs.Parts.{parts_of}
use Rattle.cluster_model.specs.Site.{SiteShape}
use Rattle.cluster_model.specs.Memory.{Setting}
use Rattle.command_plans.specs.Asked.{SiteEvent, call, renew, begin, copy, settle, seal, drop_file, give_up, SiteAnswer, replied}
use Rattle.command_plans.specs.Kept.{IsSite, KeepsOpen}
use Rattle.command_plans.specs.Stage.{OpenSite, opened, RunStage, RunState}
use Rattle.command_plans.specs.Plan.{Plan}
use Rattle.command_plans.specs.Steps.{call_plan, event_plan, FollowsPlan, IsOpenAnd, PartFollows, UntilRefused, IsPlannedStep, EventRuns, EventsRun, BreaksPlan, RequestBreaks, PlannedBreak, EventBreak, EventsBreakOff}
use Rattle.command_plans.proofs.FaultLemmas.{outcome_cases}
use Rattle.command_plans.proofs.FollowedLemmas.{IsKeptOpen}
use Rattle.command_plans.proofs.KeptPlanLemmas.{KeepsIf, plan_followed, plan_broken, call_keeps, event_keeps}

-- what is so where a cluster is open is so of the one that is kept
at_open : (shape : SiteShape) (stage : RunStage) (P : OpenSite → Type 0) (Q : Type 0) → IsKeptOpen shape stage → ((site : OpenSite) → KeepsOpen shape site → P site → Q) → IsOpenAnd stage P → Q
at_open shape stage P Q (site, is, keeps) then_ so = then_ site keeps (subst (λ (s : RunStage). IsOpenAnd s P) is so)

-- a state that stays
stays_open : (shape : SiteShape) (old new : RunState) → new ≡ old → IsKeptOpen shape old.stage → IsKeptOpen shape new.stage
stays_open shape old new same is = subst (λ (s : RunState). IsKeptOpen shape s.stage) (sym same) is

-- a stage that stays
same_stage : (shape : SiteShape) (old new : RunStage) → new ≡ old → IsKeptOpen shape old → IsKeptOpen shape new
same_stage shape old new same is = subst (λ (s : RunStage). IsKeptOpen shape s) (sym same) is

-- ---- events that run

-- a part of a request
part_keeps : (setting : Setting) (old : RunState) (part : ℕ × Request) (answer : SiteAnswer) (new : RunState) → IsKeptOpen setting.shape old.stage → PartFollows setting old part answer new → IsKeptOpen setting.shape new.stage
part_keeps setting old part answer new is step = at_open setting.shape old.stage (λ site. FollowsPlan setting.shape (call_plan setting site part) old answer new) (IsKeptOpen setting.shape new.stage) is
    (λ site keeps carried. plan_followed setting.shape site (call_plan setting site part) old new answer (call_keeps setting site part keeps) carried)
    step

-- the parts of a request, until one is refused
parts_keep : (setting : Setting) (request : Request) (old : RunState) (parts : List (ℕ × Request)) (replies : List Reply) (answer : SiteAnswer) (new : RunState) → IsKeptOpen setting.shape old.stage → UntilRefused setting request old parts replies answer new
    → IsKeptOpen setting.shape new.stage
parts_keep setting request old [] replies answer new is run = stays_open setting.shape old new run.1 is
parts_keep setting request old (part ∷ parts) replies answer new is (found, mid, step, after) =
    let next : IsKeptOpen setting.shape mid.stage = part_keeps setting old part found mid is step in
    ⊎_elim
    (λ more. parts_keep setting request mid parts (replies ++ more.0 ∷ []) answer new next more.2)
    (λ ended. stays_open setting.shape mid new ended.1 next)
    (outcome_cases found mid answer new _ after)

-- the plan of an event
planned_keeps : (shape : SiteShape) (site : OpenSite) (plan : Option Plan) (old new : RunState) (answer : SiteAnswer) → KeepsIf shape site plan → IsPlannedStep shape plan old answer new → IsKeptOpen shape new.stage
planned_keeps shape site None old new answer keeps step = absurd step
planned_keeps shape site (Some plan) old new answer keeps step = plan_followed shape site plan old new answer (keeps plan refl) step

-- an event with one plan
one_keeps : (setting : Setting) (old new : RunState) (event : SiteEvent) (answer : SiteAnswer) → IsKeptOpen setting.shape old.stage → IsOpenAnd old.stage (λ site. IsPlannedStep setting.shape (event_plan setting site event) old answer new) → IsKeptOpen setting.shape new.stage
one_keeps setting old new event answer is step = at_open setting.shape old.stage (λ site. IsPlannedStep setting.shape (event_plan setting site event) old answer new) (IsKeptOpen setting.shape new.stage) is
    (λ site keeps planned. planned_keeps setting.shape site (event_plan setting site event) old new answer (event_keeps setting site event keeps) planned)
    step

-- an event
run_keeps : (setting : Setting) (old new : RunState) (event : SiteEvent) (answer : SiteAnswer) → IsKeptOpen setting.shape old.stage → EventRuns setting old event answer new → IsKeptOpen setting.shape new.stage
run_keeps setting old new (call request) answer is run = parts_keep setting request old (parts_of setting.shape.partitions request) [] answer new is run
run_keeps setting old new (renew partition) answer is run = one_keeps setting old new (renew partition) answer is run
run_keeps setting old new (begin partition host) answer is run = one_keeps setting old new (begin partition host) answer is run
run_keeps setting old new (copy partition) answer is run = one_keeps setting old new (copy partition) answer is run
run_keeps setting old new (settle partition) answer is run = one_keeps setting old new (settle partition) answer is run
run_keeps setting old new (seal partition) answer is run = one_keeps setting old new (seal partition) answer is run
run_keeps setting old new (drop_file partition) answer is run = one_keeps setting old new (drop_file partition) answer is run
run_keeps setting old new (give_up partition) answer is run = one_keeps setting old new (give_up partition) answer is run

-- several events
runs_keep : (setting : Setting) (old new : RunState) (events : List SiteEvent) (answers : List SiteAnswer) → IsKeptOpen setting.shape old.stage → EventsRun setting old events answers new → IsKeptOpen setting.shape new.stage
runs_keep setting old new [] [] is run = stays_open setting.shape old new run is
runs_keep setting old new [] (answer ∷ answers) is run = absurd run
runs_keep setting old new (event ∷ events) [] is run = absurd run
runs_keep setting old new (event ∷ events) (answer ∷ answers) is (mid, first, rest) = runs_keep setting mid new events answers (run_keeps setting old mid event answer is first) rest

-- ---- events that are broken off

-- within a part of a request, or between two
request_broken : (setting : Setting) (old : RunState) (parts : List (ℕ × Request)) (stage : RunStage) → IsKeptOpen setting.shape old.stage → RequestBreaks setting old parts stage → IsKeptOpen setting.shape stage
request_broken setting old [] stage is broken = same_stage setting.shape old.stage stage broken is
request_broken setting old (part ∷ parts) stage is broken = ⊎_elim
    (λ here. at_open setting.shape old.stage (λ site. BreaksPlan (call_plan setting site part) stage) (IsKeptOpen setting.shape stage) is
    (λ site keeps off. plan_broken setting.shape site (call_plan setting site part) stage (call_keeps setting site part keeps) off)
    here)
    (λ later. request_broken setting later.1 parts stage (part_keeps setting old part (replied later.0) later.1 is later.2) later.3)
    broken

-- within the plan of an event
planned_broken : (shape : SiteShape) (site : OpenSite) (plan : Option Plan) (stage : RunStage) → KeepsIf shape site plan → PlannedBreak plan stage → IsKeptOpen shape stage
planned_broken shape site None stage keeps broken = absurd broken
planned_broken shape site (Some plan) stage keeps broken = plan_broken shape site plan stage (keeps plan refl) broken

-- within an event with one plan
one_broken : (setting : Setting) (old : RunState) (event : SiteEvent) (stage : RunStage) → IsKeptOpen setting.shape old.stage → IsOpenAnd old.stage (λ site. PlannedBreak (event_plan setting site event) stage) → IsKeptOpen setting.shape stage
one_broken setting old event stage is broken = at_open setting.shape old.stage (λ site. PlannedBreak (event_plan setting site event) stage) (IsKeptOpen setting.shape stage) is
    (λ site keeps off. planned_broken setting.shape site (event_plan setting site event) stage (event_keeps setting site event keeps) off)
    broken

-- within an event
event_broken : (setting : Setting) (old : RunState) (event : SiteEvent) (stage : RunStage) → IsKeptOpen setting.shape old.stage → EventBreak setting old event stage → IsKeptOpen setting.shape stage
event_broken setting old (call request) stage is broken = request_broken setting old (parts_of setting.shape.partitions request) stage is broken
event_broken setting old (renew partition) stage is broken = one_broken setting old (renew partition) stage is broken
event_broken setting old (begin partition host) stage is broken = one_broken setting old (begin partition host) stage is broken
event_broken setting old (copy partition) stage is broken = one_broken setting old (copy partition) stage is broken
event_broken setting old (settle partition) stage is broken = one_broken setting old (settle partition) stage is broken
event_broken setting old (seal partition) stage is broken = one_broken setting old (seal partition) stage is broken
event_broken setting old (drop_file partition) stage is broken = one_broken setting old (drop_file partition) stage is broken
event_broken setting old (give_up partition) stage is broken = one_broken setting old (give_up partition) stage is broken

-- within one of several events, or between two
broken_off : (setting : Setting) (old : RunState) (events : List SiteEvent) (stage : RunStage) → IsKeptOpen setting.shape old.stage → EventsBreakOff setting old events stage → IsKeptOpen setting.shape stage
broken_off setting old [] stage is broken = same_stage setting.shape old.stage stage broken is
broken_off setting old (event ∷ events) stage is broken = ⊎_elim
    (λ here. same_stage setting.shape old.stage stage here is)
    (λ more. ⊎_elim
    (λ within. event_broken setting old event stage is within)
    (λ later. broken_off setting later.1 events stage (run_keeps setting old later.1 event later.0 is later.2) later.3)
    more)
    broken

-- ---- the law

-- events keep the cluster
pub events_run_keep : (setting : Setting) (site : OpenSite) (old new : RunState) (events : List SiteEvent) (answers : List SiteAnswer) → IsSite setting.shape → KeepsOpen setting.shape site → old.stage ≡ opened site → EventsRun setting old events answers new
    → (after : OpenSite) × (new.stage ≡ opened after) × KeepsOpen setting.shape after
events_run_keep setting site old new events answers of_site keeps is run = runs_keep setting old new events answers (site, is, keeps) run

-- and so where they are broken off
pub events_broken_keep : (setting : Setting) (site : OpenSite) (old : RunState) (events : List SiteEvent) (stage : RunStage) → IsSite setting.shape → KeepsOpen setting.shape site → old.stage ≡ opened site → EventsBreakOff setting old events stage
    → (after : OpenSite) × (stage ≡ opened after) × KeepsOpen setting.shape after
events_broken_keep setting site old events stage of_site keeps is broken = broken_off setting old events stage (site, is, keeps) broken
