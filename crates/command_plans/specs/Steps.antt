-- How a run follows its plans: each is carried out, or a call of it fails, or it is broken off.
use Rattle.std.specs.Prelude.{⊤, ◌≡◌, ◌≢◌, ◌⊎◌, ℕ, suc, List, [], ◌∷◌, ◌++◌, slice_get, Option, Some, None, false, Contains}
use Rattle.cache_key.specs.declared.request.Reply.{Reply}
use Rattle.cache_key.specs.declared.request.Request.{Request}
use Rattle.cache_model.specs.Caches.{Caches}
use Rattle.cache_model.specs.Parts.{parts_of, joined_reply}
use Rattle.cache_model.specs.Reply.{mutation_of}
use Rattle.fault_count.specs.Rose.{Rose}
use Rattle.roster_form.specs.Membership.{Host}
use Rattle.cluster_model.specs.Lane.{HostedStore, LaneStanding}
use Rattle.cluster_model.specs.Site.{SiteShape, DiskOf, lane_disk, FaultCounts, NoneFell}
use Rattle.cluster_model.specs.Agreement.{Durable}
use Rattle.cluster_model.specs.Memory.{Setting}
use Rattle.cluster_model.specs.Acts.{Act, quiet, disk_called, tried, all_done, AreCutShort}
use Rattle.command_plans.specs.Asked.{SiteEvent, call, renew, begin, copy, settle, seal, drop_file, give_up, SiteCommand, create, recover, stop, dump, steps, join, leave, no_cluster, cluster_open, fault_of, PartitionShown, SiteAnswer, refused, stopped, dumped, replied, CommandAnswer, answered, stepped}
use Rattle.command_plans.specs.Canonical.{contents_of}
use Rattle.command_plans.specs.Found.{FoundSite}
use Rattle.command_plans.specs.Stage.{OpenSite, RunStage, unknown, found_as, closed, opened, RunState, Goes, goes_on, restarts, GoesTo}
use Rattle.command_plans.specs.Plan.{Plan, answers_with, name_of, host_of_disk}
use Rattle.command_plans.specs.PartPlans.{OpenPart, refused_at, asked_plan, renew_plan, begin_plan, copy_plan, settle_plan, seal_plan, give_up_plan, moving_plan, drop_plan, part_with, plan_on}
use Rattle.command_plans.specs.ChangePlans.{join_plan, leave_plan}
use Rattle.command_plans.specs.OpeningPlans.{recover_plan, recover_found_plan, create_found_plan, create_kept_plan}

-- ---- the plan of a command

-- of each partition with a cache its contents, its host and its store
abbrev pub shown_of : Setting → LaneStanding → Caches → List PartitionShown
shown_of setting standing [] = []
shown_of setting standing (cache ∷ caches) = record { caches = cache ∷ caches; host = name_of setting.shape standing.store.host; id = standing.store.id } ∷ []

abbrev pub all_shown : Setting → List LaneStanding → List PartitionShown
all_shown setting [] = []
all_shown setting (standing ∷ standings) = shown_of setting standing (contents_of standing.store.changes) ++ all_shown setting standings

-- the plan of a command where no cluster is open, by the plans of a creation and of a recovery there
abbrev pub closed_plan : Durable → RunStage → (Host → Plan) → (List Host → Plan) → SiteCommand → Plan
closed_plan durable stage creation recovery (create host) = creation host
closed_plan durable stage creation recovery (recover hosts) = recovery hosts
closed_plan durable stage creation recovery stop = answers_with durable (goes_on stage) (refused no_cluster)
closed_plan durable stage creation recovery dump = answers_with durable (goes_on stage) (refused no_cluster)
closed_plan durable stage creation recovery (steps events) = answers_with durable (goes_on stage) (refused no_cluster)
closed_plan durable stage creation recovery (join host) = answers_with durable (goes_on stage) (refused no_cluster)
closed_plan durable stage creation recovery (leave host) = answers_with durable (goes_on stage) (refused no_cluster)

-- where nothing is kept
abbrev pub nothing_kept : Durable
nothing_kept = record { rosters = record { finished = []; writing = None }; sights = λ host. None ∷ []; standings = [] }

-- over what a run found as it began
abbrev pub found_plan : Setting → FoundSite → SiteCommand → Plan
found_plan setting found command = closed_plan nothing_kept (found_as found) (create_found_plan setting found) (recover_found_plan setting found) command

-- over what the disks of a closed cluster keep
abbrev pub kept_plan : Setting → Durable → SiteCommand → Plan
kept_plan setting durable command = closed_plan durable (closed durable) (create_kept_plan setting durable) (recover_plan setting durable) command

-- where a cluster is open: of steps each part has a plan of its own
abbrev pub open_plan : Setting → OpenSite → SiteCommand → Option Plan
open_plan setting site (create host) = Some (refused_at site cluster_open)
open_plan setting site (recover hosts) = Some (refused_at site cluster_open)
open_plan setting site stop = Some (answers_with site.durable (restarts (opened site)) stopped)
open_plan setting site dump = Some (answers_with site.durable (goes_on (opened site)) (dumped (all_shown setting site.durable.standings)))
open_plan setting site (steps events) = None
open_plan setting site (join host) = Some (join_plan setting site host)
open_plan setting site (leave host) = Some (leave_plan setting site host)

-- ---- the plan of an event

-- a partition of an open cluster, by its number
abbrev pub part_at : OpenSite → ℕ → Option OpenPart
part_at site partition = part_with partition (slice_get site.durable.standings partition) (slice_get site.memory.parts partition) (slice_get site.memory.trails partition)

-- the part of a request that goes to this partition
abbrev pub call_plan : Setting → OpenSite → ℕ × Request → Plan
call_plan setting site part = plan_on site part.0 (part_at site part.0) (λ at. asked_plan setting site at part.1 (mutation_of part.1))

-- an event with one plan: all but a request, whose parts have one each
abbrev pub event_plan : Setting → OpenSite → SiteEvent → Option Plan
event_plan setting site (call request) = None
event_plan setting site (renew partition) = Some (plan_on site partition (part_at site partition) (renew_plan setting site))
event_plan setting site (begin partition host) = Some (plan_on site partition (part_at site partition) (λ at. begin_plan setting site at host))
event_plan setting site (copy partition) = Some (plan_on site partition (part_at site partition) (λ at. moving_plan site at.state.move (copy_plan site at)))
event_plan setting site (settle partition) = Some (plan_on site partition (part_at site partition) (λ at. moving_plan site at.state.move (settle_plan site at)))
event_plan setting site (seal partition) = Some (plan_on site partition (part_at site partition) (λ at. moving_plan site at.state.move (seal_plan setting site at)))
event_plan setting site (drop_file partition) = Some (plan_on site partition (part_at site partition) (λ at. drop_plan site at at.state.waits))
event_plan setting site (give_up partition) = Some (plan_on site partition (part_at site partition) (λ at. moving_plan site at.state.move (λ move. give_up_plan site at)))

-- ---- one plan

-- Calls on this disk may have erased the store, which a stop might have shown in place of another with its own identifier.
abbrev pub MayBeErased : List Act → ℕ → LaneStanding → HostedStore → Type 0
MayBeErased acts partition standing store = (store.id ≢ standing.store.id) × Contains acts (quiet (lane_disk partition store.host))

-- the partition stands for what it did, but for stores in doubt that may have been erased
pub record IsLeft (acts : List Act) (partition : ℕ) (computed kept : LaneStanding) : Type 0 where
  pub same : kept.store ≡ computed.store
  pub no_more : (store : HostedStore) → Contains kept.perhaps store → Contains computed.perhaps store
  pub no_less : (store : HostedStore) → Contains computed.perhaps store → Contains kept.perhaps store ⊎ MayBeErased acts partition computed store

abbrev pub AreLeft : List Act → ℕ → List LaneStanding → List LaneStanding → Type 0
AreLeft acts partition [] [] = ⊤
AreLeft acts partition (computed ∷ more) (kept ∷ others) = IsLeft acts partition computed kept × AreLeft acts (suc partition) more others
AreLeft acts partition [] (kept ∷ others) = ⊥
AreLeft acts partition (computed ∷ more) [] = ⊥

-- nothing that a stop may show can have been erased by these acts
abbrev pub NoneErased : List Act → Durable → Type 0
NoneErased acts durable = (partition : ℕ) (standing : LaneStanding) (store : HostedStore) → slice_get durable.standings partition ≡ Some standing → Contains standing.perhaps store → MayBeErased acts partition standing store → ⊥

-- What the disks keep after these acts: what is computed; or less, where stores in doubt may have been erased.
abbrev pub IsKeptAfter : List Act → Durable → Durable → Type 0
IsKeptAfter acts computed kept =
    (kept ≡ computed) ⊎ ((NoneErased acts computed → ⊥) × (kept.rosters ≡ computed.rosters) × (kept.sights ≡ computed.sights) × AreLeft acts 0 computed.standings kept.standings)

-- all acts are done
pub record IsCompleted (shape : SiteShape) (plan : Plan) (answer : SiteAnswer) (new : RunStage) : Type 0 where
  pub kept : Durable
  pub left : IsKeptAfter plan.acts (all_done plan.acts plan.durable) kept
  pub answer_is : answer ≡ plan.answer
  pub goes : GoesTo shape (plan.done_goes kept) new

-- Some acts are done, and in the next one a call failed: the count of its disk rose in this command, and the answer names its host.
pub record HasFailed (shape : SiteShape) (plan : Plan) (old new_faults : FaultCounts) (answer : SiteAnswer) (new : RunStage) : Type 0 where
  pub before : List Act
  pub act : Act
  pub after : List Act
  pub whole : plan.acts ≡ before ++ act ∷ after
  pub disk : DiskOf
  pub called : disk_called act ≡ Some disk
  pub rose : Rose (old disk) (new_faults disk)
  pub kept : Durable
  pub left : IsKeptAfter (before ++ act ∷ []) (tried act (all_done before plan.durable)) kept
  pub answer_is : answer ≡ refused (fault_of (name_of shape (host_of_disk disk)))
  pub goes : GoesTo shape (plan.failed_goes kept) new

-- a plan is carried out: all of it, or up to a call that failed; no count of faults falls
pub record FollowsPlan (shape : SiteShape) (plan : Plan) (old : RunState) (answer : SiteAnswer) (new : RunState) : Type 0 where
  pub later : NoneFell old.faults new.faults
  pub ends : IsCompleted shape plan answer new.stage ⊎ HasFailed shape plan old.faults new.faults answer new.stage

-- no disk has failed
abbrev pub NoneRose : FaultCounts → FaultCounts → Type 0
NoneRose old new = (disk : DiskOf) → Rose (old disk) (new disk) → ⊥

-- ---- events

-- a cluster is open, and it is so
abbrev pub IsOpenAnd : RunStage → (OpenSite → Type 0) → Type 0
IsOpenAnd (opened site) P = P site
IsOpenAnd unknown P = ⊥
IsOpenAnd (found_as found) P = ⊥
IsOpenAnd (closed durable) P = ⊥

-- the next part of a request is carried out
abbrev pub PartFollows : Setting → RunState → ℕ × Request → SiteAnswer → RunState → Type 0
PartFollows setting old part answer new = IsOpenAnd old.stage (λ site. FollowsPlan setting.shape (call_plan setting site part) old answer new)

-- a part that was replied to goes on to the next; any other answer ends the request, and is its outcome
abbrev pub IsOutcomeAfter : SiteAnswer → RunState → SiteAnswer → RunState → (Reply → Type 0) → Type 0
IsOutcomeAfter (replied reply) mid answer new next = next reply
IsOutcomeAfter found mid answer new next = (answer ≡ found) × (new ≡ mid)

-- The parts of a request are carried out one after the other until the end, or until the first that is refused: what was done
-- before it stays. Before these parts others had these replies.
abbrev pub UntilRefused : Setting → Request → RunState → List (ℕ × Request) → List Reply → SiteAnswer → RunState → Type 0
UntilRefused setting request old [] replies answer new = (answer ≡ replied (joined_reply request replies)) × (new ≡ old)
UntilRefused setting request old (part ∷ parts) replies answer new =
    (found : SiteAnswer) × (mid : RunState) × PartFollows setting old part found mid
    × IsOutcomeAfter found mid answer new (λ reply. UntilRefused setting request mid parts (replies ++ reply ∷ []) answer new)

-- the plan of an event, where it has one, is carried out
abbrev pub IsPlannedStep : SiteShape → Option Plan → RunState → SiteAnswer → RunState → Type 0
IsPlannedStep shape None old answer new = ⊥
IsPlannedStep shape (Some plan) old answer new = FollowsPlan shape plan old answer new

-- what an event may come to
abbrev pub EventRuns : Setting → RunState → SiteEvent → SiteAnswer → RunState → Type 0
EventRuns setting old (call request) answer new = UntilRefused setting request old (parts_of setting.shape.partitions request) [] answer new
EventRuns setting old event answer new = IsOpenAnd old.stage (λ site. IsPlannedStep setting.shape (event_plan setting site event) old answer new)

-- one event after the other, refused or not
abbrev pub EventsRun : Setting → RunState → List SiteEvent → List SiteAnswer → RunState → Type 0
EventsRun setting old [] [] new = new ≡ old
EventsRun setting old (event ∷ events) (answer ∷ answers) new = (mid : RunState) × EventRuns setting old event answer mid × EventsRun setting mid events answers new
EventsRun setting old [] (answer ∷ answers) new = ⊥
EventsRun setting old (event ∷ events) [] new = ⊥

-- ---- commands

-- of an open cluster as much is known as of disks that don't tell; else nothing is
abbrev pub forgotten : RunStage → RunStage
forgotten unknown = unknown
forgotten (found_as found) = unknown
forgotten (closed durable) = unknown
forgotten (opened site) = opened (record { durable = site.durable; memory = site.memory; known = false })

-- where nothing is known, anything may have been found, and as little is known afterwards
pub record FindsSomething (setting : Setting) (old : RunState) (command : SiteCommand) (answer : SiteAnswer) (new : RunState) : Type 0 where
  pub found : FoundSite
  pub then_ : RunState
  pub carried : FollowsPlan setting.shape (found_plan setting found command) old answer then_
  pub faults : new.faults ≡ then_.faults
  pub stage : new.stage ≡ forgotten then_.stage

-- steps where a cluster is open: the outcomes of its events
abbrev pub AreStepped : Setting → RunState → SiteCommand → CommandAnswer → RunState → Type 0
AreStepped setting old (steps events) answer new = (outcomes : List SiteAnswer) × EventsRun setting old events outcomes new × (answer ≡ stepped outcomes)
AreStepped setting old command answer new = ⊥

-- where a cluster is open: a plan, or steps
abbrev pub OpenRuns : Setting → Option Plan → RunState → SiteCommand → CommandAnswer → RunState → Type 0
OpenRuns setting None old command answer new = AreStepped setting old command answer new
OpenRuns setting (Some plan) old command answer new = (one : SiteAnswer) × FollowsPlan setting.shape plan old one new × (answer ≡ answered one)

-- what a command may be answered at a stage
abbrev pub RunsAt : Setting → RunStage → RunState → SiteCommand → CommandAnswer → RunState → Type 0
RunsAt setting unknown old command answer new = (one : SiteAnswer) × FindsSomething setting old command one new × (answer ≡ answered one)
RunsAt setting (found_as found) old command answer new = (one : SiteAnswer) × FollowsPlan setting.shape (found_plan setting found command) old one new × (answer ≡ answered one)
RunsAt setting (closed durable) old command answer new = (one : SiteAnswer) × FollowsPlan setting.shape (kept_plan setting durable command) old one new × (answer ≡ answered one)
RunsAt setting (opened site) old command answer new = OpenRuns setting (open_plan setting site command) old command answer new

-- from one state a run may answer this to the command, and go on to the other
abbrev pub CommandRuns : Setting → RunState → SiteCommand → CommandAnswer → RunState → Type 0
CommandRuns setting old command answer new = RunsAt setting old.stage old command answer new

-- one command after the other
abbrev pub RunsAll : Setting → RunState → List SiteCommand → List CommandAnswer → RunState → Type 0
RunsAll setting old [] [] new = new ≡ old
RunsAll setting old (command ∷ commands) (answer ∷ answers) new = (mid : RunState) × CommandRuns setting old command answer mid × RunsAll setting mid commands answers new
RunsAll setting old [] (answer ∷ answers) new = ⊥
RunsAll setting old (command ∷ commands) [] new = ⊥

-- the answer names a fault of this host: it is one, or one of its outcomes is
abbrev pub NamesFaultOf : CommandAnswer → Host → Type 0
NamesFaultOf (answered one) host = one ≡ refused (fault_of host)
NamesFaultOf (stepped outcomes) host = Contains outcomes (refused (fault_of host))

-- a disk of this host has failed between these counts
abbrev pub HasRisenAt : SiteShape → FaultCounts → FaultCounts → Host → Type 0
HasRisenAt shape old new host = (disk : DiskOf) × Rose (old disk) (new disk) × (host ≡ name_of shape (host_of_disk disk))

-- ---- what isn't answered

abbrev pub stage_in : Goes → RunStage
stage_in (goes_on stage) = stage
stage_in (restarts stage) = stage

-- A plan is broken off: some acts are done, and the next one perhaps; the run ends with this kept.
pub record BreaksPlan (plan : Plan) (new : RunStage) : Type 0 where
  pub computed : Durable
  pub cut : AreCutShort plan.acts plan.durable computed
  pub kept : Durable
  pub left : IsKeptAfter plan.acts computed kept
  pub stage : new ≡ stage_in (plan.failed_goes kept)

-- the parts of a request are broken off, within one of them or after some that were replied to
abbrev pub RequestBreaks : Setting → RunState → List (ℕ × Request) → RunStage → Type 0
RequestBreaks setting old [] new = new ≡ old.stage
RequestBreaks setting old (part ∷ parts) new =
    IsOpenAnd old.stage (λ site. BreaksPlan (call_plan setting site part) new)
    ⊎ ((reply : Reply) × (mid : RunState) × PartFollows setting old part (replied reply) mid × RequestBreaks setting mid parts new)

abbrev pub PlannedBreak : Option Plan → RunStage → Type 0
PlannedBreak None new = ⊥
PlannedBreak (Some plan) new = BreaksPlan plan new

-- an event is broken off
abbrev pub EventBreak : Setting → RunState → SiteEvent → RunStage → Type 0
EventBreak setting old (call request) new = RequestBreaks setting old (parts_of setting.shape.partitions request) new
EventBreak setting old event new = IsOpenAnd old.stage (λ site. PlannedBreak (event_plan setting site event) new)

-- events are broken off between two of them, or within one
abbrev pub EventsBreakOff : Setting → RunState → List SiteEvent → RunStage → Type 0
EventsBreakOff setting old [] new = new ≡ old.stage
EventsBreakOff setting old (event ∷ events) new =
    (new ≡ old.stage) ⊎ EventBreak setting old event new ⊎ ((answer : SiteAnswer) × (mid : RunState) × EventRuns setting old event answer mid × EventsBreakOff setting mid events new)

abbrev pub StepsBreak : Setting → RunState → SiteCommand → RunStage → Type 0
StepsBreak setting old (steps events) new = EventsBreakOff setting old events new
StepsBreak setting old command new = ⊥

abbrev pub OpenBreak : Setting → Option Plan → RunState → SiteCommand → RunStage → Type 0
OpenBreak setting None old command new = StepsBreak setting old command new
OpenBreak setting (Some plan) old command new = BreaksPlan plan new

abbrev pub BreaksAt : Setting → RunStage → RunState → SiteCommand → RunStage → Type 0
BreaksAt setting unknown old command new = (found : FoundSite) × (stage : RunStage) × BreaksPlan (found_plan setting found command) stage × (new ≡ forgotten stage)
BreaksAt setting (found_as found) old command new = BreaksPlan (found_plan setting found command) new
BreaksAt setting (closed durable) old command new = BreaksPlan (kept_plan setting durable command) new
BreaksAt setting (opened site) old command new = OpenBreak setting (open_plan setting site command) old command new

-- a command isn't answered: it was broken off, and the run ends at this stage
abbrev pub CommandBreaksOff : Setting → RunState → SiteCommand → RunStage → Type 0
CommandBreaksOff setting old command new = BreaksAt setting old.stage old command new
