-- Runs as functions, to compute worked examples: in which act a call fails, and which images a restart takes.
use Rattle.std.proofs.Common.{ℕ, zero, suc, ◌==◌, List, [], ◌∷◌, ◌++◌, map, Option, Some, None, Bool, false, ◌||◌, if◌then◌else◌}
use Rattle.std.specs.List.{filter}
use Rattle.cache_key.specs.declared.request.Reply.{Reply}
use Rattle.cache_key.specs.declared.request.Request.{Request}
use Rattle.cache_model.specs.Parts.{parts_of, joined_reply}
use Rattle.roster_form.specs.Membership.{Host}
use Rattle.roster_form.specs.Shown.{Sights}
use Rattle.roster_form.specs.declared.roster.Roster.{Roster}
use Rattle.roster_form.specs.Succession.{Rosters}
use Rattle.cluster_model.specs.Lane.{LaneStanding}
use Rattle.cluster_model.specs.LaneSteps.{standing_for}
use Rattle.cluster_model.specs.Site.{SiteShape, DiskOf, numbers_of}
use Rattle.cluster_model.specs.Agreement.{Durable, hosts_in, two_of}
use Rattle.cluster_model.specs.Memory.{Setting}
use Rattle.cluster_model.specs.Restart.{counting_roster}
use Rattle.cluster_model.specs.Acts.{Act, disk_called, done, tried, all_done}
use Rattle.command_plans.specs.Asked.{SiteEvent, call, SiteCommand, fault_of, no_cluster, SiteAnswer, refused, replied}
use Rattle.command_plans.specs.Stage.{RunStage, unknown, found_as, closed, opened, Goes, goes_on, restarts}
use Rattle.command_plans.specs.Plan.{Plan, answers_with, name_of, host_of_disk}
use Rattle.command_plans.specs.Steps.{nothing_kept, found_plan, kept_plan, open_plan, call_plan, event_plan}

-- a command or an event in which no call fails, or in which one fails in the act of this number, of its first part
pub data Try : Type 0 where
  runs : SiteCommand → Try
  fails_in : SiteCommand → ℕ → Try
  event : SiteEvent → Try
  event_fails_in : SiteEvent → ℕ → Try

-- what a restart takes: the oldest of what may be shown, or the newest
pub data Pick : Type 0 where
  oldest : Pick
  newest : Pick

abbrev one_taken : {T : Type 0} → Pick → List T → T → T
one_taken oldest [] least = least
one_taken oldest (first ∷ others) least = one_taken oldest others first
one_taken newest [] least = least
one_taken newest (first ∷ others) least = first

abbrev has_epoch : ℕ → Option Roster → Bool
has_epoch epoch None = false
has_epoch epoch (Some roster) = roster.epoch == epoch

abbrev is_seen_by : List Host → Sights → Pick → ℕ → Bool
is_seen_by [] sights pick epoch = false
is_seen_by (host ∷ hosts) sights pick epoch = has_epoch epoch (one_taken pick (sights host) None) || is_seen_by hosts sights pick epoch

abbrev writing_taken : List Host → Sights → Pick → Option Roster → Option Roster
writing_taken hosts sights pick None = None
writing_taken hosts sights pick (Some new) = if is_seen_by hosts sights pick new.epoch then Some new else None

abbrev is_number_in : List ℕ → ℕ → Bool
is_number_in [] number = false
is_number_in (first ∷ numbers) number = first == number || is_number_in numbers number

abbrev standing_taken : List ℕ → Pick → LaneStanding → LaneStanding
standing_taken hosts oldest standing = standing_for standing.store
standing_taken hosts newest standing = standing_for (one_taken newest (filter (λ store. is_number_in hosts store.host) standing.perhaps) standing.store)

abbrev rosters_taken : Pick → Durable → Rosters
rosters_taken pick durable = record { finished = durable.rosters.finished; writing = writing_taken (hosts_in (two_of durable.rosters)) durable.sights pick durable.rosters.writing }

abbrev standings_taken : SiteShape → Pick → Option Roster → List LaneStanding → List LaneStanding
standings_taken shape pick None standings = []
standings_taken shape pick (Some roster) standings = map (standing_taken (numbers_of shape.hosts roster.hosts) pick) standings

-- what the disks of a cluster keep after a restart
abbrev pub restarted : SiteShape → Pick → Durable → Durable
restarted shape pick durable = record {
  rosters = rosters_taken pick durable;
  sights = λ host. one_taken pick (durable.sights host) None ∷ [];
  standings = standings_taken shape pick (counting_roster (rosters_taken pick durable)) durable.standings;
}

abbrev stage_restarted : SiteShape → Pick → RunStage → RunStage
stage_restarted shape pick unknown = unknown
stage_restarted shape pick (found_as found) = found_as (record { sights = λ host. one_taken pick (found.sights host) None ∷ []; damages = found.damages; files = found.files })
stage_restarted shape pick (closed durable) = closed (restarted shape pick durable)
stage_restarted shape pick (opened site) = if site.known then closed (restarted shape pick site.durable) else unknown

abbrev pub stage_after : SiteShape → Pick → Goes → RunStage
stage_after shape pick (goes_on stage) = stage
stage_after shape pick (restarts stage) = stage_restarted shape pick stage

-- the act of this number is tried, and those before it are done
abbrev pub tried_at : List Act → ℕ → Durable → Durable
tried_at [] n durable = durable
tried_at (act ∷ acts) zero durable = tried act durable
tried_at (act ∷ acts) (suc n) durable = tried_at acts n (done act durable)

abbrev fault_on : SiteShape → Option DiskOf → SiteAnswer
fault_on shape None = refused (fault_of [])
fault_on shape (Some disk) = refused (fault_of (name_of shape (host_of_disk disk)))

abbrev pub fault_at : SiteShape → List Act → ℕ → SiteAnswer
fault_at shape [] n = refused (fault_of [])
fault_at shape (act ∷ acts) zero = fault_on shape (disk_called act)
fault_at shape (act ∷ acts) (suc n) = fault_at shape acts n

-- how a plan is carried out: its answer, and where the run goes on
abbrev pub outcome_of : Setting → Pick → Plan → Option ℕ → SiteAnswer × RunStage
outcome_of setting pick plan None = (plan.answer, stage_after setting.shape pick (plan.done_goes (all_done plan.acts plan.durable)))
outcome_of setting pick plan (Some n) = (fault_at setting.shape plan.acts n, stage_after setting.shape pick (plan.failed_goes (tried_at plan.acts n plan.durable)))

abbrev no_plan : RunStage → Plan
no_plan stage = answers_with nothing_kept (goes_on stage) (refused no_cluster)

abbrev plan_or : RunStage → Option Plan → Plan
plan_or stage None = no_plan stage
plan_or stage (Some plan) = plan

abbrev pub command_plan : Setting → RunStage → SiteCommand → Plan
command_plan setting unknown command = no_plan unknown
command_plan setting (found_as found) command = found_plan setting found command
command_plan setting (closed durable) command = kept_plan setting durable command
command_plan setting (opened site) command = plan_or (opened site) (open_plan setting site command)

abbrev part_plan : Setting → RunStage → ℕ × Request → Plan
part_plan setting (opened site) part = call_plan setting site part
part_plan setting stage part = no_plan stage

abbrev planned_event : Setting → RunStage → SiteEvent → Plan
planned_event setting (opened site) one = plan_or (opened site) (event_plan setting site one)
planned_event setting stage one = no_plan stage

-- a part that was replied to goes on so; any other answer is the outcome
abbrev going_on : SiteAnswer × RunStage → (Reply → RunStage → SiteAnswer × RunStage) → SiteAnswer × RunStage
going_on (replied reply, after) next = next reply after
going_on (other, after) next = (other, after)

-- the outcome of a part, and then the rest of its request
abbrev parts_outcome : Setting → Pick → RunStage → Request → List (ℕ × Request) → List Reply → Option ℕ → SiteAnswer × RunStage
parts_outcome setting pick stage request [] replies fails = (replied (joined_reply request replies), stage)
parts_outcome setting pick stage request (part ∷ parts) replies fails =
    going_on (outcome_of setting pick (part_plan setting stage part) fails) (λ reply after. parts_outcome setting pick after request parts (replies ++ reply ∷ []) None)

abbrev event_outcome : Setting → Pick → RunStage → SiteEvent → Option ℕ → SiteAnswer × RunStage
event_outcome setting pick stage (call request) fails = parts_outcome setting pick stage request (parts_of setting.shape.partitions request) [] fails
event_outcome setting pick stage one fails = outcome_of setting pick (planned_event setting stage one) fails

abbrev try_outcome : Setting → Pick → RunStage → Try → SiteAnswer × RunStage
try_outcome setting pick stage (runs command) = outcome_of setting pick (command_plan setting stage command) None
try_outcome setting pick stage (fails_in command n) = outcome_of setting pick (command_plan setting stage command) (Some n)
try_outcome setting pick stage (event one) = event_outcome setting pick stage one None
try_outcome setting pick stage (event_fails_in one n) = event_outcome setting pick stage one (Some n)

-- where the run goes on after these
abbrev pub stage_of_run : Setting → Pick → RunStage → List Try → RunStage
stage_of_run setting pick stage [] = stage
stage_of_run setting pick stage (first ∷ others) = stage_of_run setting pick (try_outcome setting pick stage first).1 others

-- the answers, one after the other
abbrev pub answers_of_run : Setting → Pick → RunStage → List Try → List SiteAnswer
answers_of_run setting pick stage [] = []
answers_of_run setting pick stage (first ∷ others) = (try_outcome setting pick stage first).0 ∷ answers_of_run setting pick (try_outcome setting pick stage first).1 others
