-- A closed cluster is kept, whatever is asked.
use Rattle.std.proofs.Common.{◌≡◌, List, [], ◌∷◌, Option, Some, None, Bool, true, false, not, refl, subst}
use Rattle.roster_form.specs.Membership.{Host}
use Rattle.roster_form.specs.Choice.{chosen_roster}
use Rattle.roster_form.specs.declared.roster.Roster.{Roster}
use Rattle.cluster_model.specs.Site.{is_among, service_disk}
use Rattle.cluster_model.specs.Agreement.{Durable}
use Rattle.cluster_model.specs.Memory.{Setting}
use Rattle.cluster_model.specs.Acts.{Act}
use Rattle.command_plans.specs.Asked.{SiteCommand, create, recover, stop, dump, steps, join, leave, SiteRefusal, not_member, CommandAnswer}
use Rattle.command_plans.specs.Stage.{RunStage, closed, RunState, restarts}
use Rattle.command_plans.specs.Plan.{refuses_if, refuses_by, number_of}
use Rattle.command_plans.specs.OpeningPlans.{present_hosts, sightings_at, roster_reads, first_stranger, first_shown, create_by, recover_by, missing_by}
use Rattle.command_plans.specs.Steps.{kept_plan, RunsAt, CommandRuns, BreaksAt, CommandBreaksOff}
use Rattle.command_plans.specs.Kept.{IsSite, KeepsClosed, IsKeptStage, IsKeptAfterRestart}
use Rattle.command_plans.proofs.SteadyLemmas.{AreQuiet, quiet_each}
use Rattle.command_plans.proofs.ClosedPlanLemmas.{IsKeptPlan, plan_runs, plan_breaks, closed_picked, same_goes, refused_or_keeps}
use Rattle.command_plans.proofs.CreationLemmas.{creation_keeps}
use Rattle.command_plans.proofs.RecoveryPlanLemmas.{recovery_keeps}

-- a creation that isn't refused is at a host of the site
is_in_site : (b : Bool) (refusal : SiteRefusal) → refuses_if (not b) refusal ≡ None → b ≡ true
is_in_site true refusal e = refl
is_in_site false refusal e = absurd cc

-- a creation, where a host has a roster already and where none has
create_keeps_closed : (setting : Setting) (durable : Durable) (host : Host) (earlier : Option Host) → IsSite setting.shape → KeepsClosed setting.shape durable → is_among setting.shape.hosts host ≡ true
    → first_shown (sightings_at durable.sights setting.shape.hosts) ≡ earlier → IsKeptPlan setting.shape (create_by setting durable.sights (closed durable) host earlier)
create_keeps_closed setting durable host None site keeps among e = creation_keeps setting durable host site keeps among e
create_keeps_closed setting durable host (Some other) site keeps among e =
    same_goes setting.shape _ _ _ (restarts (closed durable)) (closed_picked setting.shape durable keeps) (closed_picked setting.shape durable keeps)

-- a recovery, by the chosen roster and its missing hosts
recover_keeps_closed : (setting : Setting) (durable : Durable) (reads : List Act) (hosts : List Host) (chosen : Option Roster) (missing : List Host) → IsSite setting.shape → KeepsClosed setting.shape durable → AreQuiet reads
    → chosen_roster (sightings_at durable.sights hosts) ≡ chosen → missing_by chosen (sightings_at durable.sights hosts) ≡ missing → IsKeptPlan setting.shape (recover_by setting durable reads chosen missing)
recover_keeps_closed setting durable reads hosts None missing site keeps quiet e none =
    same_goes setting.shape _ _ _ (restarts (closed durable)) (closed_picked setting.shape durable keeps) (closed_picked setting.shape durable keeps)
recover_keeps_closed setting durable reads hosts (Some chosen) [] site keeps quiet e none = recovery_keeps setting durable reads hosts chosen keeps quiet e none
recover_keeps_closed setting durable reads hosts (Some chosen) (first ∷ missing) site keeps quiet e none =
    same_goes setting.shape _ _ _ (restarts (closed durable)) (closed_picked setting.shape durable keeps) (closed_picked setting.shape durable keeps)

-- the plan of each command
kept_plan_keeps : (setting : Setting) (durable : Durable) (command : SiteCommand) → IsSite setting.shape → KeepsClosed setting.shape durable → IsKeptPlan setting.shape (kept_plan setting durable command)
kept_plan_keeps setting durable (create host) site keeps =
    let may = closed_picked setting.shape durable keeps in
    refused_or_keeps setting.shape (refuses_if (not (is_among setting.shape.hosts host)) (not_member host)) (restarts (closed durable)) _ may may
    (λ e. create_keeps_closed setting durable host (first_shown (sightings_at durable.sights setting.shape.hosts)) site keeps (is_in_site (is_among setting.shape.hosts host) (not_member host) e) refl)
kept_plan_keeps setting durable (recover present) site keeps =
    let may = closed_picked setting.shape durable keeps in
    let hosts = present_hosts setting.shape present in
    refused_or_keeps setting.shape (refuses_by (first_stranger setting.shape present) not_member) (restarts (closed durable)) _ may may
    (λ e. recover_keeps_closed setting durable (roster_reads setting.shape hosts) hosts (chosen_roster (sightings_at durable.sights hosts)) (missing_by (chosen_roster (sightings_at durable.sights hosts)) (sightings_at durable.sights hosts)) site keeps
    (quiet_each (λ host. service_disk (number_of setting.shape.hosts host)) hosts) refl refl)
kept_plan_keeps setting durable stop site keeps = same_goes setting.shape _ _ _ _ keeps (closed_picked setting.shape durable keeps)
kept_plan_keeps setting durable dump site keeps = same_goes setting.shape _ _ _ _ keeps (closed_picked setting.shape durable keeps)
kept_plan_keeps setting durable (steps events) site keeps = same_goes setting.shape _ _ _ _ keeps (closed_picked setting.shape durable keeps)
kept_plan_keeps setting durable (join host) site keeps = same_goes setting.shape _ _ _ _ keeps (closed_picked setting.shape durable keeps)
kept_plan_keeps setting durable (leave host) site keeps = same_goes setting.shape _ _ _ _ keeps (closed_picked setting.shape durable keeps)

-- a command is carried out
pub closed_runs : (setting : Setting) (durable : Durable) (old new : RunState) (command : SiteCommand) (answer : CommandAnswer) → IsSite setting.shape → KeepsClosed setting.shape durable → old.stage ≡ closed durable
    → CommandRuns setting old command answer new → IsKeptStage setting.shape new.stage
closed_runs setting durable old new command answer site keeps e runs =
    let run : RunsAt setting (closed durable) old command answer new = subst (λ (s : RunStage). RunsAt setting s old command answer new) e runs in
    plan_runs setting.shape (kept_plan setting durable command) old new run.0 (kept_plan_keeps setting durable command site keeps) run.1

-- a command is broken off
pub closed_breaks : (setting : Setting) (durable : Durable) (old : RunState) (command : SiteCommand) (stage : RunStage) → IsSite setting.shape → KeepsClosed setting.shape durable → old.stage ≡ closed durable
    → CommandBreaksOff setting old command stage → IsKeptAfterRestart setting.shape stage
closed_breaks setting durable old command stage site keeps e breaks =
    plan_breaks setting.shape (kept_plan setting durable command) stage (kept_plan_keeps setting durable command site keeps) (subst (λ (s : RunStage). BreaksAt setting s old command stage) e breaks)
