-- Every command keeps a cluster that is open or closed, and so does a whole run.
use Rattle.roster_form.specs.declared.roster.Roster.{Roster}
use Rattle.std.proofs.Common.{◌≡◌, ⊎_elim, List, [], ◌∷◌, Some, None, Bool, true, refl, sym, subst}
use Rattle.std.specs.Prelude.{Contains}
use Rattle.roster_form.proofs.ContainsLemmas.{contains_none, contains_cases}
use Rattle.cluster_model.specs.Memory.{Setting, PartState}
use Rattle.cluster_model.specs.Site.{SiteShape}
use Rattle.command_plans.specs.Asked.{SiteCommand, create, recover, stop, dump, steps, join, leave, CommandAnswer, SiteAnswer}
use Rattle.command_plans.specs.Kept.{IsSite, KeepsCluster, KeepsOpen, IsKeptStage, IsKeptAfterRestart}
use Rattle.command_plans.specs.Plan.{answers_with}
use Rattle.command_plans.specs.Stage.{OpenSite, RunStage, unknown, found_as, closed, opened, RunState, goes_on, IsClosedAs, IsRestartOf}
use Rattle.command_plans.specs.Steps.{nothing_kept, open_plan, FollowsPlan, OpenRuns, OpenBreak, RunsAt, BreaksAt, CommandRuns, RunsAll, CommandBreaksOff}
use Rattle.command_plans.proofs.CarriedOutLemmas.{refused_alone}
use Rattle.command_plans.proofs.ChangeGoesLemmas.{IsInCluster, change_followed, change_broken, join_kept, leave_kept}
use Rattle.command_plans.proofs.ChangeKeptLemmas.{join_held, join_called, leave_held, leave_called}
use Rattle.command_plans.proofs.ClosedLemmas.{closed_runs, closed_breaks}
use Rattle.command_plans.proofs.FollowedLemmas.{IsKeptOpen}
use Rattle.command_plans.proofs.KeptEventLemmas.{events_run_keep, events_broken_keep}
use Rattle.command_plans.proofs.PickedLemmas.{restart_closes}

-- ---- a restart

-- an open cluster is closed by it
restart_closes_open : (shape : SiteShape) (site : OpenSite) (parts : List PartState) (new : RunStage) → site.known ≡ true → KeepsCluster shape parts site.durable → IsRestartOf shape (opened site) new → IsKeptStage shape new
restart_closes_open shape site parts new known keeps restarted =
    let picked : IsClosedAs shape true site.durable new = subst (λ (b : Bool). IsClosedAs shape b site.durable new) known restarted in
    subst (IsKeptStage shape) (sym picked.2) (restart_closes shape site.durable picked.0 (record { rosters = keeps.rosters; number = λ roster e. keeps.number }) picked.1)

-- ---- where a cluster is open

stays_open : (shape : SiteShape) (site : OpenSite) (stage : RunStage) → KeepsOpen shape site → stage ≡ opened site → IsKeptStage shape stage
stays_open shape site stage keeps is = subst (IsKeptStage shape) (sym is) keeps

goes_open : (shape : SiteShape) (stage : RunStage) → IsKeptOpen shape stage → IsKeptStage shape stage
goes_open shape stage kept = subst (IsKeptStage shape) (sym kept.1) kept.2

-- with no act, and the cluster as it is
answered_open : (shape : SiteShape) (site : OpenSite) (answer one : SiteAnswer) (old new : RunState) → KeepsOpen shape site → FollowsPlan shape (answers_with site.durable (goes_on (opened site)) answer) old one new → IsKeptStage shape new.stage
answered_open shape site answer one old new keeps carried = stays_open shape site new.stage keeps (refused_alone shape (answers_with site.durable (goes_on (opened site)) answer) old new one refl carried).1

open_command : (setting : Setting) (site : OpenSite) (command : SiteCommand) (old new : RunState) (answer : CommandAnswer) → IsSite setting.shape → KeepsOpen setting.shape site → old.stage ≡ opened site → OpenRuns setting (open_plan setting site command) old command answer new
    → IsKeptStage setting.shape new.stage
open_command setting site (create host) old new answer of_site keeps is runs = answered_open setting.shape site _ runs.0 old new keeps runs.1
open_command setting site (recover hosts) old new answer of_site keeps is runs = answered_open setting.shape site _ runs.0 old new keeps runs.1
open_command setting site stop old new answer of_site keeps is runs =
    restart_closes_open setting.shape site site.memory.parts new.stage keeps.known keeps.cluster (refused_alone setting.shape _ old new runs.0 refl runs.1).1
open_command setting site dump old new answer of_site keeps is runs = answered_open setting.shape site _ runs.0 old new keeps runs.1
open_command setting site (steps events) old new answer of_site keeps is runs = goes_open setting.shape new.stage (events_run_keep setting site old new events runs.0 of_site keeps is runs.1)
open_command setting site (join host) old new answer of_site keeps is runs = goes_open setting.shape new.stage
    (change_followed setting.shape site _ old new runs.0 (join_kept setting site host keeps) (join_held setting site host of_site keeps) (join_called setting site host of_site keeps) runs.1)
open_command setting site (leave host) old new answer of_site keeps is runs = goes_open setting.shape new.stage
    (change_followed setting.shape site _ old new runs.0 (leave_kept setting site host keeps) (leave_held setting site host of_site keeps) (leave_called setting site host of_site keeps) runs.1)

after_open : (shape : SiteShape) (site : OpenSite) (stage : RunStage) → KeepsOpen shape site → stage ≡ opened site → IsKeptAfterRestart shape stage
after_open shape site stage keeps is = λ new restarted. restart_closes_open shape site site.memory.parts new keeps.known keeps.cluster (subst (λ (s : RunStage). IsRestartOf shape s new) is restarted)

after_cluster : (shape : SiteShape) (stage : RunStage) → IsInCluster shape stage → IsKeptAfterRestart shape stage
after_cluster shape stage kept = λ new restarted. restart_closes_open shape kept.0 kept.0.memory.parts new kept.2 kept.3 (subst (λ (s : RunStage). IsRestartOf shape s new) kept.1 restarted)

open_broken : (setting : Setting) (site : OpenSite) (command : SiteCommand) (old : RunState) (stage : RunStage) → IsSite setting.shape → KeepsOpen setting.shape site → old.stage ≡ opened site → OpenBreak setting (open_plan setting site command) old command stage
    → IsKeptAfterRestart setting.shape stage
open_broken setting site (create host) old stage of_site keeps is broken = after_open setting.shape site stage keeps broken.stage
open_broken setting site (recover hosts) old stage of_site keeps is broken = after_open setting.shape site stage keeps broken.stage
open_broken setting site stop old stage of_site keeps is broken = after_open setting.shape site stage keeps broken.stage
open_broken setting site dump old stage of_site keeps is broken = after_open setting.shape site stage keeps broken.stage
open_broken setting site (steps events) old stage of_site keeps is broken =
    let kept = events_broken_keep setting site old events stage of_site keeps is broken in after_open setting.shape kept.0 stage kept.2 kept.1
open_broken setting site (join host) old stage of_site keeps is broken = after_cluster setting.shape stage (change_broken setting.shape site _ stage (join_kept setting site host keeps) (join_held setting site host of_site keeps) broken)
open_broken setting site (leave host) old stage of_site keeps is broken = after_cluster setting.shape stage (change_broken setting.shape site _ stage (leave_kept setting site host keeps) (leave_held setting site host of_site keeps) broken)

-- ---- at each stage

pub command_keeps : (setting : Setting) (old new : RunState) (command : SiteCommand) (answer : CommandAnswer) → IsSite setting.shape → IsKeptStage setting.shape old.stage → CommandRuns setting old command answer new → IsKeptStage setting.shape new.stage
command_keeps setting old new command answer of_site keeps runs = by old.stage refl keeps runs
  where
    by : (stage : RunStage) → old.stage ≡ stage → IsKeptStage setting.shape stage → RunsAt setting stage old command answer new → IsKeptStage setting.shape new.stage
    by unknown is kept at = absurd kept
    by (found_as found) is kept at = absurd kept
    by (closed durable) is kept at = closed_runs setting durable old new command answer of_site kept is runs
    by (opened site) is kept at = open_command setting site command old new answer of_site kept is at

pub command_broken : (setting : Setting) (old : RunState) (command : SiteCommand) (stage : RunStage) → IsSite setting.shape → IsKeptStage setting.shape old.stage → CommandBreaksOff setting old command stage → IsKeptAfterRestart setting.shape stage
command_broken setting old command stage of_site keeps broken = by old.stage refl keeps broken
  where
    by : (at : RunStage) → old.stage ≡ at → IsKeptStage setting.shape at → BreaksAt setting at old command stage → IsKeptAfterRestart setting.shape stage
    by unknown is kept off = absurd kept
    by (found_as found) is kept off = absurd kept
    by (closed durable) is kept off = closed_breaks setting durable old command stage of_site kept is broken
    by (opened site) is kept off = open_broken setting site command old stage of_site kept is off

-- ---- a run

pub run_keeps : (setting : Setting) (old new : RunState) (commands : List SiteCommand) (answers : List CommandAnswer) → IsSite setting.shape → IsKeptStage setting.shape old.stage → RunsAll setting old commands answers new → IsKeptStage setting.shape new.stage
run_keeps setting old new [] [] of_site keeps runs = subst (λ (s : RunState). IsKeptStage setting.shape s.stage) (sym runs) keeps
run_keeps setting old new [] (answer ∷ answers) of_site keeps runs = absurd runs
run_keeps setting old new (command ∷ commands) [] of_site keeps runs = absurd runs
run_keeps setting old new (command ∷ commands) (answer ∷ answers) of_site keeps runs =
    run_keeps setting runs.0 new commands answers of_site (command_keeps setting old runs.0 command answer of_site keeps runs.1) runs.2

-- disks without a cluster
pub empty_is_kept : (shape : SiteShape) → IsKeptStage shape (closed nothing_kept)
empty_is_kept shape = record {
  rosters = record {
    rosters = record {
      successive = tt;
      known = λ host roster may. absurd (shows_none roster may);
      onward = λ past roster host is. absurd (contains_none past is);
      shows = λ last host e. absurd (let no : None ≡ Some last = e in cc);
      in_order = λ last new host other shown e. absurd (let no : None ≡ Some last = e in cc);
    };
    of_site = λ roster is. absurd (contains_none roster is);
  };
  one = λ host. (None, refl);
  seen = λ new e. absurd (let no : None ≡ Some new = e in cc);
  held = refl;
}
  where
    shows_none : (roster : Roster) → Contains (None ∷ []) (Some roster) → ⊥
    shows_none roster is = ⊎_elim (λ it. let no : Some roster ≡ None = it in cc) (λ none. contains_none (Some roster) none) (contains_cases None [] (Some roster) is)
