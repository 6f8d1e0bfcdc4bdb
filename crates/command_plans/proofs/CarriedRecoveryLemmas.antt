-- Where the acts of a recovery are carried out over images of the site, they keep its invariant, whoever is present.
use Rattle.std.proofs.Common.{◌≡◌, ⊎_elim, List, [], ◌∷◌, ◌++◌, map, Option, Some, None, refl, sym, ◌∙◌, ap, subst}
use Rattle.std.specs.Prelude.{Contains}
use Rattle.std.specs.List.{filter}
use Rattle.std.proofs.lemmas.List.{append-nil, append_assoc}
use Rattle.roster_form.specs.Choice.{chosen_roster}
use Rattle.roster_form.specs.Membership.{Host, joining_host}
use Rattle.roster_form.specs.Succession.{last_finished}
use Rattle.roster_form.specs.declared.roster.Roster.{Roster}
use Rattle.roster_form.proofs.ContainsLemmas.{contains_cases, contains_none}
use Rattle.cluster_model.specs.Acts.{Act, writes, finishes, done, all_done, KeepsRostersThroughout}
use Rattle.cluster_model.specs.Agreement.{some_of, two_of, Durable, KeepsSite}
use Rattle.cluster_model.specs.Carried.{IsCarriedOver}
use Rattle.cluster_model.specs.Lane.{LaneStanding}
use Rattle.cluster_model.specs.Memory.{Setting}
use Rattle.cluster_model.specs.Restart.{later_roster, counting_roster}
use Rattle.cluster_model.specs.Site.{SiteShape, SiteImage, numbers_of, lane_disk}
use Rattle.cluster_model.specs.Turns.{lacks}
use Rattle.command_plans.specs.Asked.{SiteRefusal, not_member}
use Rattle.command_plans.specs.ChangePlans.{hosts_named, in_turn, settle_acts}
use Rattle.command_plans.specs.Kept.{HoldsThroughout, AreHeldBy, KeepsClosed}
use Rattle.command_plans.specs.OpeningPlans.{present_hosts, sightings_at, roster_reads, first_stranger, lane_calls, lane_loads, recovery_acts, missing_by, recover_by, recover_seen, recover_plan}
use Rattle.command_plans.specs.Plan.{numbers_below, refuses_by, refused_or}
use Rattle.command_plans.specs.Stage.{closed, restarts}
use Rattle.command_plans.proofs.CountingLemmas.{chosen_counts}
use Rattle.command_plans.proofs.RecoveryLemmas.{IsSiteKept, still_kept, reads_carried, recovery_carried, other_carried}
use Rattle.command_plans.proofs.RecoveryPlanLemmas.{recovery_holds}
use Rattle.command_plans.proofs.SteadyLemmas.{quiet_each, quiet_flat, quiet_holds, IsSteady}
use Rattle.command_plans.proofs.ThroughoutLemmas.{holds_last, holds_then}

-- steady acts keep the rosters
steady_rosters : (shape : SiteShape) (standings : List LaneStanding) (acts : List Act) (durable : Durable) → HoldsThroughout (IsSteady shape standings) acts durable → KeepsRostersThroughout acts durable
steady_rosters shape standings [] durable holds = holds.rosters.rosters
steady_rosters shape standings (act ∷ acts) durable holds = (holds.0.rosters.rosters, holds.1.rosters.rosters, steady_rosters shape standings acts (done act durable) holds.2)

-- so after the rosters are read: the chosen one is written, and the partitions are loaded
opening_rosters : (shape : SiteShape) (durable : Durable) (chosen : Roster) (writing : Option Roster) → KeepsClosed shape durable → durable.rosters.writing ≡ writing → counting_roster durable.rosters ≡ Some chosen
    → KeepsRostersThroughout (recovery_acts shape durable writing chosen ++ lane_loads (numbers_of shape.hosts chosen.hosts) shape.partitions) durable
opening_rosters shape durable chosen writing keeps e counts =
    let held : AreHeldBy shape (Some chosen) durable.standings = subst (λ (c : Option Roster). AreHeldBy shape c durable.standings) counts keeps.held in
    let P = IsSteady shape durable.standings in
    let acts = recovery_acts shape durable writing chosen in
    let loads = lane_loads (numbers_of shape.hosts chosen.hosts) shape.partitions in
    let first : HoldsThroughout P acts durable = (recovery_holds shape durable.standings chosen durable writing e counts (record { rosters = keeps.rosters; still = refl }) held.1).0 in
    let quiet = quiet_flat (lane_calls (numbers_of shape.hosts chosen.hosts)) (numbers_below shape.partitions) (λ partition. quiet_each (λ host. lane_disk partition host) (numbers_of shape.hosts chosen.hosts)) in
    steady_rosters shape durable.standings (acts ++ loads) durable (holds_then P acts loads durable first (quiet_holds P loads (all_done acts durable) quiet (holds_last P acts durable first)))

-- some host shows the roster that is being written, and nothing else
shown_alone : (shape : SiteShape) (durable : Durable) (chosen : Roster) → KeepsClosed shape durable → durable.rosters.writing ≡ Some chosen → (host : Host) × (durable.sights host ≡ Some chosen ∷ [])
shown_alone shape durable chosen keeps written =
    let seen = keeps.seen chosen written in
    let one = keeps.one seen.0 in
    let may : Contains (one.0 ∷ []) (Some chosen) = subst (λ (l : List (Option Roster)). Contains l (Some chosen)) one.1 seen.1 in
    let it : Some chosen ≡ one.0 = ⊎_elim (λ here. here) (λ none. absurd (contains_none (Some chosen) none)) (contains_cases one.0 [] (Some chosen) may) in
    (seen.0, one.1 ∙ ap (λ (o : Option Roster). o ∷ []) (sym it))

-- the chosen roster is the one that counts, and the cluster is opened
opening_carried : (shape : SiteShape) (durable kept : Durable) (present : List Host) (chosen : Roster) (writing : Option Roster) (old next : SiteImage) → KeepsClosed shape durable → durable.rosters.writing ≡ writing → counting_roster durable.rosters ≡ Some chosen
    → KeepsSite shape durable (some_of (counting_roster durable.rosters)) old
    → IsCarriedOver shape (roster_reads shape present ++ (recovery_acts shape durable writing chosen ++ lane_loads (numbers_of shape.hosts chosen.hosts) shape.partitions)) durable kept old next → IsSiteKept shape kept next
opening_carried shape durable kept present chosen None old next keeps e counts saved carried =
    let last : last_finished durable.rosters ≡ Some chosen = subst (λ (w : Option Roster). later_roster w (last_finished durable.rosters) ≡ Some chosen) e counts in
    let two : two_of durable.rosters ≡ chosen ∷ [] = (λ i. some_of (last i) ++ some_of (e i)) in
    let now : KeepsSite shape durable (two_of durable.rosters) old = subst (λ (passing : List Roster). KeepsSite shape durable passing old) (ap some_of counts ∙ sym two) saved in
    other_carried shape present (recovery_acts shape durable None chosen ++ lane_loads (numbers_of shape.hosts chosen.hosts) shape.partitions) durable kept old next now (opening_rosters shape durable chosen None keeps e counts) carried
opening_carried shape durable kept present chosen (Some new) old next keeps e counts saved carried =
    let written : durable.rosters.writing ≡ Some chosen = e ∙ subst (λ (w : Option Roster). later_roster w (last_finished durable.rosters) ≡ Some chosen) e counts in
    let hosts = hosts_named shape (in_turn (joining_host chosen) chosen.hosts) in
    let lacking = filter (λ host. lacks chosen (durable.sights host.name)) hosts in
    let settle = settle_acts chosen (joining_host chosen) hosts in
    let loads = lane_loads (numbers_of shape.hosts chosen.hosts) shape.partitions in
    let same_acts : ((map writes lacking ++ finishes ∷ []) ++ settle) ++ loads ≡ map writes lacking ++ finishes ∷ (settle ++ loads) =
    append_assoc (map writes lacking ++ finishes ∷ []) settle loads ∙ append_assoc (map writes lacking) (finishes ∷ []) (settle ++ loads) in
    recovery_carried shape chosen present lacking (settle ++ loads) durable kept old next written (subst (λ (passing : List Roster). KeepsSite shape durable passing old) (ap some_of counts) saved) (shown_alone shape durable chosen keeps written)
    (subst (λ (acts : List Act). KeepsRostersThroughout acts durable) same_acts (opening_rosters shape durable chosen (Some new) keeps e counts))
    (subst (λ (acts : List Act). IsCarriedOver shape (roster_reads shape present ++ acts) durable kept old next) same_acts carried)

-- the rosters alone are read
read_carried : (shape : SiteShape) (durable kept : Durable) (passing : List Roster) (present : List Host) (old next : SiteImage) → KeepsSite shape durable passing old → IsCarriedOver shape (roster_reads shape present) durable kept old next → IsSiteKept shape kept next
read_carried shape durable kept passing present old next saved carried =
    reads_carried shape present [] durable kept passing old next saved (subst (λ (acts : List Act). IsCarriedOver shape acts durable kept old next) (sym (append-nil (roster_reads shape present))) carried)
    (λ mid still none. still_kept shape durable kept passing mid next still none.0 none.1)

recover_by_carried : (setting : Setting) (durable kept : Durable) (hosts : List Host) (chosen : Option Roster) (missing : List Host) (old next : SiteImage) → KeepsClosed setting.shape durable → chosen_roster (sightings_at durable.sights hosts) ≡ chosen
    → missing_by chosen (sightings_at durable.sights hosts) ≡ missing → KeepsSite setting.shape durable (some_of (counting_roster durable.rosters)) old
    → IsCarriedOver setting.shape (recover_by setting durable (roster_reads setting.shape hosts) chosen missing).acts durable kept old next → IsSiteKept setting.shape kept next
recover_by_carried setting durable kept hosts None missing old next keeps e none saved carried = read_carried setting.shape durable kept (some_of (counting_roster durable.rosters)) hosts old next saved carried
recover_by_carried setting durable kept hosts (Some chosen) (first ∷ missing) old next keeps e none saved carried = read_carried setting.shape durable kept (some_of (counting_roster durable.rosters)) hosts old next saved carried
recover_by_carried setting durable kept hosts (Some chosen) [] old next keeps e none saved carried =
    opening_carried setting.shape durable kept hosts chosen durable.rosters.writing old next keeps refl (chosen_counts durable.rosters durable.sights hosts chosen keeps.rosters.rosters keeps.one keeps.seen e none) saved
    (subst (λ (acts : List Act). IsCarriedOver setting.shape acts durable kept old next)
    (append_assoc (roster_reads setting.shape hosts) (recovery_acts setting.shape durable durable.rosters.writing chosen) (lane_loads (numbers_of setting.shape.hosts chosen.hosts) setting.shape.partitions))
    carried)

-- a recovery, refused or not
pub recover_carried : (setting : Setting) (durable kept : Durable) (present : List Host) (old next : SiteImage) → KeepsClosed setting.shape durable → KeepsSite setting.shape durable (some_of (counting_roster durable.rosters)) old
    → IsCarriedOver setting.shape (recover_plan setting durable present).acts durable kept old next → IsSiteKept setting.shape kept next
recover_carried setting durable kept present old next keeps saved carried = by (refuses_by (first_stranger setting.shape present) not_member) carried
  where
    hosts : List Host
    hosts = present_hosts setting.shape present

    by : (refusal : Option SiteRefusal) → IsCarriedOver setting.shape (refused_or refusal (restarts (closed durable)) (recover_seen setting durable (roster_reads setting.shape hosts) (sightings_at durable.sights hosts))).acts durable kept old next
        → IsSiteKept setting.shape kept next
    by None over = recover_by_carried setting durable kept hosts (chosen_roster (sightings_at durable.sights hosts)) (missing_by (chosen_roster (sightings_at durable.sights hosts)) (sightings_at durable.sights hosts)) old next keeps refl refl saved over
    by (Some refusal) over = still_kept setting.shape durable kept (some_of (counting_roster durable.rosters)) old next saved over.0 over.1
