-- A recovery of a closed cluster.
use Rattle.std.proofs.Common.{◌≡◌, ℕ, ◌+◌, ◌<◌, List, [], ◌∷◌, ◌++◌, map, length, All, Option, Some, None, refl, sym, ◌∙◌, ap, subst, arith}
use Rattle.std.specs.Prelude.{Contains}
use Rattle.std.specs.List.{filter}
use Rattle.roster_form.specs.Membership.{Host, epoch_end, host_at, MayJoin, joining_host}
use Rattle.roster_form.specs.Choice.{chosen_roster, missing_hosts}
use Rattle.roster_form.specs.declared.roster.Roster.{Roster}
use Rattle.roster_form.specs.Succession.{settles, Succeeds, IsGoodRoster, AreSuccessive, Rosters, listed, first_listed, last_finished}
use Rattle.roster_form.proofs.PassLemmas.{some_is}
use Rattle.roster_form.proofs.ContainsLemmas.{contains_first}
use Rattle.cluster_model.specs.Lane.{LaneStanding}
use Rattle.cluster_model.specs.Site.{SiteShape, numbers_of, lane_disk}
use Rattle.cluster_model.specs.Agreement.{IsRosterOf, Durable}
use Rattle.cluster_model.specs.Memory.{Setting}
use Rattle.cluster_model.specs.Restart.{later_roster, counting_roster}
use Rattle.cluster_model.specs.Acts.{SiteHost, Act, begins, writes, finishes, written_to, finished_with, done, all_done, KeepsRostersThroughout}
use Rattle.cluster_model.specs.Turns.{change_acts, lacks, rest_acts}
use Rattle.cluster_model.proofs.TurnsLemmas.{change_keeps, rest_keeps}
use Rattle.command_plans.specs.Plan.{numbers_below}
use Rattle.command_plans.specs.ChangePlans.{settled_from, in_turn, hosts_named, settle_acts, going_on_acts}
use Rattle.command_plans.specs.OpeningPlans.{sightings_at, lane_calls, lane_loads, recovery_acts, recover_by}
use Rattle.command_plans.specs.Kept.{HoldsThroughout, IsHeldAt, AreHeldBy, KeepsClosed}
use Rattle.command_plans.proofs.SteadyLemmas.{AreQuiet, quiet_each, quiet_flat, quiet_done, quiet_holds, IsSteady, steady_both, writes_steady, finishes_steady, steady_holds}
use Rattle.command_plans.proofs.ClosedPlanLemmas.{IsReady, IsKeptPlan, opening_keeps}
use Rattle.command_plans.proofs.CreationLemmas.{change_steady}
use Rattle.command_plans.proofs.CountingLemmas.{chosen_counts}
use Rattle.command_plans.proofs.RecoveryTurnLemmas.{in_turn_part, joining_in, reaches_all, turns_of_both, turns_of_change, named_in_turn}
use Rattle.command_plans.proofs.FirstRestLemmas.{first_rest_keeps}
use Rattle.command_plans.proofs.ThroughoutLemmas.{holds_last, holds_then, all_done_then}

-- ---- the rosters after a change

-- a write leaves the rosters
written_rosters : (durable : Durable) (host : Host) (writing : Option Roster) → (written_to durable host writing).rosters ≡ durable.rosters
written_rosters durable host None = refl
written_rosters durable host (Some new) = refl

-- once it is written to these hosts the roster is finished
writes_end : (hosts : List SiteHost) (durable : Durable) → (all_done (map writes hosts ++ finishes ∷ []) durable).rosters ≡ finished_with durable.rosters durable.rosters.writing
writes_end [] durable = refl
writes_end (host ∷ hosts) durable = writes_end hosts (done (writes host) durable) ∙ ap (λ (r : Rosters). finished_with r r.writing) (written_rosters durable host.name durable.rosters.writing)

-- ---- a host that was joining has joined

-- an epoch is left for the roster in which the host has joined
room_for : (epoch : ℕ) (hosts : List Host) (joining : Option ℕ) (host : Host) → host_at hosts joining ≡ Some host → MayJoin epoch hosts joining → epoch + 1 < epoch_end
room_for epoch hosts None host e may = absurd cc
room_for epoch hosts (Some index) host e may = may.1

-- that roster is within the limits
settled_good : (last : Roster) (host : Host) → joining_host last ≡ Some host → IsGoodRoster last → IsGoodRoster (settled_from last)
settled_good last host e good = (
  record {
    least = omega arith;
    below = room_for last.epoch last.hosts last.joining host e good.0.joining;
    some = good.0.some;
    most = good.0.most;
    names = good.0.names;
    rise = good.0.rise;
    joining = tt;
    partitions = good.0.partitions;
  },
  (good.1.0, good.1.1, λ no. absurd (let n : None ≡ Some good.1.0 = no in cc)),
)

-- it follows the one in which the host is joining
settled_follows : (last : Roster) (host : Host) → joining_host last ≡ Some host → Succeeds last (settled_from last)
settled_follows last host e = record { next = refl; site = refl; change = settles host e refl refl }

-- the newest of several rosters is within the limits
front_good : (first : Roster) (older : List Roster) → AreSuccessive (first ∷ older) → IsGoodRoster first
front_good first [] are = are.1
front_good first (second ∷ older) are = are.1

-- where a host was joining the second roster follows, and the cluster is ready
settle_holds : (shape : SiteShape) (standings : List LaneStanding) (chosen : Roster) (older : List Roster) (durable : Durable) (joining : Option Host) → joining_host chosen ≡ joining → durable.rosters ≡ record { finished = chosen ∷ older; writing = None }
    → IsSteady shape standings durable → All (IsHeldAt (numbers_of shape.hosts chosen.hosts)) standings
    → HoldsThroughout (IsSteady shape standings) (settle_acts chosen joining (hosts_named shape (in_turn joining chosen.hosts))) durable
    × IsReady shape standings (all_done (settle_acts chosen joining (hosts_named shape (in_turn joining chosen.hosts))) durable).rosters
settle_holds shape standings chosen older durable None joins e is held =
    (is, record { last = chosen; made = ap last_finished e; none = ap (λ (r : Rosters). r.writing) e; joined = joins; held = held })
settle_holds shape standings chosen older durable (Some host) joins e is held = (
  steady_holds shape standings (change_acts new hosts) durable (change_steady shape new hosts of_site) rosters is,
  record { last = new; made = ap last_finished ended; none = ap (λ (r : Rosters). r.writing) ended; joined = refl; held = held },
)
  where
    new : Roster
    new = settled_from chosen

    hosts : List SiteHost
    hosts = hosts_named shape (in_turn (Some host) chosen.hosts)

    part : (one : Host) → Contains (in_turn (Some host) chosen.hosts) one → Contains chosen.hosts one
    part one has = in_turn_part (Some host) chosen.hosts one (λ j e. joining_in chosen j (joins ∙ e)) has

    own : IsRosterOf shape chosen
    own = is.rosters.of_site chosen (subst (λ (r : Rosters). Contains (listed r) chosen) (sym e) (contains_first chosen older))

    of_site : IsRosterOf shape new
    of_site = record { partitions = own.partitions; hosts = own.hosts }

    good : IsGoodRoster chosen
    good = front_good chosen older (subst (λ (r : Rosters). AreSuccessive (listed r)) e is.rosters.rosters.successive)

    rosters : KeepsRostersThroughout (change_acts new hosts) durable
    rosters = change_keeps chosen new older hosts durable e is.rosters.rosters (settled_follows chosen host joins) (settled_good chosen host joins good)
        (turns_of_both shape chosen new [] (in_turn (Some host) chosen.hosts) part part)
        (reaches_all shape (Some host) new chosen.hosts refl)

    ended : (all_done (change_acts new hosts) durable).rosters ≡ record { finished = new ∷ durable.rosters.finished; writing = None }
    ended = writes_end hosts (done (begins new) durable)

-- ---- the rest of a change

-- the rosters are kept throughout the rest, of the first change too
rest_rosters : (shape : SiteShape) (standings : List LaneStanding) (new : Roster) (finished : List Roster) (durable : Durable) → durable.rosters ≡ record { finished = finished; writing = Some new } → IsSteady shape standings durable
    → KeepsRostersThroughout (rest_acts new (hosts_named shape (in_turn (joining_host new) new.hosts)) durable.sights) durable
rest_rosters shape standings new [] durable e is = first_rest_keeps new (hosts_named shape (in_turn (joining_host new) new.hosts)) durable e is.rosters.rosters
    (λ each has. in_turn_part (joining_host new) new.hosts each.name (λ j joins. joining_in new j joins) (named_in_turn shape (in_turn (joining_host new) new.hosts) each has))
    (reaches_all shape (joining_host new) new new.hosts refl)
rest_rosters shape standings new (last ∷ older) durable e is = rest_keeps last new older (hosts_named shape (in_turn (joining_host new) new.hosts)) durable e is.rosters.rosters
    (turns_of_change shape last new (subst (λ (r : Rosters). AreSuccessive (listed r)) e is.rosters.rosters.successive).0.change)
    (reaches_all shape (joining_host new) new new.hosts refl)

-- the rest is written, and then the second roster where a host is joining
going_on_holds : (shape : SiteShape) (standings : List LaneStanding) (new : Roster) (finished : List Roster) (durable : Durable) → durable.rosters ≡ record { finished = finished; writing = Some new } → IsSteady shape standings durable
    → All (IsHeldAt (numbers_of shape.hosts new.hosts)) standings
    → HoldsThroughout (IsSteady shape standings) (going_on_acts durable new (hosts_named shape (in_turn (joining_host new) new.hosts))) durable
    × IsReady shape standings (all_done (going_on_acts durable new (hosts_named shape (in_turn (joining_host new) new.hosts))) durable).rosters
going_on_holds shape standings new finished durable e is held = (
  holds_then (IsSteady shape standings) rest settle durable first after.0,
  subst (λ (d : Durable). IsReady shape standings d.rosters) (sym (all_done_then rest settle durable)) after.1,
)
  where
    hosts : List SiteHost
    hosts = hosts_named shape (in_turn (joining_host new) new.hosts)

    lacking : List SiteHost
    lacking = filter (λ host. lacks new (durable.sights host.name)) hosts

    rest : List Act
    rest = rest_acts new hosts durable.sights

    settle : List Act
    settle = settle_acts new (joining_host new) hosts

    first : HoldsThroughout (IsSteady shape standings) rest durable
    first = steady_holds shape standings rest durable (steady_both shape (map writes lacking) (finishes ∷ []) (writes_steady shape lacking) (finishes_steady shape, tt)) (rest_rosters shape standings new finished durable e is) is

    ended : (all_done rest durable).rosters ≡ record { finished = new ∷ finished; writing = None }
    ended = writes_end lacking durable ∙ ap (λ (r : Rosters). finished_with r r.writing) e

    after : HoldsThroughout (IsSteady shape standings) settle (all_done rest durable) × IsReady shape standings (all_done settle (all_done rest durable)).rosters
    after = settle_holds shape standings new finished (all_done rest durable) (joining_host new) refl ended (holds_last (IsSteady shape standings) rest durable first) held

-- ---- the plan

-- the last finished roster and the older ones
front_of : (finished : List Roster) (roster : Roster) → first_listed finished ≡ Some roster → (older : List Roster) × (finished ≡ roster ∷ older)
front_of [] roster e = absurd cc
front_of (first ∷ older) roster e = (older, ap (λ (r : Roster). r ∷ older) (some_is first roster e))

-- by the roster being written, or by the last finished one
pub recovery_holds : (shape : SiteShape) (standings : List LaneStanding) (chosen : Roster) (durable : Durable) (writing : Option Roster) → durable.rosters.writing ≡ writing → counting_roster durable.rosters ≡ Some chosen → IsSteady shape standings durable
    → All (IsHeldAt (numbers_of shape.hosts chosen.hosts)) standings
    → HoldsThroughout (IsSteady shape standings) (recovery_acts shape durable writing chosen) durable × IsReady shape standings (all_done (recovery_acts shape durable writing chosen) durable).rosters
recovery_holds shape standings chosen durable None e counts is held =
    let last : last_finished durable.rosters ≡ Some chosen = subst (λ (w : Option Roster). later_roster w (last_finished durable.rosters) ≡ Some chosen) e counts in
    let front = front_of durable.rosters.finished chosen last in
    settle_holds shape standings chosen front.0 durable (joining_host chosen) refl (λ i. record { finished = front.1 i; writing = e i }) is held
recovery_holds shape standings chosen durable (Some new) e counts is held =
    let written : durable.rosters.writing ≡ Some chosen = e ∙ subst (λ (w : Option Roster). later_roster w (last_finished durable.rosters) ≡ Some chosen) e counts in
    going_on_holds shape standings chosen durable.rosters.finished durable (λ i. record { finished = durable.rosters.finished; writing = written i }) is held

-- the cluster is opened, or a restart may pick of what was left
pub recovery_keeps : (setting : Setting) (durable : Durable) (reads : List Act) (hosts : List Host) (chosen : Roster) → KeepsClosed setting.shape durable → AreQuiet reads
    → chosen_roster (sightings_at durable.sights hosts) ≡ Some chosen → missing_hosts chosen (sightings_at durable.sights hosts) chosen.hosts ≡ [] → IsKeptPlan setting.shape (recover_by setting durable reads (Some chosen) [])
recovery_keeps setting durable reads hosts chosen keeps quiet e none =
    opening_keeps shape durable.standings durable ((reads ++ acts) ++ loads) _ held.0
    (holds_then P (reads ++ acts) loads durable opened_ (quiet_holds P loads (all_done (reads ++ acts) durable) quiet_loads (holds_last P (reads ++ acts) durable opened_)))
    (subst (λ (d : Durable). IsReady shape durable.standings d.rosters) (sym ended) both.1)
  where
    shape : SiteShape
    shape = setting.shape

    P : Durable → Type 0
    P = IsSteady shape durable.standings

    acts : List Act
    acts = recovery_acts shape durable durable.rosters.writing chosen

    loads : List Act
    loads = lane_loads (numbers_of shape.hosts chosen.hosts) shape.partitions

    quiet_loads : AreQuiet loads
    quiet_loads = quiet_flat (lane_calls (numbers_of shape.hosts chosen.hosts)) (numbers_below shape.partitions) (λ partition. quiet_each (λ host. lane_disk partition host) (numbers_of shape.hosts chosen.hosts))

    counts : counting_roster durable.rosters ≡ Some chosen
    counts = chosen_counts durable.rosters durable.sights hosts chosen keeps.rosters.rosters keeps.one keeps.seen e none

    held : (length durable.standings ≡ shape.partitions) × All (IsHeldAt (numbers_of shape.hosts chosen.hosts)) durable.standings
    held = subst (λ (c : Option Roster). AreHeldBy shape c durable.standings) counts keeps.held

    start : P durable
    start = record { rosters = keeps.rosters; still = refl }

    both : HoldsThroughout P acts durable × IsReady shape durable.standings (all_done acts durable).rosters
    both = recovery_holds shape durable.standings chosen durable durable.rosters.writing refl counts start held.1

    opened_ : HoldsThroughout P (reads ++ acts) durable
    opened_ = holds_then P reads acts durable (quiet_holds P reads durable quiet start) (subst (λ (d : Durable). HoldsThroughout P acts d) (sym (quiet_done reads durable quiet)) both.0)

    ended : all_done ((reads ++ acts) ++ loads) durable ≡ all_done acts durable
    ended = all_done_then (reads ++ acts) loads durable ∙ quiet_done loads (all_done (reads ++ acts) durable) quiet_loads ∙ all_done_then reads acts durable ∙ ap (λ (d : Durable). all_done acts d) (quiet_done reads durable quiet)
