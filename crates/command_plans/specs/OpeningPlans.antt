-- The plans of a creation and of a recovery, by what is on the disks.
use Rattle.std.specs.Prelude.{ℕ, ◌+◌, ◌==◌, nat_lt, List, [], ◌∷◌, ◌++◌, map, Option, Some, None, Bool, true, false, not, ◌&&◌, ◌||◌, if◌then◌else◌}
use Rattle.std.specs.List.{filter, flat_map}
use Rattle.roster_form.specs.Membership.{Host, joining_host}
use Rattle.roster_form.specs.Shown.{Sights}
use Rattle.roster_form.specs.Choice.{Sighting, chosen_roster, missing_hosts}
use Rattle.roster_form.specs.declared.roster.Roster.{Roster}
use Rattle.cluster_model.specs.Lane.{HostedStore, LaneStanding}
use Rattle.cluster_model.specs.LaneSteps.{standing_for}
use Rattle.cluster_model.specs.Site.{SiteShape, is_among, numbers_of, lane_disk, service_disk}
use Rattle.cluster_model.specs.Agreement.{Durable}
use Rattle.cluster_model.specs.Memory.{Setting}
use Rattle.cluster_model.specs.Acts.{Act, quiet}
use Rattle.cluster_model.specs.Turns.{change_acts}
use Rattle.command_plans.specs.Asked.{SiteRefusal, not_member, created_before, not_created, short_of, damaged_roster, no_store, damaged_store, refused, created, recovered}
use Rattle.command_plans.specs.Found.{RosterDamage, FoundSite, FileSight, not_sealed, LaneFinding, finds_none, finds_damage, finds_store, lane_finding, first_damage}
use Rattle.command_plans.specs.Stage.{opened_memory, RunStage, unknown, found_as, closed, opened, Goes, goes_on, restarts}
use Rattle.command_plans.specs.Plan.{Plan, refuses_if, refuses_by, refused_or, number_of, host_named, name_of, first_in, numbers_below}
use Rattle.command_plans.specs.ChangePlans.{hosts_named, in_turn, settle_acts, going_on_acts, end_epoch, lanes_of_host}

-- ---- what is read

-- the hosts of the site that are among these, in the order of the site
abbrev pub present_hosts : SiteShape → List Host → List Host
present_hosts shape present = filter (is_among present) shape.hosts

-- what a host shows, after a restart
abbrev pub sight_of : List (Option Roster) → Option Roster
sight_of [] = None
sight_of (shown ∷ others) = shown

-- what is seen of these hosts
abbrev pub sightings_at : Sights → List Host → List Sighting
sightings_at sights hosts = map (λ host. record { host = host; shown = sight_of (sights host) }) hosts

-- the service disks of these hosts are read
abbrev pub roster_reads : SiteShape → List Host → List Act
roster_reads shape hosts = map (λ host. quiet (service_disk (number_of shape.hosts host))) hosts

-- the first of these hosts that the site hasn't
abbrev pub first_stranger : SiteShape → List Host → Option Host
first_stranger shape present = first_in (filter (λ host. not (is_among shape.hosts host)) present)

-- the disks of one partition at these hosts
abbrev pub lane_calls : List ℕ → ℕ → List Act
lane_calls hosts partition = map (λ host. quiet (lane_disk partition host)) hosts

-- those of the first partitions, one after the other
abbrev pub lane_loads : List ℕ → ℕ → List Act
lane_loads hosts count = flat_map (lane_calls hosts) (numbers_below count)

-- ---- a creation

-- the first store of a partition: empty, and the first of its version and epoch
abbrev pub first_hosted : Setting → ℕ → ℕ → HostedStore
first_hosted setting host partition = record {
  host = host;
  id = record { partition = partition; version = 1; epoch = 1; host = host };
  changes = [];
  end = setting.gate [];
}

-- the first roster has this host alone
abbrev pub first_roster : SiteShape → Host → Roster
first_roster shape host = record { epoch = 1; hosts = host ∷ []; joining = None; partitions = shape.partitions }

-- a cluster without a roster, with its first stores: until a host shows a roster they count for nothing
abbrev pub unmade : Setting → Sights → Host → Durable
unmade setting sights host = record {
  rosters = record { finished = []; writing = None };
  sights = sights;
  standings = map (λ partition. standing_for (first_hosted setting (number_of setting.shape.hosts host) partition)) (numbers_below setting.shape.partitions);
}

-- the first of these hosts that shows a roster
abbrev pub first_shown : List Sighting → Option Host
first_shown [] = None
first_shown (sighting ∷ others) = shown_or sighting.shown sighting.host (first_shown others)
  where
    shown_or : Option Roster → Host → Option Host → Option Host
    shown_or None host other = other
    shown_or (Some roster) host other = Some host

-- a cluster of which this is kept was opened
abbrev pub opened_on : Bool → Durable → Goes
opened_on known durable = goes_on (opened (record { durable = durable; memory = opened_memory durable.standings; known = known }))

-- Every host's rosters are read. Where a host has one, nothing is made; else the first store of each partition is built, and then the
-- first roster is written. A creation that fails goes on after a restart, with what it made.
abbrev pub create_by : Setting → Sights → RunStage → Host → Option Host → Plan
create_by setting sights stage host (Some other) = record {
  durable = unmade setting sights host;
  acts = roster_reads setting.shape setting.shape.hosts;
  answer = refused (created_before other);
  done_goes = λ after. restarts stage;
  failed_goes = λ after. restarts stage;
}
create_by setting sights stage host None = record {
  durable = unmade setting sights host;
  acts = roster_reads setting.shape setting.shape.hosts ++ lanes_of_host setting.shape host ++ change_acts (first_roster setting.shape host) (host_named setting.shape host ∷ []);
  answer = created host;
  done_goes = opened_on true;
  failed_goes = λ after. restarts (closed after);
}

-- refused where the site has no such host, and where a host has a roster already
abbrev pub create_plan : Setting → Sights → RunStage → Host → Option Host → Plan
create_plan setting sights stage host earlier =
    refused_or (refuses_if (not (is_among setting.shape.hosts host)) (not_member host)) (restarts stage) (create_by setting sights stage host earlier)

-- ---- a recovery of what the disks of a cluster keep

-- the chosen roster is written to those of its hosts that may lack it, and where a host is joining it has joined then
abbrev pub recovery_acts : SiteShape → Durable → Option Roster → Roster → List Act
recovery_acts shape durable None chosen = settle_acts chosen (joining_host chosen) (hosts_named shape (in_turn (joining_host chosen) chosen.hosts))
recovery_acts shape durable (Some new) chosen = going_on_acts durable chosen (hosts_named shape (in_turn (joining_host chosen) chosen.hosts))

-- the rosters were read, and the recovery is refused so
abbrev pub refused_after : Durable → RunStage → List Act → SiteRefusal → Plan
refused_after durable stage reads refusal = record {
  durable = durable;
  acts = reads;
  answer = refused refusal;
  done_goes = λ after. restarts stage;
  failed_goes = λ after. restarts stage;
}

-- by the chosen roster and those of its hosts that aren't back
abbrev pub recover_by : Setting → Durable → List Act → Option Roster → List Host → Plan
recover_by setting durable reads None missing = refused_after durable (closed durable) reads not_created
recover_by setting durable reads (Some chosen) (first ∷ missing) = refused_after durable (closed durable) reads (short_of (first ∷ missing))
recover_by setting durable reads (Some chosen) [] = record {
  durable = durable;
  acts = reads ++ recovery_acts setting.shape durable durable.rosters.writing chosen ++ lane_loads (numbers_of setting.shape.hosts chosen.hosts) setting.shape.partitions;
  answer = recovered (end_epoch chosen) chosen.hosts setting.shape.partitions;
  done_goes = opened_on true;
  failed_goes = λ after. restarts (closed after);
}

abbrev pub missing_by : Option Roster → List Sighting → List Host
missing_by None sightings = []
missing_by (Some chosen) sightings = missing_hosts chosen sightings chosen.hosts

abbrev pub recover_seen : Setting → Durable → List Act → List Sighting → Plan
recover_seen setting durable reads sightings = recover_by setting durable reads (chosen_roster sightings) (missing_by (chosen_roster sightings) sightings)

-- Refused where the site lacks one of the hosts, where no present host shows a roster, and where a host of the chosen roster isn't
-- back: up to there the disks are read alone.
abbrev pub recover_plan : Setting → Durable → List Host → Plan
recover_plan setting durable present =
    refused_or (refuses_by (first_stranger setting.shape present) not_member) (restarts (closed durable))
    (recover_seen setting durable (roster_reads setting.shape (present_hosts setting.shape present)) (sightings_at durable.sights (present_hosts setting.shape present)))

-- ---- a recovery of what a run found as it began

-- the newest store of each of the first partitions, or the first that is refused
pub data LanesFound : Type 0 where
  all_found : List LaneStanding → LanesFound
  -- so many partitions were loaded before it
  refused_at_lane : ℕ → SiteRefusal → LanesFound

-- with one partition before the others
abbrev pub found_before : HostedStore → LanesFound → LanesFound
found_before store (all_found standings) = all_found (standing_for store ∷ standings)
found_before store (refused_at_lane count refusal) = refused_at_lane count refusal

abbrev pub lanes_with : SiteShape → ℕ → LaneFinding → LanesFound → LanesFound
lanes_with shape partition finds_none others = refused_at_lane partition (no_store partition)
lanes_with shape partition (finds_damage host file offset) others = refused_at_lane partition (damaged_store (name_of shape host) partition file offset)
lanes_with shape partition (finds_store store file) others = found_before store others

-- what is found of these partitions, one after the other, on these hosts
abbrev pub lanes_found : SiteShape → FoundSite → List ℕ → List ℕ → LanesFound
lanes_found shape found hosts [] = all_found []
lanes_found shape found hosts (partition ∷ partitions) = lanes_with shape partition (lane_finding found hosts partition) (lanes_found shape found hosts partitions)

-- whether this is the file that counts
abbrev pub is_kept : LaneFinding → ℕ → ℕ → Bool
is_kept finds_none host file = true
is_kept (finds_damage h f offset) host file = true
is_kept (finds_store store f) host file = store.host == host && f == file

-- of the first partitions each file on these hosts was erased, but the one that counts
abbrev pub files_left : FoundSite → List ℕ → ℕ → ℕ → ℕ → ℕ → FileSight
files_left found hosts count partition host file =
    if nat_lt partition count && is_number_among hosts host && not (is_kept (lane_finding found hosts partition) host file) then not_sealed else found.files partition host file
  where
    is_number_among : List ℕ → ℕ → Bool
    is_number_among [] number = false
    is_number_among (first ∷ numbers) number = first == number || is_number_among numbers number

-- the rosters that a recovery goes by: the chosen one, as if it were being written
abbrev pub found_durable : FoundSite → Roster → List LaneStanding → Durable
found_durable found chosen standings = record { rosters = record { finished = []; writing = Some chosen }; sights = found.sights; standings = standings }

-- no host beside these shows anything
abbrev pub shows_none : Sights → List Host → Bool
shows_none sights [] = true
shows_none sights (host ∷ hosts) = none_shown (sight_of (sights host)) && shows_none sights hosts
  where
    none_shown : Option Roster → Bool
    none_shown None = true
    none_shown (Some roster) = false

abbrev pub none_damaged : List RosterDamage → Bool
none_damaged [] = true
none_damaged (damage ∷ damages) = false

-- beside the hosts of the roster no host shows a roster, whole or damaged
abbrev pub is_alone : SiteShape → FoundSite → Roster → Bool
is_alone shape found chosen = none_damaged found.damages && shows_none found.sights (filter (λ host. not (is_among chosen.hosts host)) shape.hosts)

-- The chosen roster is written as ever, and then the partitions are loaded, up to the first that has no store or a damaged one. What a
-- fault leaves isn't said.
abbrev pub load_found : Setting → FoundSite → List Act → Roster → LanesFound → Plan
load_found setting found reads chosen (all_found standings) = record {
  durable = found_durable found chosen standings;
  acts = reads ++ recovery_acts setting.shape (found_durable found chosen standings) (Some chosen) chosen ++ lane_loads (numbers_of setting.shape.hosts chosen.hosts) setting.shape.partitions;
  answer = recovered (end_epoch chosen) chosen.hosts setting.shape.partitions;
  done_goes = opened_on (is_alone setting.shape found chosen);
  failed_goes = λ after. restarts unknown;
}
load_found setting found reads chosen (refused_at_lane count refusal) = record {
  durable = found_durable found chosen [];
  acts = reads ++ recovery_acts setting.shape (found_durable found chosen []) (Some chosen) chosen ++ lane_loads (numbers_of setting.shape.hosts chosen.hosts) (count + 1);
  answer = refused refusal;
  done_goes = λ after. restarts (found_as (record { sights = after.sights; damages = found.damages; files = files_left found (numbers_of setting.shape.hosts chosen.hosts) count }));
  failed_goes = λ after. restarts unknown;
}

-- nothing was written
abbrev pub refused_found : FoundSite → List Act → SiteRefusal → Plan
refused_found found reads refusal = refused_after (record { rosters = record { finished = []; writing = None }; sights = found.sights; standings = [] }) (found_as found) reads refusal

abbrev pub recover_found_by : Setting → FoundSite → List Act → Option RosterDamage → Option Roster → List Host → Plan
recover_found_by setting found reads (Some damage) chosen missing = refused_found found reads (damaged_roster damage.host damage.file damage.offset)
recover_found_by setting found reads None None missing = refused_found found reads not_created
recover_found_by setting found reads None (Some chosen) (first ∷ missing) = refused_found found reads (short_of (first ∷ missing))
recover_found_by setting found reads None (Some chosen) [] =
    load_found setting found reads chosen (lanes_found setting.shape found (numbers_of setting.shape.hosts chosen.hosts) (numbers_below setting.shape.partitions))

abbrev pub recover_found_seen : Setting → FoundSite → List Host → List Sighting → Plan
recover_found_seen setting found present sightings =
    recover_found_by setting found (roster_reads setting.shape present) (first_damage found.damages present) (chosen_roster sightings) (missing_by (chosen_roster sightings) sightings)

-- The same with what a run found as it began: a damaged roster is refused before a missing one, and each partition by its own files.
abbrev pub recover_found_plan : Setting → FoundSite → List Host → Plan
recover_found_plan setting found present =
    refused_or (refuses_by (first_stranger setting.shape present) not_member) (restarts (found_as found))
    (recover_found_seen setting found (present_hosts setting.shape present) (sightings_at found.sights (present_hosts setting.shape present)))

-- the first of these hosts with a sealed roster file, whole or damaged
abbrev pub first_with_roster : FoundSite → List Host → Option Host
first_with_roster found [] = None
first_with_roster found (host ∷ hosts) = one_or (first_damage found.damages (host ∷ [])) (sight_of (found.sights host)) host (first_with_roster found hosts)
  where
    one_or : Option RosterDamage → Option Roster → Host → Option Host → Option Host
    one_or (Some damage) shown host others = Some host
    one_or None (Some roster) host others = Some host
    one_or None None host others = others

-- a creation over what a run found
abbrev pub create_found_plan : Setting → FoundSite → Host → Plan
create_found_plan setting found host = create_plan setting found.sights (found_as found) host (first_with_roster found setting.shape.hosts)

-- a creation over what the disks keep
abbrev pub create_kept_plan : Setting → Durable → Host → Plan
create_kept_plan setting durable host = create_plan setting durable.sights (closed durable) host (first_shown (sightings_at durable.sights setting.shape.hosts))
