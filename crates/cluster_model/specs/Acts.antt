-- What the calls on one disk do to what the disks of a cluster keep: an act is done, or a stop or a fault leaves open whether it is.
use Rattle.std.specs.Prelude.{◌≡◌, ◌⊎◌, ℕ, ◌+◌, ◌==◌, List, [], ◌∷◌, ◌++◌, map, Option, Some, None, not, if◌then◌else◌}
use Rattle.std.specs.List.{filter}
use Rattle.cache_model.specs.Caches.{same}
use Rattle.cache_model.specs.Change.{Change}
use Rattle.roster_form.specs.Membership.{Host}
use Rattle.roster_form.specs.declared.roster.Roster.{Roster}
use Rattle.roster_form.specs.Shown.{Sights}
use Rattle.roster_form.specs.Succession.{Rosters, KeepsRosters}
use Rattle.cluster_model.specs.Lane.{HostedStore, LaneStanding}
use Rattle.cluster_model.specs.LaneSteps.{standing_for, with_doubt}
use Rattle.cluster_model.specs.Site.{DiskOf, lane_disk, service_disk}
use Rattle.cluster_model.specs.SiteSteps.{with_standing, with_rosters, with_sights}
use Rattle.cluster_model.specs.Agreement.{with_writing, with_finished, Durable}

-- a host of the site, by its number and its name
pub record SiteHost : Type 0 where
  pub number : ℕ
  pub name : Host

pub data Act : Type 0 where
  -- calls on this disk that change nothing that it stands for: a read, a build before its seal, an erasure of an old file
  quiet : DiskOf → Act
  -- a group is added to the store of this partition, on this host's disk; its record takes so many bytes
  appends : ℕ → ℕ → List Change → ℕ → Act
  -- this store of the partition is sealed, on its host's disk: it was built anew, moved or reset
  seals : ℕ → HostedStore → Act
  -- the roster being written is written to this host
  writes : SiteHost → Act
  -- this host's rosters are erased, and its stores in every lane
  clears : SiteHost → Act
  -- no call: a change of the roster begins; each of its hosts has it
  begins : Roster → Act
  finishes : Act

-- the disk that is called
abbrev pub disk_called : Act → Option DiskOf
disk_called (quiet disk) = Some disk
disk_called (appends partition host group size) = Some (lane_disk partition host)
disk_called (seals partition store) = Some (lane_disk partition store.host)
disk_called (writes host) = Some (service_disk host.number)
disk_called (clears host) = Some (service_disk host.number)
disk_called (begins roster) = None
disk_called finishes = None

-- ---- parts

-- this host may show these
abbrev pub sights_with : Sights → Host → List (Option Roster) → Sights
sights_with sights host shown other = if same host other then shown else sights other

-- the store with a group more
abbrev pub appended : HostedStore → List Change → ℕ → HostedStore
appended store group size = record { host = store.host; id = store.id; changes = store.changes ++ group; end = store.end + size }

-- a stop shows no store of this host in place of the one that commits go to
abbrev pub without_host : ℕ → LaneStanding → LaneStanding
without_host host standing = record { store = standing.store; perhaps = filter (λ store. not (host == store.host)) standing.perhaps }

-- the roster being written is written to this host
abbrev pub written_to : Durable → Host → Option Roster → Durable
written_to durable host None = durable
written_to durable host (Some new) = with_sights durable (sights_with durable.sights host (Some new ∷ []))

abbrev pub perhaps_written_to : Durable → Host → Option Roster → Durable
perhaps_written_to durable host None = durable
perhaps_written_to durable host (Some new) = with_sights durable (sights_with durable.sights host (Some new ∷ durable.sights host))

abbrev pub finished_with : Rosters → Option Roster → Rosters
finished_with rosters None = rosters
finished_with rosters (Some new) = with_finished rosters new

-- ---- the act

-- it is done
abbrev pub done : Act → Durable → Durable
done (quiet disk) durable = durable
done (appends partition host group size) durable = with_standing durable partition (λ standing. standing_for (appended standing.store group size))
done (seals partition store) durable = with_standing durable partition (λ standing. standing_for store)
done (writes host) durable = written_to durable host.name durable.rosters.writing
done (clears host) durable = record { rosters = durable.rosters; sights = sights_with durable.sights host.name (None ∷ []); standings = map (without_host host.number) durable.standings }
done (begins roster) durable = with_rosters durable (with_writing durable.rosters roster)
done finishes durable = with_rosters durable (finished_with durable.rosters durable.rosters.writing)

-- it is done or not, and a stop decides
abbrev pub tried : Act → Durable → Durable
tried (quiet disk) durable = durable
tried (appends partition host group size) durable = with_standing durable partition (λ standing. with_doubt standing (appended standing.store group size))
tried (seals partition store) durable = with_standing durable partition (λ standing. with_doubt standing store)
tried (writes host) durable = perhaps_written_to durable host.name durable.rosters.writing
tried (clears host) durable = with_sights durable (sights_with durable.sights host.name (None ∷ durable.sights host.name))
tried (begins roster) durable = durable
tried finishes durable = durable

-- one after the other
abbrev pub all_done : List Act → Durable → Durable
all_done [] durable = durable
all_done (act ∷ acts) durable = all_done acts (done act durable)

-- ---- several acts

-- Of these acts the first ones are done, and perhaps one more is tried: so it is where a call fails, and where a stop comes.
pub record AreCutShort (acts : List Act) (durable kept : Durable) : Type 0 where
  pub before : List Act
  pub after : List Act
  pub whole : acts ≡ before ++ after
  pub next : (kept ≡ all_done before durable) ⊎ ((act : Act) × (rest : List Act) × (after ≡ act ∷ rest) × (kept ≡ tried act (all_done before durable)))

-- the rosters are kept, whatever is pending
abbrev pub KeepsRostersAt : Durable → Type 0
KeepsRostersAt durable = KeepsRosters durable.rosters durable.sights

-- so they are before each of these acts, within it, and after the last
abbrev pub KeepsRostersThroughout : List Act → Durable → Type 0
KeepsRostersThroughout [] durable = KeepsRostersAt durable
KeepsRostersThroughout (act ∷ acts) durable = KeepsRostersAt durable × KeepsRostersAt (tried act durable) × KeepsRostersThroughout acts (done act durable)
