-- What holds at each stage of a run. Of a cluster that is open:
-- 1. its rosters follow one another, each is of this site, and no host shows what they don't allow; one is finished, and where none is
--    being written no host is joining;
-- 2. the owner of each partition is a host of each roster that may pass, and so is the host that its store moves to;
-- 3. a stop shows of each partition what was answered; or, on its owner's disk, that and all that is in flight;
-- 4. no store of a partition that may be found has a greater version than the partition was told.
-- Of one that is closed, after a restart:
-- 5. the rosters are as above; each host shows one thing, and some host shows the roster that is being written;
-- 6. each partition stands for one store, on a host of the roster that counts; with no roster there is no partition.
use Rattle.std.specs.Prelude.{◌≡◌, ◌⊎◌, ℕ, ◌≤◌, List, [], ◌∷◌, ◌++◌, length, slice_get, Option, Some, None, true, All, Contains}
use Rattle.cache_key.specs.Names.{IsName}
use Rattle.cache_model.specs.Change.{Change}
use Rattle.cache_model.specs.Contents.{IsRising}
use Rattle.roster_form.specs.Membership.{Host, most_hosts}
use Rattle.roster_form.specs.declared.roster.Roster.{Roster}
use Rattle.roster_form.specs.Succession.{listed, last_finished}
use Rattle.cluster_model.specs.Lane.{HostedStore, LaneStanding}
use Rattle.cluster_model.specs.Site.{SiteShape, DiskOf, numbers_of}
use Rattle.cluster_model.specs.Agreement.{two_of, IsInEach, IsRosterOf, Durable}
use Rattle.cluster_model.specs.Members.{joining_or_none}
use Rattle.cluster_model.specs.Memory.{MoveState, PartState, IsTold}
use Rattle.cluster_model.specs.Restart.{counting_roster, IsShownBySome}
use Rattle.cluster_model.specs.Acts.{Act, disk_called, tried, done, all_done, KeepsRostersAt}
use Rattle.command_plans.specs.Stage.{OpenSite, RunStage, unknown, found_as, closed, opened, IsRestartOf}

-- a site: up to 16 hosts, whose names rise in byte order, and 1 to 257 partitions
pub record IsSite (shape : SiteShape) : Type 0 where
  pub most : length shape.hosts ≤ most_hosts
  pub names : All IsName shape.hosts
  pub rise : IsRising shape.hosts
  pub least : 1 ≤ shape.partitions
  pub partitions : shape.partitions ≤ 257

-- it is so before each of these acts, within it, and after the last
abbrev pub HoldsThroughout : (Durable → Type 0) → List Act → Durable → Type 0
HoldsThroughout P [] durable = P durable
HoldsThroughout P (act ∷ acts) durable = P durable × P (tried act durable) × HoldsThroughout P acts (done act durable)

-- it is so after all of these acts, and after a call in any of them has failed
pub record HoldsWhereCalled (P : Durable → Type 0) (acts : List Act) (durable : Durable) : Type 0 where
  pub all : P (all_done acts durable)
  pub fails : (before after : List Act) (act : Act) (disk : DiskOf) → acts ≡ before ++ act ∷ after → disk_called act ≡ Some disk → P (tried act (all_done before durable))

-- the rosters are kept, and each is of this site
pub record KeepsRostersOf (shape : SiteShape) (durable : Durable) : Type 0 where
  pub rosters : KeepsRostersAt durable
  pub of_site : (roster : Roster) → Contains (listed durable.rosters) roster → IsRosterOf shape roster

-- ---- open

-- What a partition stands for while a cluster is open: its owner is a host of each roster that may pass; each store that a stop may
-- show has what was answered, or is on the owner's disk and has that and all that is in flight.
pub record KeepsStanding (shape : SiteShape) (durable : Durable) (standing : LaneStanding) : Type 0 where
  pub owner : IsInEach shape.hosts (two_of durable.rosters) standing.store.host
  pub flight : List Change
  pub each : (store : HostedStore) → Contains standing.perhaps store
      → (store.changes ≡ standing.store.changes) ⊎ ((store.host ≡ standing.store.host) × (store.changes ≡ standing.store.changes ++ flight))

-- the host to which a store moves is one of each roster that may pass
abbrev pub AreTargets : SiteShape → Durable → List PartState → Type 0
AreTargets shape durable parts = (partition : ℕ) (part : PartState) (move : MoveState) → slice_get parts partition ≡ Some part → part.move ≡ Some move → IsInEach shape.hosts (two_of durable.rosters) move.to

-- what the disks of an open cluster keep, and of what memory has the targets of moves
pub record KeepsCluster (shape : SiteShape) (parts : List PartState) (durable : Durable) : Type 0 where
  pub rosters : KeepsRostersOf shape durable
  pub made : (last : Roster) × (last_finished durable.rosters ≡ Some last)
  pub number : length durable.standings ≡ shape.partitions
  pub each : (partition : ℕ) (standing : LaneStanding) → slice_get durable.standings partition ≡ Some standing → KeepsStanding shape durable standing
  pub targets : AreTargets shape durable parts

-- where no roster is being written no host is joining
abbrev pub NoneJoins : Durable → Type 0
NoneJoins durable = durable.rosters.writing ≡ None → joining_or_none (last_finished durable.rosters) ≡ None

-- an open cluster, between two commands or events
pub record KeepsOpen (shape : SiteShape) (site : OpenSite) : Type 0 where
  pub cluster : KeepsCluster shape site.memory.parts site.durable
  pub joined : NoneJoins site.durable
  pub known : site.known ≡ true
  pub parts : length site.memory.parts ≡ shape.partitions
  pub trails : length site.memory.trails ≡ shape.partitions
  pub told : (partition : ℕ) (standing : LaneStanding) (part : PartState) → slice_get site.durable.standings partition ≡ Some standing → slice_get site.memory.parts partition ≡ Some part → IsTold standing part

-- ---- closed

-- a restart may pick of this: the rosters are kept, and where there is one each partition has its standing
pub record MayBePicked (shape : SiteShape) (durable : Durable) : Type 0 where
  pub rosters : KeepsRostersOf shape durable
  pub number : (roster : Roster) → counting_roster durable.rosters ≡ Some roster → length durable.standings ≡ shape.partitions

-- the partition stands for one store, on one of these hosts
pub record IsHeldAt (hosts : List ℕ) (standing : LaneStanding) : Type 0 where
  pub one : standing.perhaps ≡ []
  pub host : Contains hosts standing.store.host

-- each partition does, on a host of the roster that counts; with none there is no partition
abbrev pub AreHeldBy : SiteShape → Option Roster → List LaneStanding → Type 0
AreHeldBy shape None standings = standings ≡ []
AreHeldBy shape (Some roster) standings = (length standings ≡ shape.partitions) × All (IsHeldAt (numbers_of shape.hosts roster.hosts)) standings

-- a closed cluster, after a restart
pub record KeepsClosed (shape : SiteShape) (durable : Durable) : Type 0 where
  pub rosters : KeepsRostersOf shape durable
  pub one : (host : Host) → (shown : Option Roster) × (durable.sights host ≡ shown ∷ [])
  pub seen : (new : Roster) → durable.rosters.writing ≡ Some new → IsShownBySome durable.sights (Some new)
  pub held : AreHeldBy shape (counting_roster durable.rosters) durable.standings

-- ---- a stage

-- It is so at a stage of a run. Of disks of which nothing is known, or only what was found on them, nothing is said.
abbrev pub IsKeptStage : SiteShape → RunStage → Type 0
IsKeptStage shape unknown = ⊥
IsKeptStage shape (found_as found) = ⊥
IsKeptStage shape (closed durable) = KeepsClosed shape durable
IsKeptStage shape (opened site) = KeepsOpen shape site

-- a stage at which a run may be broken off: so it is after the restart of all disks
abbrev pub IsKeptAfterRestart : SiteShape → RunStage → Type 0
IsKeptAfterRestart shape stage = (new : RunStage) → IsRestartOf shape stage new → IsKeptStage shape new

-- ---- what was answered

-- the changes of this partition that were answered
abbrev pub answered_in : OpenSite → ℕ → Option (List Change)
answered_in site partition = answered_of (slice_get site.durable.standings partition)
  where
    answered_of : Option LaneStanding → Option (List Change)
    answered_of None = None
    answered_of (Some standing) = Some standing.store.changes

-- of all partitions but this one the changes that were answered are what they were
abbrev pub OthersAreAsAnswered : ℕ → OpenSite → OpenSite → Type 0
OthersAreAsAnswered partition old new = (other : ℕ) → (other ≡ partition) ⊎ (answered_in new other ≡ answered_in old other)
