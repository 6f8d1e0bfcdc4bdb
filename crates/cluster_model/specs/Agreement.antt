-- How rosters and partitions agree, and what each stop leaves of a cluster.
use Rattle.std.specs.Prelude.{◌≡◌, ◌⊎◌, ℕ, List, [], ◌∷◌, ◌++◌, slice_get, Option, Some, None, Contains}
use Rattle.roster_form.specs.Membership.{Host}
use Rattle.roster_form.specs.declared.roster.Roster.{Roster}
use Rattle.roster_form.specs.Shown.{Sights, MayShow, Shows}
use Rattle.roster_form.specs.Choice.{Sighting, MayOpenBy}
use Rattle.roster_form.specs.Succession.{Rosters, listed, last_finished, KeepsRosters}
use Rattle.cluster_model.specs.Lane.{HostedStore, LaneStanding, Opens, KeepsLane, HasOneFlight}
use Rattle.cluster_model.specs.Site.{SiteShape, partition_of, numbers_of, service_disk, SiteImage, SiteView, lane_in, IsTaken}

-- ---- rosters that may pass

-- the hosts of these rosters
abbrev pub hosts_in : List Roster → List Host
hosts_in [] = []
hosts_in (roster ∷ rosters) = roster.hosts ++ hosts_in rosters

abbrev pub some_of : Option Roster → List Roster
some_of None = []
some_of (Some roster) = roster ∷ []

-- the rosters that may pass while a cluster is open: the last finished one and the one being written
abbrev pub two_of : Rosters → List Roster
two_of rosters = some_of (last_finished rosters) ++ some_of rosters.writing

-- the roster is being written, and no other
abbrev pub with_writing : Rosters → Roster → Rosters
with_writing rosters new = record { finished = rosters.finished; writing = Some new }

-- the roster was written to each of its hosts
abbrev pub with_finished : Rosters → Roster → Rosters
with_finished rosters new = record { finished = new ∷ rosters.finished; writing = None }

-- the number is that of a host of each of these rosters
abbrev pub IsInEach : List Host → List Roster → ℕ → Type 0
IsInEach hosts rosters number = (roster : Roster) → Contains rosters roster → Contains (numbers_of hosts roster.hosts) number

-- the roster is one of this site, and so is each of its hosts
pub record IsRosterOf (shape : SiteShape) (roster : Roster) : Type 0 where
  pub partitions : roster.partitions ≡ shape.partitions
  pub hosts : (host : Host) → Contains roster.hosts host → Contains shape.hosts host

-- the host's service disk, where the site has that host, shows this
abbrev pub IsShownOn : SiteShape → SiteImage → Host → Option Roster → Type 0
IsShownOn shape image host shown = (number : ℕ) → slice_get shape.hosts number ≡ Some host → Shows (image (service_disk number)) shown

-- ---- the invariant

-- What the disks of a cluster keep: its rosters, what each host may show of them, and what each partition stands for, in
-- the order of their numbers.
pub record Durable : Type 0 where
  pub rosters : Rosters
  pub sights : Sights
  pub standings : List LaneStanding

-- One image of the site keeps this, where no rosters but these may pass:
-- 1. the rosters are successive, and each host may show only what they allow;
-- 2. each is of this site, and so are its hosts;
-- 3. whatever hosts are present, and whatever each shows that it may show, they open the cluster by one of those that may pass;
-- 4. each host has one thing that it may show, and its service disk shows that;
-- 5. over the hosts of all rosters that may pass, each partition's disks keep its standing;
-- 6. the host of its store is one of each of these rosters.
pub record KeepsSite (shape : SiteShape) (durable : Durable) (passing : List Roster) (image : SiteImage) : Type 0 where
  pub rosters : KeepsRosters durable.rosters durable.sights
  pub of_site : (roster : Roster) → Contains (listed durable.rosters) roster → IsRosterOf shape roster
  pub only : (sightings : List Sighting) (roster : Roster) → ((each : Sighting) → Contains sightings each → MayShow durable.sights each.host each.shown) → MayOpenBy sightings roster → Contains passing roster
  pub shown : (host : Host) → (shown : Option Roster) × MayShow durable.sights host shown × IsShownOn shape image host shown
  pub lanes : (partition : ℕ) (standing : LaneStanding) → slice_get durable.standings partition ≡ Some standing
      → KeepsLane (partition_of shape partition) (numbers_of shape.hosts (hosts_in passing)) standing (lane_in image partition)
  pub owners : (partition : ℕ) (standing : LaneStanding) → slice_get durable.standings partition ≡ Some standing → IsInEach shape.hosts passing standing.store.host

-- The disks keep this, whatever a stop now leaves of them.
abbrev pub IsSaved : SiteShape → Durable → List Roster → SiteView → Type 0
IsSaved shape durable passing views = (image : SiteImage) → IsTaken views image → KeepsSite shape durable passing image

-- ---- what survives

-- each of these hosts is one of the site, and shows this in the image
abbrev pub AreSighted : SiteShape → SiteImage → List Sighting → Type 0
AreSighted shape image sightings = (each : Sighting) → Contains sightings each → (number : ℕ) × (slice_get shape.hosts number ≡ Some each.host) × Shows (image (service_disk number)) each.shown

-- Over an image, where these hosts are present and may open the cluster by this roster, one store of the partition is the
-- newest on the roster's hosts, with the changes that were answered, or these and all that is in flight.
abbrev pub IsFoundAgain : SiteShape → LaneStanding → ℕ → List Host → SiteImage → Type 0
IsFoundAgain shape standing partition hosts image = (one : HasOneFlight standing) → (store : HostedStore) × Opens (partition_of shape partition) (numbers_of shape.hosts hosts) (lane_in image partition) store
    × ((store.changes ≡ standing.store.changes) ⊎ (store.changes ≡ standing.store.changes ++ one.flight))

-- What was answered survives, over these disks: whatever a stop leaves, and whatever hosts come back that may open the
-- cluster, of each partition that is found again.
abbrev pub SurvivesStops : SiteShape → Durable → SiteView → Type 0
SurvivesStops shape durable views = (image : SiteImage) (sightings : List Sighting) (roster : Roster) (partition : ℕ) (standing : LaneStanding) → IsTaken views image → AreSighted shape image sightings → MayOpenBy sightings roster
    → slice_get durable.standings partition ≡ Some standing → IsFoundAgain shape standing partition roster.hosts image
