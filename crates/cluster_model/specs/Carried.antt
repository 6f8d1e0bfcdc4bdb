-- How the images of a site follow the acts of a command, each act as the contracts of its calls say of one disk.
use Rattle.std.specs.Prelude.{◌≡◌, ◌≢◌, ◌⊎◌, ℕ, List, [], ◌∷◌, slice_get, Option, Some, None, Contains}
use Rattle.roster_form.specs.Membership.{Host}
use Rattle.roster_form.specs.declared.roster.Roster.{Roster}
use Rattle.roster_form.specs.Shown.{Shows, ShowsOneOf}
use Rattle.roster_form.specs.Succession.{Succeeds, IsGoodRoster, IsShownByAll}
use Rattle.cluster_model.specs.Lane.{LaneStanding, KeepsLane}
use Rattle.cluster_model.specs.LaneSteps.{standing_for, with_doubt}
use Rattle.cluster_model.specs.Site.{SiteShape, partition_of, numbers_of, lane_disk, service_disk, SiteImage, lane_in}
use Rattle.cluster_model.specs.Agreement.{hosts_in, two_of, IsInEach, IsRosterOf, Durable}
use Rattle.cluster_model.specs.SiteSteps.{ChangesLane, ChangesService, IsNumberOf, IsCleared}
use Rattle.cluster_model.specs.Acts.{SiteHost, Act, quiet, appends, seals, writes, clears, begins, finishes, appended, done, tried}

-- ---- one act

-- The disks of this partition alone change; where they kept its standing they keep another now, and the host of its store is one
-- of each roster that may pass.
pub record MovesLane (shape : SiteShape) (durable : Durable) (partition : ℕ) (change : LaneStanding → LaneStanding) (old new : SiteImage) : Type 0 where
  pub others : ChangesLane partition old new
  pub keeps : (standing : LaneStanding) → slice_get durable.standings partition ≡ Some standing → KeepsLane (partition_of shape partition) (numbers_of shape.hosts (hosts_in (two_of durable.rosters))) standing (lane_in old partition)
      → KeepsLane (partition_of shape partition) (numbers_of shape.hosts (hosts_in (two_of durable.rosters))) (change standing) (lane_in new partition) × IsInEach shape.hosts (two_of durable.rosters) (change standing).store.host

-- the service disk of this host alone changes, and it shows one of these
pub record MovesService (shape : SiteShape) (host : SiteHost) (sights : List (Option Roster)) (old new : SiteImage) : Type 0 where
  pub others : ChangesService host.number old new
  pub numbered : IsNumberOf shape host.name host.number
  pub shows : ShowsOneOf sights (new (service_disk host.number))

-- it goes on showing what it showed
pub record ShowsTheSame (number : ℕ) (old new : SiteImage) : Type 0 where
  pub others : ChangesService number old new
  pub same : (shown : Option Roster) → Shows (old (service_disk number)) shown → Shows (new (service_disk number)) shown

-- Of the roster being written one host may show one of these.
pub record MovesRoster (shape : SiteShape) (durable : Durable) (host : SiteHost) (sights : Roster → List (Option Roster)) (old new : SiteImage) : Type 0 where
  pub roster : Roster
  pub writing : durable.rosters.writing ≡ Some roster
  pub moves : MovesService shape host (sights roster) old new

-- A change of the roster may begin: each of its hosts is recorded already, but perhaps one that is cleared, and each owner is one
-- of them.
pub record MayBegin (shape : SiteShape) (durable : Durable) (new : Roster) (image : SiteImage) : Type 0 where
  pub last : Roster
  pub older : List Roster
  pub joining : Host
  pub rosters : durable.rosters ≡ record { finished = last ∷ older; writing = None }
  pub succeeds : Succeeds last new
  pub good : IsGoodRoster new
  pub of_site : IsRosterOf shape new
  pub hosts : (host : Host) → Contains new.hosts host → Contains last.hosts host ⊎ (host ≡ joining)
  pub cleared : IsCleared shape image joining ⊎ Contains last.hosts joining
  pub owners : (partition : ℕ) (standing : LaneStanding) → slice_get durable.standings partition ≡ Some standing → Contains (numbers_of shape.hosts new.hosts) standing.store.host

-- it may end: each of its hosts shows it and nothing else
pub record MayFinish (durable : Durable) : Type 0 where
  pub finished : List Roster
  pub new : Roster
  pub rosters : durable.rosters ≡ record { finished = finished; writing = Some new }
  pub all : IsShownByAll durable.sights new

-- from the one image to the other the act is done
abbrev pub IsDoneOver : SiteShape → Act → Durable → SiteImage → SiteImage → Type 0
IsDoneOver shape (quiet (lane_disk partition host)) durable old new = MovesLane shape durable partition (λ standing. standing) old new
IsDoneOver shape (quiet (service_disk number)) durable old new = ShowsTheSame number old new
IsDoneOver shape (appends partition host group size) durable old new = MovesLane shape durable partition (λ standing. standing_for (appended standing.store group size)) old new
IsDoneOver shape (seals partition store) durable old new = MovesLane shape durable partition (λ standing. standing_for store) old new
IsDoneOver shape (writes host) durable old new = MovesRoster shape durable host (λ roster. Some roster ∷ []) old new
IsDoneOver shape (clears host) durable old new =
    MovesService shape host (None ∷ []) old new × IsCleared shape old host.name × ((partition : ℕ) (standing : LaneStanding) → slice_get durable.standings partition ≡ Some standing → standing.store.host ≢ host.number)
IsDoneOver shape (begins roster) durable old new = (new ≡ old) × MayBegin shape durable roster old
IsDoneOver shape finishes durable old new = (new ≡ old) × MayFinish durable

-- from the one image to the other it is done or not
abbrev pub IsTriedOver : SiteShape → Act → Durable → SiteImage → SiteImage → Type 0
IsTriedOver shape (quiet (lane_disk partition host)) durable old new = MovesLane shape durable partition (λ standing. standing) old new
IsTriedOver shape (quiet (service_disk number)) durable old new = ShowsTheSame number old new
IsTriedOver shape (appends partition host group size) durable old new = MovesLane shape durable partition (λ standing. with_doubt standing (appended standing.store group size)) old new
IsTriedOver shape (seals partition store) durable old new = MovesLane shape durable partition (λ standing. with_doubt standing store) old new
IsTriedOver shape (writes host) durable old new = MovesRoster shape durable host (λ roster. Some roster ∷ durable.sights host.name) old new
IsTriedOver shape (clears host) durable old new = MovesService shape host (None ∷ durable.sights host.name) old new
IsTriedOver shape (begins roster) durable old new = new ≡ old
IsTriedOver shape finishes durable old new = new ≡ old

-- ---- several

-- From the one image to the other some of the acts are done, and perhaps one more is tried; the disks then keep this.
abbrev pub IsCarriedOver : SiteShape → List Act → Durable → Durable → SiteImage → SiteImage → Type 0
IsCarriedOver shape [] durable kept old new = (kept ≡ durable) × (new ≡ old)
IsCarriedOver shape (act ∷ acts) durable kept old new =
    ((kept ≡ durable) × (new ≡ old))
    ⊎ ((kept ≡ tried act durable) × IsTriedOver shape act durable old new)
    ⊎ ((mid : SiteImage) × IsDoneOver shape act durable old mid × IsCarriedOver shape acts (done act durable) kept mid new)
