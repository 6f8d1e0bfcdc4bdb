-- How one disk of a site changes, from one image to the next, and what the disks then keep.
use Rattle.std.specs.Prelude.{◌≡◌, ◌≢◌, ◌⊎◌, ℕ, zero, suc, ◌≤◌, List, [], ◌∷◌, slice_get, Some}
use Rattle.store_journal.specs.Created.{IsUnsealed}
use Rattle.roster_form.specs.Membership.{Host}
use Rattle.roster_form.specs.Shown.{Sights}
use Rattle.roster_form.specs.Succession.{Rosters}
use Rattle.cluster_model.specs.Lane.{LaneStanding}
use Rattle.cluster_model.specs.Site.{SiteShape, lane_disk, service_disk, SiteImage, lane_in}
use Rattle.cluster_model.specs.Agreement.{Durable}

-- ---- what the disks keep

-- with the item at this index changed so
abbrev pub changed_at : {T : Type 0} → List T → ℕ → (T → T) → List T
changed_at [] index change = []
changed_at (first ∷ others) zero change = change first ∷ others
changed_at (first ∷ others) (suc index) change = first ∷ changed_at others index change

-- the standing of this partition is another
abbrev pub with_standing : Durable → ℕ → (LaneStanding → LaneStanding) → Durable
with_standing durable partition change = record { rosters = durable.rosters; sights = durable.sights; standings = changed_at durable.standings partition change }

abbrev pub with_rosters : Durable → Rosters → Durable
with_rosters durable rosters = record { rosters = rosters; sights = durable.sights; standings = durable.standings }

abbrev pub with_sights : Durable → Sights → Durable
with_sights durable sights = record { rosters = durable.rosters; sights = sights; standings = durable.standings }

-- ---- the disk

-- no disk has changed but those of this partition
pub record ChangesLane (partition : ℕ) (old new : SiteImage) : Type 0 where
  pub lanes : (other : ℕ) → other ≢ partition → lane_in new other ≡ lane_in old other
  pub services : (host : ℕ) → new (service_disk host) ≡ old (service_disk host)

-- no disk has changed but the service disk of the host with this number
pub record ChangesService (host : ℕ) (old new : SiteImage) : Type 0 where
  pub lanes : (partition : ℕ) → lane_in new partition ≡ lane_in old partition
  pub services : (other : ℕ) → (other ≡ host) ⊎ (new (service_disk other) ≡ old (service_disk other))

-- the host has this number, and no other
abbrev pub IsNumberOf : SiteShape → Host → ℕ → Type 0
IsNumberOf shape host number = (slice_get shape.hosts number ≡ Some host) × ((other : ℕ) → slice_get shape.hosts other ≡ Some host → other ≡ number)

-- this host's files 0 and 1 aren't sealed, in any lane
abbrev pub IsCleared : SiteShape → SiteImage → Host → Type 0
IsCleared shape image host = (number partition file : ℕ) → slice_get shape.hosts number ≡ Some host → file ≤ 1 → IsUnsealed (image (lane_disk partition number) file)
