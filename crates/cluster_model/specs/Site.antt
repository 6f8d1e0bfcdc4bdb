-- The disks of a site: what all of them tell, how often each failed, and what a stop may leave of them together.
use Rattle.std.specs.Prelude.{◌≡◌, ℕ, suc, ◌≤◌, List, [], ◌∷◌, slice_get, Option, Some, None, Bool, false, ◌||◌, refl, if◌then◌else◌}
use Rattle.cache_model.specs.Caches.{same}
use Rattle.disk_lane.specs.Lanes.{LaneImage}
use Rattle.disk_trait.specs.View.{Image, View}
use Rattle.file_kinds.specs.Kinds.{PartitionNumber}
use Rattle.roster_form.specs.Membership.{Host}

-- ---- hosts and their numbers

-- a site: its hosts by their names, of which the first has the number 0, and how many partitions it has
pub record SiteShape : Type 0 where
  pub hosts : List Host
  pub partitions : ℕ

-- a partition of the site, by its number
abbrev pub partition_of : SiteShape → ℕ → PartitionNumber
partition_of shape partition = record { partition = partition; partitions = shape.partitions }

-- whether it is one of these
abbrev pub is_among : List Host → Host → Bool
is_among [] host = false
is_among (first ∷ hosts) host = same first host || is_among hosts host

-- the numbers of those of the hosts that are among the named ones, where the first host has this number
abbrev pub numbers_from : ℕ → List Host → List Host → List ℕ
numbers_from number [] named = []
numbers_from number (host ∷ hosts) named = if is_among named host then number ∷ numbers_from (suc number) hosts named else numbers_from (suc number) hosts named

-- the numbers of the named hosts
abbrev pub numbers_of : List Host → List Host → List ℕ
numbers_of hosts named = numbers_from 0 hosts named

-- ---- disks

-- a disk: that of a partition at a host, or a host's service disk; partitions and hosts by their numbers
pub data DiskOf : Type 0 where
  lane_disk : ℕ → ℕ → DiskOf
  service_disk : ℕ → DiskOf

-- what all of them hold
abbrev pub SiteImage : Type 0
SiteImage = DiskOf → Image

-- the disks of one partition
abbrev pub lane_in : SiteImage → ℕ → LaneImage
lane_in image partition host = image (lane_disk partition host)

-- how often each has failed
abbrev pub FaultCounts : Type 0
FaultCounts = DiskOf → ℕ

-- what all of them tell
abbrev pub SiteView : Type 1
SiteView = DiskOf → View

abbrev pub fault_counts : SiteView → FaultCounts
fault_counts views disk = (views disk).faults

-- a stop now may leave this of all disks together
abbrev pub IsTaken : SiteView → SiteImage → Type 0
IsTaken views image = (disk : DiskOf) → (views disk).images (image disk)

-- no count falls
abbrev pub NoneFell : FaultCounts → FaultCounts → Type 0
NoneFell old new = (disk : DiskOf) → old disk ≤ new disk

-- ---- of a site in the code

-- a number of which there is no disk: no file, no fault
abbrev pub no_disk : View
no_disk = record {
  seen = λ _. [];
  images = λ m. m ≡ (λ _. []);
  since = λ _ m. m ≡ (λ _. []);
  clock = 0;
  faults = 0;
  restarts = 0;
  spares = Unit {0};
  told = λ m is. refl;
  counts_now = λ t m le is. is;
  only_now = λ m is. is;
}

abbrev pub view_or_none : {D : Type 0} → (D → View) → Option D → View
view_or_none view None = no_disk
view_or_none view (Some disk) = view disk

abbrev pub lane_or_none : {D : Type 0} → Option (List D) → List D
lane_or_none None = []
lane_or_none (Some disks) = disks

-- the views of these lanes and service disks: a lane for each partition, in it a disk for each host; a service disk for each host
abbrev pub site_view : {D : Type 0} → (D → View) → List (List D) → List D → SiteView
site_view view lanes services (lane_disk partition host) = view_or_none view (slice_get (lane_or_none (slice_get lanes partition)) host)
site_view view lanes services (service_disk host) = view_or_none view (slice_get services host)
