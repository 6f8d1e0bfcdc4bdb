-- What a run finds on its disks as it begins, where they keep no cluster: each file as it is found to be.
use Rattle.std.specs.Prelude.{◌≡◌, ◌⊎◌, ℕ, ◌<◌, ◌≤◌, nat_lt, List, [], ◌∷◌, slice_get, Option, Some, None, Bool, true, false, Contains, if◌then◌else◌}
use Rattle.cache_model.specs.Caches.{same}
use Rattle.disk_trait.specs.View.{Image}
use Rattle.file_kinds.specs.Kinds.{PartitionNumber}
use Rattle.newest_store.specs.Newest.{IsHeaded, IsNewest}
use Rattle.roster_form.specs.Membership.{Host}
use Rattle.roster_form.specs.RosterFault.{roster_fault}
use Rattle.roster_form.specs.Shown.{Sights, Shows}
use Rattle.roster_form.specs.declared.roster.Roster.{Roster}
use Rattle.store_journal.specs.Created.{IsUnsealed}
use Rattle.store_journal.specs.Fault.{IsDamagedAt}
use Rattle.store_journal.specs.Loading.{IsUnidentifiedAt}
use Rattle.store_journal.specs.Stands.{version_in}
use Rattle.cluster_model.specs.Lane.{HostedStore, HoldsStore}
use Rattle.cluster_model.specs.Site.{SiteShape, partition_of, lane_disk, service_disk, SiteImage}

-- what a file of a partition is found to be
pub data FileSight : Type 0 where
  not_sealed : FileSight
  -- sealed, and its header leaves its form at this offset
  without_header : ℕ → FileSight
  -- sealed, with this version, and it leaves the form of a store of its partition at this offset: another partition's does too
  damaged_from : ℕ → ℕ → FileSight
  -- sealed, with this store
  has_store : HostedStore → FileSight

-- this host's newest sealed roster, in this file, leaves its form at this offset
pub record RosterDamage : Type 0 where
  pub host : Host
  pub file : ℕ
  pub offset : ℕ

-- What is found on all disks: what each host may show, which hosts' rosters are damaged, and what each file of a partition at
-- a host is.
pub record FoundSite : Type 0 where
  pub sights : Sights
  pub damages : List RosterDamage
  pub files : ℕ → ℕ → ℕ → FileSight

-- ---- in an image

-- the bytes are what the file is found to be, on this host and as one of this partition
abbrev pub IsFileOf : PartitionNumber → ℕ → FileSight → List ℕ → Type 0
IsFileOf number host not_sealed bytes = IsUnsealed bytes
IsFileOf number host (without_header offset) bytes = IsUnidentifiedAt bytes offset
IsFileOf number host (damaged_from version offset) bytes = IsHeaded bytes × (version_in bytes ≡ version) × IsDamagedAt bytes number.partition number.partitions offset
IsFileOf number host (has_store store) bytes = (store.host ≡ host) × HoldsStore number store bytes

-- the bytes are damaged at this offset, before their header ends or as a store of this partition
abbrev pub IsDamagedFile : PartitionNumber → List ℕ → ℕ → Type 0
IsDamagedFile number bytes offset = IsUnidentifiedAt bytes offset ⊎ IsDamagedAt bytes number.partition number.partitions offset

-- the image of a host's service disk shows its one sight, and its roster isn't listed as damaged; or it is listed, and so it is
abbrev pub IsSightOf : SiteShape → FoundSite → Host → Image → Type 0
IsSightOf shape found host image =
    ((one : Option Roster) × (found.sights host ≡ one ∷ []) × Shows image one × ((damage : RosterDamage) → Contains found.damages damage → damage.host ≡ host → ⊥))
    ⊎ ((damage : RosterDamage) × Contains found.damages damage × (damage.host ≡ host) × IsNewest image damage.file × (roster_fault shape.partitions (image damage.file) ≡ Some damage.offset))

-- this is found in an image of the site
pub record IsFoundSite (shape : SiteShape) (found : FoundSite) (image : SiteImage) : Type 0 where
  pub services : (number : ℕ) (host : Host) → slice_get shape.hosts number ≡ Some host → IsSightOf shape found host (image (service_disk number))
  pub lanes : (partition host : ℕ) (name : Host) (file : ℕ) → partition < shape.partitions → slice_get shape.hosts host ≡ Some name → file ≤ 1
      → IsFileOf (partition_of shape partition) host (found.files partition host file) (image (lane_disk partition host) file)

-- ---- which file counts

-- a file of a partition, by its host and itself
pub record LaneFile : Type 0 where
  pub host : ℕ
  pub file : ℕ
  pub sight : FileSight

-- files 0 and 1 of these hosts, in the order of the hosts
abbrev pub lane_files : (ℕ → ℕ → FileSight) → List ℕ → List LaneFile
lane_files files [] = []
lane_files files (host ∷ hosts) = record { host = host; file = 0; sight = files host 0 } ∷ record { host = host; file = 1; sight = files host 1 } ∷ lane_files files hosts

-- what a recovery finds of a partition
pub data LaneFinding : Type 0 where
  finds_none : LaneFinding
  -- on this host, in this file, at this offset
  finds_damage : ℕ → ℕ → ℕ → LaneFinding
  -- this store, in this file
  finds_store : HostedStore → ℕ → LaneFinding

-- of two findings the second, where the first is none
abbrev pub or_else : LaneFinding → LaneFinding → LaneFinding
or_else finds_none other = other
or_else (finds_damage host file offset) other = finds_damage host file offset
or_else (finds_store store file) other = finds_store store file

-- the header of one file, if that is damaged
abbrev pub header_damage : LaneFile → FileSight → LaneFinding
header_damage at not_sealed = finds_none
header_damage at (without_header offset) = finds_damage at.host at.file offset
header_damage at (damaged_from version offset) = finds_none
header_damage at (has_store store) = finds_none

-- the first of these files that is sealed without a header
abbrev pub first_without_header : List LaneFile → LaneFinding
first_without_header [] = finds_none
first_without_header (first ∷ others) = or_else (header_damage first first.sight) (first_without_header others)

-- the version of a sealed file with a header
abbrev pub version_seen : FileSight → Option ℕ
version_seen not_sealed = None
version_seen (without_header offset) = None
version_seen (damaged_from version offset) = Some version
version_seen (has_store store) = Some store.id.version

-- the second version is greater than the first, or there is no first
abbrev pub is_later_version : Option ℕ → Option ℕ → Bool
is_later_version None (Some second) = true
is_later_version (Some first) (Some second) = nat_lt first second
is_later_version first None = false

-- of two files the one of the greater version, and of two with the same version the first
abbrev pub later_file : LaneFile → Option LaneFile → LaneFile
later_file first None = first
later_file first (Some second) = if is_later_version (version_seen first.sight) (version_seen second.sight) then second else first

-- the file of the greatest version, and where several have that the first of them
abbrev pub newest_file : List LaneFile → Option LaneFile
newest_file [] = None
newest_file (first ∷ others) = Some (later_file first (newest_file others))

-- what is found in one file
abbrev pub found_in : LaneFile → FileSight → LaneFinding
found_in at not_sealed = finds_none
found_in at (without_header offset) = finds_damage at.host at.file offset
found_in at (damaged_from version offset) = finds_damage at.host at.file offset
found_in at (has_store store) = finds_store store at.file

abbrev pub found_newest : Option LaneFile → LaneFinding
found_newest None = finds_none
found_newest (Some at) = found_in at at.sight

-- What is found of a partition in these files: the first one that is sealed without a header is damaged; else the one of the
-- greatest version counts.
abbrev pub finding_in : List LaneFile → LaneFinding
finding_in files = or_else (first_without_header files) (found_newest (newest_file files))

-- what is found of a partition on these hosts
abbrev pub lane_finding : FoundSite → List ℕ → ℕ → LaneFinding
lane_finding found hosts partition = finding_in (lane_files (found.files partition) hosts)

-- ---- rosters

-- the damage of this host's roster, if it is listed
abbrev pub damage_of : List RosterDamage → Host → Option RosterDamage
damage_of [] host = None
damage_of (damage ∷ damages) host = if same damage.host host then Some damage else damage_of damages host

-- of two the first, where there is one
abbrev pub earlier_damage : Option RosterDamage → Option RosterDamage → Option RosterDamage
earlier_damage None other = other
earlier_damage (Some damage) other = Some damage

-- that of the first of these hosts whose roster is damaged
abbrev pub first_damage : List RosterDamage → List Host → Option RosterDamage
first_damage damages [] = None
first_damage damages (host ∷ hosts) = earlier_damage (damage_of damages host) (first_damage damages hosts)
