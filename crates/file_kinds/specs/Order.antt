-- How the versions of a partition's files stand to each other, and what all files of a lane hold by their kinds.
use Rattle.std.specs.Prelude.{◌≡◌, ◌≢◌, ℕ, ◌<◌, ◌≤◌, List, slice_get, Some}
use Rattle.cache_model.specs.Change.{Change}
use Rattle.disk_trait.specs.View.{Image, View}
use Rattle.disk_trait.specs.Moments.{Now}
use Rattle.disk_lane.specs.Lanes.{LaneImage, files_on}
use Rattle.slot_board.specs.declared.board.Board.{Board}
use Rattle.slot_board.specs.declared.board.SlotKind.TheVariants.{Stale, Doubt, Current, Unknown}
use Rattle.slot_board.specs.Slots.{slot_at, hosts_of, told_by}
use Rattle.store_journal.specs.Stands.{Survives}
use Rattle.file_kinds.specs.Kinds.{PartitionNumber, IsOfKind, MayCount}

-- This file of this host is the current one, alone. What is stale has a lesser version, and what is in doubt a greater one;
-- no two files that may be sealed have one version, and none has one above the greatest that was told.
pub record IsOrdered (board : Board) (host file : ℕ) : Type 0 where
  pub one_of_two : file ≤ 1
  pub there : host < hosts_of board
  pub current : (slot_at board host file).kind ≡ Current
  pub alone : (h f : ℕ) → f ≤ 1 → (slot_at board h f).kind ≡ Current → (h ≡ host) × (f ≡ file)
  pub stale : (h f : ℕ) → f ≤ 1 → (slot_at board h f).kind ≡ Stale → (slot_at board h f).version < (slot_at board host file).version
  pub doubt : (h f : ℕ) → f ≤ 1 → (slot_at board h f).kind ≡ Doubt → (slot_at board host file).version < (slot_at board h f).version
  pub differ : (h f k j : ℕ) → f ≤ 1 → j ≤ 1 → MayCount (slot_at board h f).kind → MayCount (slot_at board k j).kind
      → (slot_at board h f).version ≡ (slot_at board k j).version → (h ≡ k) × (f ≡ j)
  pub told : (h f : ℕ) → f ≤ 1 → MayCount (slot_at board h f).kind → (slot_at board h f).version ≤ told_by board

-- something is known of both files of this host
pub record IsRecorded (board : Board) (host : ℕ) : Type 0 where
  pub there : host < hosts_of board
  pub known : (f : ℕ) → f ≤ 1 → (slot_at board host f).kind ≢ Unknown

-- these hosts are recorded, each stands once, and the owner is among them
pub record AreRecorded (board : Board) (owner : ℕ) (hosts : List ℕ) : Type 0 where
  pub recorded : (k h : ℕ) → slice_get hosts k ≡ Some h → IsRecorded board h
  pub once : (k j h : ℕ) → slice_get hosts k ≡ Some h → slice_get hosts j ≡ Some h → k ≡ j
  pub with_owner : (k : ℕ) × (slice_get hosts k ≡ Some owner)

-- files 0 and 1 of this host are as their kinds say
abbrev pub HostIsOfKind : Board → PartitionNumber → List Change → List Change → ℕ → Image → Type 0
HostIsOfKind board number changes flight h m = (f : ℕ) → f ≤ 1 → IsOfKind number changes flight (slot_at board h f).kind (slot_at board h f).version (m f)

-- in every image of every host
abbrev pub AreOfKind : {D : Type 0} → (D → View) → List D → Board → PartitionNumber → List Change → List Change → Type 0
AreOfKind view disks board number changes flight = (h : ℕ) (disk : _) → slice_get disks h ≡ Some disk → Now (view disk) (HostIsOfKind board number changes flight h)

-- on whichever recorded hosts with the owner among them, the files stand for the changes, or for these and all that is in flight
abbrev pub SurvivesIn : Board → ℕ → PartitionNumber → List Change → List Change → LaneImage → Type 0
SurvivesIn board owner number changes flight ms = (hosts : List ℕ) → AreRecorded board owner hosts
    → Survives (files_on ms hosts) number.partition number.partitions changes flight
