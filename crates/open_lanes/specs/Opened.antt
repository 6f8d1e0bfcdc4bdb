-- What becomes of the lanes of a site, by partition from 0, while its partitions are opened.
use Rattle.std.specs.Prelude.{⊤, ◌≡◌, ◌⊎◌, ℕ, ◌<◌, ◌≤◌, List, [], length, map, slice_get, vec_capacity, Some}
use Rattle.disk_lane.specs.Lanes.{LaneImage, IsLaneImage, LaneEvent}
use Rattle.disk_trait.specs.View.{View}
use Rattle.file_kinds.specs.Kinds.{PartitionNumber}
use Rattle.kept_cell.specs.KeptCells.{KeptCell}
use Rattle.partition_cell.specs.Cells.{caches_of}
use Rattle.partition_cell.specs.Made.{first_header, MakingOn, IsFirst, IsMakingFault}
use Rattle.partition_cell.specs.Loaded.{IsLoadRefusal, IsLoadedCell, KeepsNewest, StandsThroughout, ErasesBesideNewest}
use Rattle.partition_cell.specs.Standing.{IsLone}
use Rattle.partition_cell.specs.declared.refusal.CellRefusal.{CellRefusal}
use Rattle.partition_cell.specs.declared.refusal.CellRefusal.TheVariants.{NoMemory}
use Rattle.store_journal.specs.Created.{IsUnsealed}
use Rattle.store_journal.specs.Text.{IsText}
use Rattle.open_lanes.specs.declared.opened.Opened.{Opened}

-- the lanes of these cells
abbrev pub lanes_of_kept : {D : Type 0} → List (KeptCell D) → List (List D)
lanes_of_kept kept = map (λ each. each.cell.disks) kept

abbrev pub lanes_opened : {D : Type 0} → Opened D → List (List D)
lanes_opened opened = lanes_of_kept opened.kept.items

-- one partition's disks are in this relation, from the lanes before to those after
abbrev pub InEachLane : {D : Type 0} → List (List D) → List (List D) → (ℕ → List D → List D → Type 0) → Type 0
InEachLane old new R = (partition : ℕ) (before after : _) → slice_get old partition ≡ Some before → slice_get new partition ≡ Some after → R partition before after

-- a trail begins with the contents of its cell
pub record HasNewTrail {D : Type 0} (kept : KeptCell D) : Type 0 where
  pub base : kept.trail.base ≡ caches_of kept.cell
  pub none : kept.trail.entries ≡ []

-- each partition is open, and has P; the list of lanes is empty, with room for as many
pub record AllOpened {D : Type 0} (partitions : ℕ) (opened : Opened D) (P : ℕ → KeptCell D → Type 0) : Type 0 where
  pub number : length opened.kept.items ≡ partitions
  pub each : (partition : ℕ) (kept : KeptCell D) → slice_get opened.kept.items partition ≡ Some kept → P partition kept
  pub emptied : opened.lanes.items ≡ []
  pub room : partitions ≤ vec_capacity opened.lanes

-- ---- made

-- file 0 of this host has the first store of the partition, without a group, and file 1 has none
pub record HasFirst (host partition partitions : ℕ) (ms : LaneImage) : Type 0 where
  pub text : IsText (first_header partition partitions host) [] (ms host 0)
  pub other : IsUnsealed (ms host 1)

-- the first store of the partition, and nothing else on its host, in whatever a stop now leaves; with a new trail
pub record IsFirstKept {D : Type 0} (view : D → View) (host partition partitions : ℕ) (kept : KeptCell D) : Type 0 where
  pub first : IsFirst kept.cell host partition partitions
  pub lone : IsLone kept.cell
  pub trail : HasNewTrail kept
  pub stored : (ms : LaneImage) → IsLaneImage view kept.cell.disks ms → HasFirst host partition partitions ms

abbrev pub AreMade : {D : Type 0} → (D → View) → ℕ → ℕ → Opened D → Type 0
AreMade view partitions host opened = AllOpened partitions opened (λ partition kept. IsFirstKept view host partition partitions kept)

-- on the disk of this host the first store is made, wholly or in part; or the lane is as it was
abbrev pub MakesLane : {D : Type 0} → (D → View) → ℕ → ℕ → ℕ → List D → List D → Type 0
MakesLane view partitions host partition before after = (after ≡ before) ⊎ LaneEvent view host before after (MakingOn view host before (first_header partition partitions host))

-- so it is in each lane
pub record MakesLanes {D : Type 0} (view : D → View) (partitions host : ℕ) (old new : List (List D)) : Type 0 where
  pub as_many : length new ≡ length old
  pub each : InEachLane old new (MakesLane view partitions host)

-- why this partition's first store wasn't made: memory ran out, or its host's disk in this lane failed
abbrev pub IsMakingRefusal : {D : Type 0} → (D → View) → ℕ → List (List D) → List (List D) → ℕ → CellRefusal → Type 0
IsMakingRefusal {D} view host old new partition refusal =
    (refusal ≡ NoMemory) ⊎ ((before : List D) × (after : List D) × (slice_get old partition ≡ Some before) × (slice_get new partition ≡ Some after) × IsMakingFault view host before after refusal)

-- ---- loaded

-- the newest store of a lane's files on these hosts, with a new trail
pub record IsLoadedKept {D : Type 0} (view : D → View) (hosts : List ℕ) (number : PartitionNumber) (old : List D) (kept : KeptCell D) : Type 0 where
  pub loaded : IsLoadedCell view hosts number old kept.cell
  pub trail : HasNewTrail kept

abbrev pub AreLoaded : {D : Type 0} → (D → View) → List ℕ → ℕ → List (List D) → Opened D → Type 0
AreLoaded view hosts partitions old opened =
    AllOpened partitions opened (λ partition kept. (before : _) → slice_get old partition ≡ Some before → IsLoadedKept view hosts (record { partition = partition; partitions = partitions }) before kept)

-- in each lane the newest store of these hosts is as it was, at every moment, and no file has changed but older ones
pub record KeepNewest {D : Type 0} (view : D → View) (hosts : List ℕ) (partitions : ℕ) (old new : List (List D)) : Type 0 where
  pub as_many : length new ≡ length old
  pub each : InEachLane old new (λ partition before after. KeepsNewest view hosts (record { partition = partition; partitions = partitions }) before after)

-- whatever the files of these hosts stood for in each lane, they stand for it at every moment
abbrev pub StandInAll : {D : Type 0} → (D → View) → List ℕ → ℕ → List (List D) → List (List D) → Type 0
StandInAll view hosts partitions old new = InEachLane old new (λ partition before after. StandsThroughout view hosts (record { partition = partition; partitions = partitions }) before after)

-- the partitions below this one were loaded: the newest store of each was found whole
abbrev pub AreLoadedBefore : {D : Type 0} → (D → View) → List ℕ → ℕ → ℕ → List (List D) → List (List D) → Type 0
AreLoadedBefore view hosts partitions refused old new =
    InEachLane old new (λ partition before after. partition < refused → ErasesBesideNewest view hosts (record { partition = partition; partitions = partitions }) before after)

-- why this partition wasn't loaded: memory ran out, or this is so of its lane
abbrev pub IsLoadingRefusal : {D : Type 0} → (D → View) → List ℕ → ℕ → List (List D) → List (List D) → ℕ → CellRefusal → Type 0
IsLoadingRefusal {D} view hosts partitions old new partition refusal =
    (refusal ≡ NoMemory)
    ⊎ ((before : List D) × (after : List D) × (slice_get old partition ≡ Some before) × (slice_get new partition ≡ Some after) × IsLoadRefusal view hosts (record { partition = partition; partitions = partitions }) before after refusal)
