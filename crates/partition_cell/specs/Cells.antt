-- A partition's cell, and what its type keeps.
use Rattle.std.specs.Prelude.{◌≡◌, ◌≢◌, ℕ, ◌+◌, ◌^◌, ◌<◌, ◌≤◌, true, List, [], ◌∷◌, length, slice_get, Option, Some, None}
use Rattle.std.specs.List.{flat_map}
use Rattle.cache_key.specs.declared.request.Mutation.{Mutation}
use Rattle.cache_model.specs.Caches.{Caches}
use Rattle.cache_model.specs.Change.{Change, change_of, changes_of, reset}
use Rattle.cache_model.specs.Contents.{SameContents}
use Rattle.disk_lane.specs.Lanes.{LaneImage}
use Rattle.disk_trait.specs.View.{View}
use Rattle.file_kinds.specs.Kinds.{PartitionNumber}
use Rattle.file_kinds.specs.Order.{IsOrdered, AreOfKind, SurvivesIn}
use Rattle.partition_map.specs.After.{AgreesWith}
use Rattle.partition_map.specs.Extents.{Maps, caches_in}
use Rattle.partition_map.specs.Items.{items_after}
use Rattle.record_form.specs.declared.header.Header.{Header}
use Rattle.slot_board.specs.declared.board.Board.{Board}
use Rattle.slot_board.specs.declared.board.SlotKind.TheVariants.{Blank, Doubt, Unknown}
use Rattle.slot_board.specs.Slots.{slot_at, hosts_of, told_by}
use Rattle.store_build.specs.Built.{IsBuilding, IsBuilt}
use Rattle.store_journal.specs.AtRest.{AtRest}
use Rattle.store_journal.specs.declared.store.Store.{Store}
use Rattle.partition_cell.specs.declared.moving.Moving.{Moving}

-- a cell as contracts see it: the disks of its lane, what their files are known to be, which partition it is, the owner and
-- its store, the contents, what is in flight, and the store that is being built
pub record Cell (D : Type 0) : Type 0 where
  pub disks : List D
  pub board : Board
  pub number : PartitionNumber
  pub owner : ℕ
  pub store : Store
  pub maps : Maps
  pub flight : Option Mutation
  pub moving : Option Moving

-- the contents
abbrev pub caches_of : {D : Type 0} → Cell D → Caches
caches_of cell = caches_in cell.maps.extents

-- what is durable, as a list of changes: the contents in place of all
abbrev pub list_of : {D : Type 0} → Cell D → List Change
list_of cell = reset (caches_of cell) ∷ []

-- what is in flight, as changes
abbrev pub in_flight : Option Mutation → List Change
in_flight None = []
in_flight (Some mutation) = change_of mutation ∷ []

abbrev pub flight_of : {D : Type 0} → Cell D → List Change
flight_of cell = in_flight cell.flight

-- a host is recorded as a whole
abbrev pub ByHost : Board → Type 0
ByHost board = (h f j : ℕ) → f ≤ 1 → j ≤ 1 → (slot_at board h f).kind ≡ Unknown → (slot_at board h j).kind ≡ Unknown

-- the store rests in its file, with the contents that the changes leave
pub record IsResting (v : View) (number : PartitionNumber) (store : Store) (changes : List Change) : Type 0 where
  pub groups : List (List Mutation)
  pub at_rest : AtRest v store (record { id = store.id; partitions = number.partitions }) groups
  pub contents : SameContents (changes_of (flat_map (λ group. group) groups)) changes

-- the header of the store that is being built
abbrev pub target_header : PartitionNumber → Moving → Header
target_header number moving = record { id = moving.build.id; partitions = number.partitions }

-- A store is being built in this file, of the contents: it is blank until its seal; once it is settled it is whole.
pub record IsTarget {D : Type 0} (view : D → View) (cell : Cell D) (moving : Moving) : Type 0 where
  pub there : moving.host < hosts_of cell.board
  pub one_of_two : moving.build.file ≤ 1
  pub blank : (slot_at cell.board moving.host moving.build.file).kind ≡ Blank
  pub next : moving.build.id.version ≡ told_by cell.board + 1
  pub below : moving.build.id.version < 2 ^ 58
  pub of_partition : moving.build.id.partition ≡ cell.number.partition
  pub building : (disk : D) → slice_get cell.disks moving.host ≡ Some disk → IsBuilding (view disk) moving.build (target_header cell.number moving) (caches_of cell)
  pub built : moving.settled ≡ true → (disk : D) → slice_get cell.disks moving.host ≡ Some disk
      → IsBuilt (view disk) moving.build.file (target_header cell.number moving) (caches_of cell) moving.build.end

-- What the type of a cell keeps.
pub record IsKept {D : Type 0} (view : D → View) (cell : Cell D) : Type 0 where
  pub hosts : length cell.disks ≡ hosts_of cell.board
  pub least : cell.number.partition < cell.number.partitions
  pub most : cell.number.partitions ≤ 257
  pub by_host : ByHost cell.board
  pub ordered : IsOrdered cell.board cell.owner cell.store.file
  pub version : (slot_at cell.board cell.owner cell.store.file).version ≡ cell.store.id.version
  pub of_partition : cell.store.id.partition ≡ cell.number.partition
  pub kinds : AreOfKind view cell.disks cell.board cell.number (list_of cell) (flight_of cell)
  -- the map has the contents after some changes
  pub changes : List Change
  pub agrees : AgreesWith changes cell.maps
  -- with nothing in flight
  pub rests : cell.flight ≡ None → (disk : D) → slice_get cell.disks cell.owner ≡ Some disk → IsResting (view disk) cell.number cell.store (list_of cell)
  -- while a store is built
  pub moves : (moving : Moving) → cell.moving ≡ Some moving → IsTarget view cell moving

-- nothing is in flight, and no file is in doubt
pub record IsSoundCell {D : Type 0} (cell : Cell D) : Type 0 where
  pub none : cell.flight ≡ None
  pub no_doubt : (h f : ℕ) → f ≤ 1 → (slot_at cell.board h f).kind ≢ Doubt

-- no host is forgotten from the one board to the other
pub record NoneForgotten (old new : Board) : Type 0 where
  pub as_many : hosts_of new ≡ hosts_of old
  pub known : (h f : ℕ) → f ≤ 1 → (slot_at new h f).kind ≡ Unknown → (slot_at old h f).kind ≡ Unknown

-- how many items of the contents are still to be written
abbrev pub left_in : Caches → Option Moving → ℕ
left_in caches None = 0
left_in caches (Some moving) = length (items_after moving.build.last caches)

-- a build has gone on, on the same host and with the same identifier
pub record BuildGoesOn (old new : Option Moving) : Type 0 where
  pub before : Moving
  pub after : Moving
  pub was : old ≡ Some before
  pub is : new ≡ Some after
  pub host : after.host ≡ before.host
  pub id : after.build.id ≡ before.build.id

-- on the recorded hosts the files stand for what is durable, or for it and all that is in flight
abbrev pub Surviving : {D : Type 0} → Cell D → LaneImage → Type 0
Surviving cell = SurvivesIn cell.board cell.owner cell.number (list_of cell) (flight_of cell)

-- the same, with this change in flight
abbrev pub SurvivingBefore : {D : Type 0} → Cell D → Change → LaneImage → Type 0
SurvivingBefore cell change = SurvivesIn cell.board cell.owner cell.number (list_of cell) (change ∷ [])

-- what a cell keeps while a store is built: its contents, what is in flight, its owner and its store
pub record SameList {D : Type 0} (old new : Cell D) : Type 0 where
  pub known : NoneForgotten old.board new.board
  pub told : told_by new.board ≡ told_by old.board
  pub number : new.number ≡ old.number
  pub owner : new.owner ≡ old.owner
  pub store : new.store ≡ old.store
  pub maps : new.maps ≡ old.maps
  pub flight : new.flight ≡ old.flight

-- a mutation that is ready for its commit, and the tail of its record
pub record Prepared : Type 0 where
  pub mutation : Mutation
  pub tail : List ℕ
