-- The first store of a partition.
use Rattle.std.specs.Prelude.{⊤, ◌≡◌, ℕ, ◌≤◌, List, [], slice_get, Some, None}
use Rattle.disk_lane.specs.Lanes.{LaneImage, HasFailedOn}
use Rattle.disk_trait.specs.View.{Image, View}
use Rattle.partition_map.specs.After.{AgreesWith}
use Rattle.record_form.specs.declared.header.Header.{Header}
use Rattle.slot_board.specs.Slots.{told_by}
use Rattle.store_journal.specs.Created.{IsFreed, IsBegun}
use Rattle.partition_cell.specs.Cells.{Cell, IsSoundCell}
use Rattle.partition_cell.specs.declared.refusal.CellRefusal.{CellRefusal}
use Rattle.partition_cell.specs.declared.refusal.CellRefusal.TheVariants.{Fault, NoStore, Damaged, NoMemory}

-- the header of the first store
abbrev pub first_header : ℕ → ℕ → ℕ → Header
first_header partition partitions host = record { id = record { partition = partition; version = 1; epoch = 1; host = host }; partitions = partitions }

-- what a stop may leave of a disk on which the first store is made: file 0 is not sealed, or as it was but for its first byte, or
-- the whole new store; file 1 is not sealed, or as it was but for its first byte; the others are as they were
pub record IsMaking (header : Header) (old new : Image) : Type 0 where
  pub first : IsBegun header (old 0) (new 0)
  pub second : IsFreed (old 1) (new 1)
  pub others : (f : ℕ) → 2 ≤ f → new f ≡ old f

-- so it is at every moment on this host's disk, and no other has changed
abbrev pub MakingOn : {D : Type 0} → (D → View) → ℕ → List D → Header → LaneImage → Type 0
MakingOn view host old header ms = (before : _) → slice_get old host ≡ Some before → (m : Image) × (view before).images m × IsMaking header m (ms host)

-- the cell has no contents, and its store is the first, in file 0 of this host
pub record IsFirst {D : Type 0} (cell : Cell D) (host partition partitions : ℕ) : Type 0 where
  pub none : AgreesWith [] cell.maps
  pub sound : IsSoundCell cell
  pub still : cell.moving ≡ None
  pub owner : cell.owner ≡ host
  pub number : cell.number ≡ record { partition = partition; partitions = partitions }
  pub file : cell.store.file ≡ 0
  pub id : cell.store.id ≡ (first_header partition partitions host).id
  pub end : cell.store.end ≡ 41
  pub told : told_by cell.board ≡ 1

-- why no first store was made: this host's disk failed, or memory ran out
abbrev pub IsMakingFault : {D : Type 0} → (D → View) → ℕ → List D → List D → CellRefusal → Type 0
IsMakingFault view host old new (Fault h) = (h ≡ host) × HasFailedOn view host old new
IsMakingFault view host old new NoStore = ⊥
IsMakingFault view host old new (Damaged h f at) = ⊥
IsMakingFault view host old new NoMemory = ⊤
