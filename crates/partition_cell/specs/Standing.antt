-- Where the current store of a cell stands among the files of its lane.
use Rattle.std.specs.Prelude.{◌≡◌, ◌⊎◌, ℕ, ◌<◌, ◌≤◌, true, List}
use Rattle.cache_key.specs.declared.request.Mutation.{Mutation}
use Rattle.disk_lane.specs.Lanes.{LaneImage}
use Rattle.file_kinds.specs.Order.{IsRecorded}
use Rattle.seal_gate.specs.Seal.{IsSealed}
use Rattle.slot_board.specs.Slots.{slot_at, is_free}
use Rattle.store_journal.specs.AtRest.{IsKeptIn}
use Rattle.store_journal.specs.Stands.{version_in}
use Rattle.partition_cell.specs.Cells.{Cell}

-- The owner's file has the current store, up to its closed gate; and each other sealed file of a recorded host has a lesser version.
pub record IsCurrentIn {D : Type 0} (cell : Cell D) (ms : LaneImage) : Type 0 where
  pub one_of_two : cell.store.file ≤ 1
  pub groups : List (List Mutation)
  pub kept : IsKeptIn cell.store (record { id = cell.store.id; partitions = cell.number.partitions }) groups (ms cell.owner cell.store.file)
  pub greatest : (h f : ℕ) → IsRecorded cell.board h → f ≤ 1 → IsSealed (ms h f) → ((h ≡ cell.owner) × (f ≡ cell.store.file)) ⊎ (version_in (ms h f) < version_in (ms cell.owner cell.store.file))

-- no other file of a recorded host than the current one may be sealed
pub record IsLone {D : Type 0} (cell : Cell D) : Type 0 where
  pub free : (h f : ℕ) → IsRecorded cell.board h → f ≤ 1 → ((h ≡ cell.owner) × (f ≡ cell.store.file) → ⊥) → is_free (slot_at cell.board h f).kind ≡ true
