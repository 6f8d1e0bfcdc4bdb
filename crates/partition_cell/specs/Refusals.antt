-- What a disk's refusal becomes in the answer of a cell's call: with the host's number.
use Rattle.std.specs.Prelude.{ℕ}
use Rattle.disk_trait.specs.declared.DiskRefusal.{DiskRefusal}
use Rattle.disk_trait.specs.declared.DiskRefusal.TheVariants.{Failed, NoMemory}
use Rattle.call_trail.specs.declared.refusal.CallRefusal.{CallRefusal}
use Rattle.call_trail.specs.declared.refusal.CallRefusal.TheVariants as calls
use Rattle.partition_cell.specs.declared.refusal.CellRefusal.{CellRefusal}
use Rattle.partition_cell.specs.declared.refusal.CellRefusal.TheVariants as cells
use Rattle.partition_cell.specs.declared.refusal.MoveRefusal.{MoveRefusal}
use Rattle.partition_cell.specs.declared.refusal.MoveRefusal.TheVariants as moves

abbrev pub call_refusal : ℕ → DiskRefusal → CallRefusal
call_refusal host Failed = calls.Fault host
call_refusal host NoMemory = calls.NoMemory

abbrev pub cell_refusal : ℕ → DiskRefusal → CellRefusal
cell_refusal host Failed = cells.Fault host
cell_refusal host NoMemory = cells.NoMemory

abbrev pub move_refusal : ℕ → DiskRefusal → MoveRefusal
move_refusal host Failed = moves.Fault host
move_refusal host NoMemory = moves.NoMemory
