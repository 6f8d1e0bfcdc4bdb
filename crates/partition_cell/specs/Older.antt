-- How the stores of a partition are erased, but the newest.
use Rattle.std.specs.Prelude.{⊤, ◌≡◌, ◌≢◌, ◌⊎◌, ℕ, ◌<◌, ◌≤◌, List, [], length, slice_get, Contains, Some}
use Rattle.cache_model.specs.Change.{Change}
use Rattle.disk_lane.specs.Lanes.{OnHost, HasFailedOn}
use Rattle.disk_trait.specs.View.{Image, View}
use Rattle.disk_trait.specs.Moments.{After, Throughout, Onward}
use Rattle.file_kinds.specs.Kinds.{PartitionNumber, MayCount}
use Rattle.file_kinds.specs.Order.{AreOfKind}
use Rattle.newest_store.specs.Clearing.{MayLoseSeal}
use Rattle.partition_cell.specs.declared.refusal.CellRefusal.{CellRefusal}
use Rattle.partition_cell.specs.declared.refusal.CellRefusal.TheVariants.{Fault, NoStore, Damaged, NoMemory}
use Rattle.seal_gate.specs.Seal.{IsSettled}
use Rattle.slot_board.specs.declared.board.Board.{Board}
use Rattle.slot_board.specs.declared.board.SlotKind.TheVariants.{Unknown}
use Rattle.slot_board.specs.Slots.{slot_at, hosts_of, told_by}

-- a file 0 or 1 of one of these hosts, but not the newest store's, which is this file of this host
pub record IsOlderFile (hosts : List ℕ) (host file h f : ℕ) : Type 0 where
  pub listed : Contains hosts h
  pub one_of_two : f ≤ 1
  pub other : (h ≡ host) × (f ≡ file) → ⊥

-- what a stop may leave of a disk: each of these files as it was or, where it was sealed, with another first byte, and the
-- other files as they were
pub record ErasesOnly (erased : ℕ → Type 0) (old new : Image) : Type 0 where
  pub files : (f : ℕ) → MayLoseSeal (old f) (new f)
  pub others : (f : ℕ) → (erased f → ⊥) → new f ≡ old f

-- so it is on each disk of a lane, at every moment from the disks before to those after
pub record ErasesOlderIn {D : Type 0} (view : D → View) (hosts : List ℕ) (host file : ℕ) (old new : List D) : Type 0 where
  pub as_many : length new ≡ length old
  pub moments : (h : ℕ) → OnHost h old new (λ before now. Throughout (view before) (view now) (After (view before) (ErasesOnly (IsOlderFile hosts host file h))))
  pub onward : (h : ℕ) → OnHost h old new (λ before now. Onward (view before) (view now))

-- the files of these hosts, and those below this one of a further host
abbrev pub IsDoneTo : List ℕ → ℕ → ℕ → ℕ → ℕ → Type 0
IsDoneTo hosts host file h f = Contains hosts h ⊎ ((h ≡ host) × (f < file))

-- These files are free of a store, unless one is the newest store's, and the board says so. Of that file, and of the other
-- hosts' files, it says nothing.
pub record AreFreed {D : Type 0} (view : D → View) (hosts : List ℕ) (host file : ℕ) (freed : ℕ → ℕ → Type 0) (old new : List D) (board : Board) : Type 0 where
  pub lane : ErasesOlderIn view hosts host file old new
  pub settled : (h f : ℕ) (disk : D) → Contains hosts h → f ≤ 1 → slice_get new h ≡ Some disk → IsSettled (view disk) f
  pub as_many : hosts_of board ≡ length old
  pub untold : told_by board ≡ 0
  pub none : (h f : ℕ) → f ≤ 1 → MayCount (slot_at board h f).kind → ⊥
  pub kinds : (number : PartitionNumber) (changes : List Change) → AreOfKind view new board number changes []
  pub known : (h f : ℕ) → f ≤ 1 → freed h f → ((h ≡ host) × (f ≡ file) → ⊥) → (slot_at board h f).kind ≢ Unknown
  pub unknown : (h f : ℕ) → f ≤ 1 → (Contains hosts h → ⊥) → (slot_at board h f).kind ≡ Unknown
  pub one_of_two : file ≤ 1
  pub newest : (slot_at board host file).kind ≡ Unknown

-- why a file wasn't erased: the disk of one of these hosts failed, or memory ran out
abbrev pub IsErasureFault : {D : Type 0} → (D → View) → List ℕ → List D → List D → CellRefusal → Type 0
IsErasureFault view hosts old new (Fault h) = Contains hosts h × HasFailedOn view h old new
IsErasureFault view hosts old new NoStore = ⊥
IsErasureFault view hosts old new (Damaged h f at) = ⊥
IsErasureFault view hosts old new NoMemory = ⊤
