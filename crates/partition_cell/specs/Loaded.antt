-- The newest store of a partition, opened among several hosts.
use Rattle.std.specs.Prelude.{⊤, ◌≡◌, ◌≢◌, ◌⊎◌, ℕ, ◌≤◌, List, slice_get, Contains, Some, None, true}
use Rattle.std.specs.List.{flat_map}
use Rattle.cache_key.specs.declared.request.Mutation.{Mutation}
use Rattle.cache_model.specs.Change.{Change, changes_of}
use Rattle.cache_model.specs.Contents.{SameContents}
use Rattle.disk_lane.specs.Lanes.{LaneImage, OnHost, HasFailedOn, files_on}
use Rattle.disk_trait.specs.View.{View}
use Rattle.file_kinds.specs.Kinds.{PartitionNumber, IsVersion}
use Rattle.newest_store.specs.Choice.{seen_on, AllTell, OnlyReadsLane, IsNewestAmong, AreHeaded, IsFirstUnheaded}
use Rattle.partition_map.specs.After.{AgreesWith}
use Rattle.slot_board.specs.declared.board.SlotKind.TheVariants.{Unknown}
use Rattle.slot_board.specs.Slots.{slot_at, told_by, is_free}
use Rattle.store_journal.specs.AtRest.{IsKeptIn, AtRest}
use Rattle.store_journal.specs.Created.{IsUnsealed}
use Rattle.store_journal.specs.Fault.{IsDamagedAt}
use Rattle.store_journal.specs.Stands.{StandsFor}
use Rattle.store_journal.specs.declared.fault.LoadFault.{LoadFault}
use Rattle.store_journal.specs.declared.fault.LoadFault.TheVariants as loads
use Rattle.store_journal.specs.declared.store.Store.{Store}
use Rattle.newest_store.specs.declared.choice.ChoiceFault.{ChoiceFault}
use Rattle.newest_store.specs.declared.choice.ChoiceFault.TheVariants as choices
use Rattle.partition_cell.specs.Cells.{Cell, IsSoundCell, list_of}
use Rattle.partition_cell.specs.Older.{ErasesOlderIn}
use Rattle.partition_cell.specs.declared.refusal.CellRefusal.{CellRefusal}
use Rattle.partition_cell.specs.declared.refusal.CellRefusal.TheVariants.{Fault, NoStore, Damaged, NoMemory}

-- The store was read, from the disks before to those after: it is that of the newest file of these hosts, and has these mutations,
-- which are its groups one after the other. It rests.
pub record IsNewestFound {D : Type 0} (view : D → View) (hosts : List ℕ) (partitions : ℕ) (old new : List D) (host : ℕ) (store : Store) (mutations : List Mutation) : Type 0 where
  pub groups : List (List Mutation)
  pub joined : mutations ≡ flat_map (λ group. group) groups
  pub headed : AllTell view old hosts → AreHeaded (seen_on view old) hosts
  pub newest : AllTell view old hosts → IsNewestAmong (seen_on view old) hosts host store.file
  pub read : AllTell view old hosts → IsKeptIn store (record { id = store.id; partitions = partitions }) groups (seen_on view old host store.file)
  pub at_rest : (disk : D) → slice_get new host ≡ Some disk → AtRest (view disk) store (record { id = store.id; partitions = partitions }) groups

-- In the order of the list, and of one host in the order of its two files, this file is the first that is sealed without a
-- header; or each that is sealed has one, and the newest first leaves the form of a store of the partition at this offset.
abbrev pub IsNewestDamaged : LaneImage → List ℕ → ℕ → ℕ → ℕ → ℕ → ℕ → Type 0
IsNewestDamaged ms hosts partition partitions host file offset =
    IsFirstUnheaded ms hosts host file offset ⊎ (AreHeaded ms hosts × IsNewestAmong ms hosts host file × IsDamagedAt (ms host file) partition partitions offset)

-- why no cell was made of these hosts' files
abbrev pub IsLoadRefusal : {D : Type 0} → (D → View) → List ℕ → PartitionNumber → List D → List D → CellRefusal → Type 0
IsLoadRefusal view hosts number old new (Fault h) = Contains hosts h × HasFailedOn view h old new
IsLoadRefusal view hosts number old new NoStore =
    OnlyReadsLane view old new × (AllTell view old hosts → (h f : ℕ) → Contains hosts h → f ≤ 1 → IsUnsealed (seen_on view old h f))
IsLoadRefusal view hosts number old new (Damaged h f at) =
    OnlyReadsLane view old new × Contains hosts h × (f ≤ 1) × (AllTell view old hosts → IsNewestDamaged (seen_on view old) hosts number.partition number.partitions h f at)
IsLoadRefusal view hosts number old new NoMemory = ⊤

-- what is known of the files of these hosts, and of no others: which has the newest store, and that no other is sealed
pub record AreKnownAlone {D : Type 0} (hosts : List ℕ) (cell : Cell D) : Type 0 where
  pub listed : Contains hosts cell.owner
  pub known : (h f : ℕ) → f ≤ 1 → Contains hosts h → (slot_at cell.board h f).kind ≢ Unknown
  pub free : (h f : ℕ) → f ≤ 1 → Contains hosts h → ((h ≡ cell.owner) × (f ≡ cell.store.file) → ⊥) → is_free (slot_at cell.board h f).kind ≡ true
  pub unknown : (h f : ℕ) → f ≤ 1 → (Contains hosts h → ⊥) → (slot_at cell.board h f).kind ≡ Unknown

-- ---- what the files stand for

-- each disk's part of this is what a stop at some moment from the disks before to those after might have left
abbrev pub IsLaneMoment : {D : Type 0} → (D → View) → List D → List D → LaneImage → Type 0
IsLaneMoment view old new ms = (h : ℕ) → OnHost h old new (λ before now. (view now).since (view before).clock (ms h))

-- the same hosts, in whichever order
abbrev pub SameHosts : List ℕ → List ℕ → Type 0
SameHosts hosts list = (h : ℕ) → (Contains hosts h → Contains list h) × (Contains list h → Contains hosts h)

-- the files of these hosts stand for these changes
abbrev pub StandOn : LaneImage → List ℕ → PartitionNumber → List Change → Type 0
StandOn ms hosts number changes = StandsFor (files_on ms hosts) number.partition number.partitions changes

-- whatever the files of these hosts stood for, they stand for it at every moment from the disks before to those after
abbrev pub StandsThroughout : {D : Type 0} → (D → View) → List ℕ → PartitionNumber → List D → List D → Type 0
StandsThroughout view hosts number old new = (list : List ℕ) (changes : List Change) (ms : LaneImage) → SameHosts hosts list → IsLaneMoment view old new ms
    → StandOn (seen_on view old) list number changes → StandOn ms list number changes

-- ---- the cell

-- the cell has the newest store of these hosts' files, and its contents
pub record IsLoadedCell {D : Type 0} (view : D → View) (hosts : List ℕ) (wanted : PartitionNumber) (old : List D) (cell : Cell D) : Type 0 where
  pub sound : IsSoundCell cell
  pub still : cell.moving ≡ None
  pub number : cell.number ≡ wanted
  pub told : told_by cell.board ≡ cell.store.id.version
  pub alone : AreKnownAlone hosts cell
  pub headed : AllTell view old hosts → AreHeaded (seen_on view old) hosts
  pub newest : AllTell view old hosts → IsNewestAmong (seen_on view old) hosts cell.owner cell.store.file
  pub groups : List (List Mutation)
  pub read : AllTell view old hosts → IsKeptIn cell.store (record { id = cell.store.id; partitions = wanted.partitions }) groups (seen_on view old cell.owner cell.store.file)
  pub contents : AgreesWith (changes_of (flat_map (λ group. group) groups)) cell.maps
  pub erases : ErasesOlderIn view hosts cell.owner cell.store.file old cell.disks
  pub stands : StandsThroughout view hosts wanted old cell.disks
  pub stood : AllTell view old hosts → (list : List ℕ) (changes : List Change) → SameHosts hosts list → StandOn (seen_on view old) list wanted changes → SameContents changes (list_of cell)

-- From the disks before to those after the files of these hosts were erased, but not this one of this host, which is the newest.
-- Before that each that is sealed was found to have a header, and the newest to be whole.
pub record ErasesBesideNewest {D : Type 0} (view : D → View) (hosts : List ℕ) (number : PartitionNumber) (old new : List D) : Type 0 where
  pub host : ℕ
  pub file : ℕ
  pub erases : ErasesOlderIn view hosts host file old new
  pub headed : AllTell view old hosts → AreHeaded (seen_on view old) hosts
  pub newest : AllTell view old hosts → IsNewestAmong (seen_on view old) hosts host file
  pub whole : AllTell view old hosts → (version : ℕ) × IsVersion number version (seen_on view old host file)

-- What a refusal leaves: nothing was written, or no file has changed but older ones beside the newest, and these are as they were
-- but perhaps for the first byte.
abbrev pub KeepsNewest : {D : Type 0} → (D → View) → List ℕ → PartitionNumber → List D → List D → Type 0
KeepsNewest view hosts number old new = OnlyReadsLane view old new ⊎ ErasesBesideNewest view hosts number old new

-- a fault of a read, as it is answered
abbrev pub load_refusal : ℕ → ℕ → LoadFault → CellRefusal
load_refusal host file loads.NotSealed = NoStore
load_refusal host file (loads.Damaged at) = Damaged host file at
load_refusal host file loads.Failed = Fault host
load_refusal host file loads.NoMemory = NoMemory

-- why none was chosen, as it is answered
abbrev pub choice_refusal : ChoiceFault → CellRefusal
choice_refusal (choices.Failed host) = Fault host
choice_refusal (choices.Damaged host file at) = Damaged host file at
choice_refusal choices.NoMemory = NoMemory
