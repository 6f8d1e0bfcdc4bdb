-- What a file that is read as a store of a partition is found to hold.
use Rattle.std.specs.Prelude.{⊤, ◌≡◌, ◌≢◌, ℕ, ◌+◌, ◌≤◌, List, ◌∷◌, ◌++◌, length, drop, Option, None, Some}
use Rattle.std.specs.List.{flat_map}
use Rattle.byte_fields.specs.Counted.{counted32_text}
use Rattle.cache_key.specs.declared.request.Mutation.{Mutation}
use Rattle.disk_trait.specs.View.{View, Tells}
use Rattle.disk_trait.specs.Calls.{Rose, Same}
use Rattle.disk_trait.specs.Moments.{Throughout, Onward}
use Rattle.disk_trait.specs.declared.DiskRefusal.{DiskRefusal}
use Rattle.disk_trait.specs.declared.DiskRefusal.TheVariants as refusals
use Rattle.record_form.specs.declared.header.Header.{Header}
use Rattle.record_form.specs.HeaderText.{IsHeader, header_text}
use Rattle.record_form.specs.HeaderFault.{header_fault}
use Rattle.record_form.specs.GroupText.{IsGroup, record_head, closed_gate, group_text}
use Rattle.seal_gate.specs.Seal.{IsSealed, IsSettled}
use Rattle.store_ident.specs.declared.ident.StoreId.{StoreId}
use Rattle.store_journal.specs.Text.{IsText, header_start, header_section, records_section, Records, end_of}
use Rattle.store_journal.specs.Fault.{offset_if_fault, shifted, IsRecordFault, IsDamagedAt}
use Rattle.store_journal.specs.AtRest.{IsKeptIn, AtRest}
use Rattle.store_journal.specs.declared.fault.LoadFault.{LoadFault}
use Rattle.store_journal.specs.declared.fault.LoadFault.TheVariants.{NotSealed, Damaged, Failed, NoMemory}
use Rattle.store_journal.specs.declared.store.Store.{Store}

-- a refusal of the disk, as it is answered
abbrev pub load_fault : DiskRefusal → LoadFault
load_fault refusals.Failed = Failed
load_fault refusals.NoMemory = NoMemory

-- the fault is damage at this offset, if there is one, or memory ran out
abbrev pub IsFaultAt : Option ℕ → LoadFault → Type 0
IsFaultAt offset (Damaged at) = offset ≡ Some at
IsFaultAt offset NoMemory = ⊤
IsFaultAt offset NotSealed = ⊥
IsFaultAt offset Failed = ⊥

-- the fault is that of the records of these bytes, or memory ran out
abbrev pub IsRecordsFault : List ℕ → LoadFault → Type 0
IsRecordsFault bytes (Damaged at) = IsRecordFault bytes at
IsRecordsFault bytes NoMemory = ⊤
IsRecordsFault bytes NotSealed = ⊥
IsRecordsFault bytes Failed = ⊥

-- the fault is that of these bytes as a store of a partition, or memory ran out
abbrev pub IsStoreFault : List ℕ → ℕ → ℕ → LoadFault → Type 0
IsStoreFault bytes partition partitions NotSealed = IsSealed bytes → ⊥
IsStoreFault bytes partition partitions (Damaged at) = IsDamagedAt bytes partition partitions at
IsStoreFault bytes partition partitions NoMemory = ⊤
IsStoreFault bytes partition partitions Failed = ⊥

-- the fault is the device's, whose count has risen, or memory ran out
abbrev pub IsReadFault : View → View → LoadFault → Type 0
IsReadFault old new Failed = Rose old.faults new.faults
IsReadFault old new NoMemory = ⊤
IsReadFault old new NotSealed = ⊥
IsReadFault old new (Damaged at) = ⊥

-- Nothing was written from the disk before to the disk after: each file is as it was, no moment has another image, and
-- the count of faults hasn't fallen.
pub record OnlyReads (old new : View) : Type 0 where
  pub same : Same old new
  pub moments : Throughout old new old.images
  pub onward : Onward old new

-- the header after the seal has this identifier, of this partition, and this number of partitions
pub record HasHeaderOf (bytes : List ℕ) (partition partitions : ℕ) (id : StoreId) : Type 0 where
  pub limits : IsHeader (record { id = id; partitions = partitions })
  pub named : header_section bytes ≡ header_text (record { id = id; partitions = partitions })
  pub of_partition : id.partition ≡ partition

-- at this offset an open gate stands, and then the group of these mutations, up to the end
pub record IsRecordAt (bytes : List ℕ) (offset : ℕ) (mutations : List Mutation) (end : ℕ) : Type 0 where
  pub gate : ℕ
  pub is_open : gate ≢ closed_gate
  pub group : IsGroup mutations
  pub spelled : drop offset bytes ≡ gate ∷ counted32_text (group_text mutations) ++ drop end bytes
  pub there : end ≡ offset + record_head + length (group_text mutations)
  pub within : end ≤ length bytes

-- the records up to this offset have these mutations
pub record AreBefore (bytes : List ℕ) (offset : ℕ) (mutations : List Mutation) : Type 0 where
  pub groups : List (List Mutation)
  pub joined : mutations ≡ flat_map (λ group. group) groups
  pub whole : Records (records_section bytes) groups (drop offset bytes)
  pub there : offset ≡ end_of groups

-- the bytes are a store with this identifier, these mutations and this offset of its closed gate
pub record IsStoreEndingAt (bytes : List ℕ) (partition partitions : ℕ) (id : StoreId) (mutations : List Mutation) (end : ℕ) : Type 0 where
  pub groups : List (List Mutation)
  pub joined : mutations ≡ flat_map (λ group. group) groups
  pub text : IsText (record { id = id; partitions = partitions }) groups bytes
  pub gate : end ≡ end_of groups
  pub of_partition : id.partition ≡ partition

-- What a store that was read holds, from the disk before the call to the disk after it: groups, which are these mutations
-- one after the other. The bytes that were read have them, and where nothing was pending each image has.
pub record IsLoaded (old new : View) (partitions : ℕ) (store : Store) (mutations : List Mutation) : Type 0 where
  pub groups : List (List Mutation)
  pub joined : mutations ≡ flat_map (λ group. group) groups
  pub seen : Tells old → IsKeptIn store (record { id = store.id; partitions = partitions }) groups (old.seen store.file)
  pub at_rest : IsSettled old store.file → AtRest new store (record { id = store.id; partitions = partitions }) groups

-- the store that the bytes' header names: none where they aren't sealed
abbrev pub IsIdentified : List ℕ → Option StoreId → Type 0
IsIdentified bytes None = IsSealed bytes → ⊥
IsIdentified bytes (Some id) = IsSealed bytes × (header : Header) × IsHeader header × (header_section bytes ≡ header_text header) × (header.id ≡ id)

-- the bytes are sealed, and what stands after the seal first leaves the form of a header at this offset
pub record IsUnidentifiedAt (bytes : List ℕ) (offset : ℕ) : Type 0 where
  pub sealed : IsSealed bytes
  pub first : shifted header_start (offset_if_fault (header_fault (header_section bytes))) ≡ Some offset

-- the fault is that of the header after the seal
abbrev pub IsHeaderFault : List ℕ → LoadFault → Type 0
IsHeaderFault bytes (Damaged at) = IsUnidentifiedAt bytes at
IsHeaderFault bytes NotSealed = ⊥
IsHeaderFault bytes NoMemory = ⊥
IsHeaderFault bytes Failed = ⊥
