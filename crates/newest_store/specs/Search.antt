-- What is found of the two files before anything is erased.
use Rattle.std.specs.Prelude.{⊤, ◌≡◌, ℕ, ◌<◌, ◌≤◌, nat_lt, List, Option, None, Some, if◌then◌else◌}
use Rattle.cache_key.specs.declared.request.Mutation.{Mutation}
use Rattle.disk_trait.specs.View.{View, Tells}
use Rattle.disk_trait.specs.Calls.{Rose}
use Rattle.disk_trait.specs.declared.DiskRefusal.{DiskRefusal}
use Rattle.disk_trait.specs.declared.DiskRefusal.TheVariants as refusals
use Rattle.store_ident.specs.declared.ident.StoreId.{StoreId}
use Rattle.store_journal.specs.Created.{IsUnsealed}
use Rattle.store_journal.specs.Loading.{IsLoaded, IsUnidentifiedAt}
use Rattle.store_journal.specs.declared.fault.LoadFault.{LoadFault}
use Rattle.store_journal.specs.declared.fault.LoadFault.TheVariants as faults
use Rattle.store_journal.specs.declared.store.Store.{Store}
use Rattle.newest_store.specs.Newest.{IsHeaded, IsNewest, IsDamagedIn}
use Rattle.newest_store.specs.declared.fault.NewestFault.{NewestFault}
use Rattle.newest_store.specs.declared.fault.NewestFault.TheVariants.{NoStore, Damaged, Failed, NoMemory}

-- the fault of a file, as it is answered
abbrev pub fault_in : ℕ → LoadFault → NewestFault
fault_in file faults.NotSealed = NoStore
fault_in file (faults.Damaged at) = Damaged file at
fault_in file faults.Failed = Failed
fault_in file faults.NoMemory = NoMemory

-- a refusal of the disk, as it is answered
abbrev pub disk_fault : DiskRefusal → NewestFault
disk_fault refusals.Failed = Failed
disk_fault refusals.NoMemory = NoMemory

-- the file of the greater version, and of the same version the lower
abbrev pub newer_of : Option StoreId → Option StoreId → Option ℕ
newer_of (Some first) (Some second) = if nat_lt first.version second.version then Some 1 else Some 0
newer_of (Some first) None = Some 0
newer_of None (Some second) = Some 1
newer_of None None = None

-- why no file is the newest
abbrev pub IsSearchFault : View → View → NewestFault → Type 0
IsSearchFault old new NoStore = Tells old → (file : ℕ) → file ≤ 1 → IsUnsealed (old.seen file)
IsSearchFault old new (Damaged file offset) = (file ≤ 1) × (Tells old → IsUnidentifiedAt (old.seen file) offset × ((f : ℕ) → f < file → IsHeaded (old.seen f)))
IsSearchFault old new Failed = Rose old.faults new.faults
IsSearchFault old new NoMemory = old.spares → ⊥

-- why no store was loaded
abbrev pub IsOpeningFault : View → View → ℕ → ℕ → NewestFault → Type 0
IsOpeningFault old new partition partitions NoStore = Tells old → (file : ℕ) → file ≤ 1 → IsUnsealed (old.seen file)
IsOpeningFault old new partition partitions (Damaged file offset) = Tells old → IsDamagedIn old.seen partition partitions file offset
IsOpeningFault old new partition partitions Failed = Rose old.faults new.faults
IsOpeningFault old new partition partitions NoMemory = ⊤

-- the newest store of the two files was loaded, as one of this partition
pub record IsNewestLoaded (old new : View) (partition partitions : ℕ) (store : Store) (mutations : List Mutation) : Type 0 where
  pub loaded : IsLoaded old new partitions store mutations
  pub of_partition : store.id.partition ≡ partition
  pub one_of_two : store.file ≤ 1
  pub newest : Tells old → IsNewest old.seen store.file
  pub headed : Tells old → (f : ℕ) → f ≤ 1 → IsHeaded (old.seen f)
