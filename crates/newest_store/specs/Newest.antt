-- What the two files of a partition on one disk hold, and which of them counts.
use Rattle.std.specs.Prelude.{◌≡◌, ◌≢◌, ◌⊎◌, ℕ, ◌<◌, ◌≤◌, List, [], ◌∷◌, None}
use Rattle.std.specs.List.{flat_map}
use Rattle.cache_key.specs.declared.request.Mutation.{Mutation}
use Rattle.cache_model.specs.Change.{Change, changes_of}
use Rattle.disk_trait.specs.View.{Image, View}
use Rattle.record_form.specs.HeaderFault.{header_fault}
use Rattle.seal_gate.specs.Seal.{IsSealed, Each}
use Rattle.store_ident.specs.declared.ident.StoreId.{StoreId}
use Rattle.store_journal.specs.AtRest.{IsKeptIn, AtRest}
use Rattle.store_journal.specs.Created.{IsUnsealed}
use Rattle.store_journal.specs.Fault.{IsDamagedAt}
use Rattle.store_journal.specs.Loading.{IsUnidentifiedAt}
use Rattle.store_journal.specs.Stands.{version_in, StandsFor}
use Rattle.store_journal.specs.Text.{header_section}
use Rattle.store_journal.specs.declared.store.Store.{Store}

-- the bytes of the two files
abbrev pub files_of : Image → List (List ℕ)
files_of m = m 0 ∷ m 1 ∷ []

-- a file that isn't sealed, or has a header after its seal
abbrev pub IsHeaded : List ℕ → Type 0
IsHeaded bytes = IsSealed bytes → header_fault (header_section bytes) ≡ None

-- the sealed file of greatest version, and of two with the same version the lower
pub record IsNewest (m : Image) (file : ℕ) : Type 0 where
  pub one_of_two : file ≤ 1
  pub sealed : IsSealed (m file)
  pub greatest : (f : ℕ) → f ≤ 1 → f ≢ file → IsSealed (m f) → (version_in (m f) < version_in (m file)) ⊎ ((version_in (m f) ≡ version_in (m file)) × (file < f))

-- The newest file is this one, with the store of this identifier and exactly these changes, for which the files stand; and
-- each that is sealed has a header.
pub record HasStore (partition partitions file : ℕ) (id : StoreId) (changes : List Change) (m : Image) : Type 0 where
  pub newest : IsNewest m file
  pub stands : StandsFor (files_of m) partition partitions changes
  pub named : stands.header.id ≡ id
  pub exact : changes_of stands.mutations ≡ changes
  pub headed : (f : ℕ) → f ≤ 1 → IsHeaded (m f)

-- The newest file is that of this store, one of this partition: its bytes have the store's header and exactly these
-- mutations, and the closed gate where the store says. And each file that is sealed has a header.
pub record IsNewestStore (partition partitions : ℕ) (store : Store) (mutations : List Mutation) (m : Image) : Type 0 where
  pub newest : IsNewest m store.file
  pub groups : List (List Mutation)
  pub joined : mutations ≡ flat_map (λ group. group) groups
  pub kept : IsKeptIn store (record { id = store.id; partitions = partitions }) groups (m store.file)
  pub of_partition : store.id.partition ≡ partition
  pub headed : (f : ℕ) → f ≤ 1 → IsHeaded (m f)

-- the store rests in its file, as one of this partition, and has these mutations; the other file isn't sealed
pub record IsOpened (v : View) (partition partitions : ℕ) (store : Store) (mutations : List Mutation) : Type 0 where
  pub groups : List (List Mutation)
  pub joined : mutations ≡ flat_map (λ group. group) groups
  pub at_rest : AtRest v store (record { id = store.id; partitions = partitions }) groups
  pub of_partition : store.id.partition ≡ partition
  pub one_of_two : store.file ≤ 1
  pub alone : (file : ℕ) → file ≤ 1 → file ≢ store.file → Each v file IsUnsealed

-- The file is sealed and first leaves the form of a header at this offset, and the files below it have headers; or each
-- file has one, and the newest first leaves the form of a store of this partition at this offset.
pub record IsDamagedIn (m : Image) (partition partitions file offset : ℕ) : Type 0 where
  pub one_of_two : file ≤ 1
  pub first : (IsUnidentifiedAt (m file) offset × ((f : ℕ) → f < file → IsHeaded (m f)))
      ⊎ (((f : ℕ) → f ≤ 1 → IsHeaded (m f)) × IsNewest m file × IsDamagedAt (m file) partition partitions offset)
