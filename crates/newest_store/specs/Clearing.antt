-- What a stop may leave of the two files while the older or both are made free of a store.
use Rattle.std.specs.Prelude.{◌≡◌, ◌≢◌, ◌⊎◌, ℕ, ◌-◌, ◌<◌, ◌≤◌, List, Option, None, Some}
use Rattle.disk_trait.specs.View.{Image}
use Rattle.seal_gate.specs.Seal.{IsSealed, ButFirst}
use Rattle.store_ident.specs.declared.ident.StoreId.{StoreId}
use Rattle.store_journal.specs.Created.{IsUnsealed}
use Rattle.store_journal.specs.Loading.{IsIdentified}
use Rattle.store_journal.specs.Stands.{version_in}
use Rattle.newest_store.specs.Newest.{IsHeaded, IsNewest}

-- the store that the bytes' header names: none where they aren't sealed, or have no header
abbrev pub IsNamedIn : List ℕ → Option StoreId → Type 0
IsNamedIn bytes None = IsSealed bytes → IsHeaded bytes → ⊥
IsNamedIn bytes (Some id) = IsIdentified bytes (Some id)

-- Of the sealed files with a header, the one of greatest version, and of two with the same version the lower. Where each
-- sealed file has a header it is the newest file (`IsNewest`).
pub record IsNewestHeaded (m : Image) (file : ℕ) : Type 0 where
  pub one_of_two : file ≤ 1
  pub sealed : IsSealed (m file)
  pub headed : IsHeaded (m file)
  pub greatest : (f : ℕ) → f ≤ 1 → f ≢ file → IsSealed (m f) → IsHeaded (m f)
      → (version_in (m f) < version_in (m file)) ⊎ ((version_in (m f) ≡ version_in (m file)) × (file < f))

-- a file as it was or, where it was sealed, with another first byte
abbrev pub MayLoseSeal : List ℕ → List ℕ → Type 0
MayLoseSeal old new = (new ≡ old) ⊎ (IsSealed old × ButFirst old new)

-- Each of the two files is as it was, or may have lost its seal; and the newest file is as it was, whatever the two hold.
pub record ErasesOlder (old new : Image) : Type 0 where
  pub files : (file : ℕ) → file ≤ 1 → MayLoseSeal (old file) (new file)
  pub others : (file : ℕ) → 2 ≤ file → new file ≡ old file
  pub newest : (file : ℕ) → IsNewest old file → new file ≡ old file

-- Each of the two files is as it was, or may have lost its seal; and the newest store is as it was, unless the other file
-- isn't sealed.
pub record ClearsOlderFirst (old new : Image) : Type 0 where
  pub files : (file : ℕ) → file ≤ 1 → MayLoseSeal (old file) (new file)
  pub others : (file : ℕ) → 2 ≤ file → new file ≡ old file
  pub older_first : (file : ℕ) → IsNewestHeaded old file → (new file ≡ old file) ⊎ IsUnsealed (new (1 - file))
