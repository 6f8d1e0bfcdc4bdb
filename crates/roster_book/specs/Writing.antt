-- What a service disk holds while a roster is written to it.
use Rattle.std.specs.Prelude.{◌≡◌, ◌≢◌, ◌⊎◌, ℕ, ◌<◌, List, drop, Option, Some, None}
use Rattle.disk_trait.specs.View.{Image, View}
use Rattle.disk_trait.specs.Calls.{Rose}
use Rattle.disk_trait.specs.Moments.{Now}
use Rattle.disk_trait.specs.declared.DiskRefusal.{DiskRefusal}
use Rattle.disk_trait.specs.declared.DiskRefusal.TheVariants.{Failed, NoMemory}
use Rattle.seal_gate.specs.Seal.{IsSealed, IsSettled, Each}
use Rattle.store_journal.specs.Created.{IsBlank}
use Rattle.store_journal.specs.Stands.{version_in}
use Rattle.newest_store.specs.Newest.{IsNewest}
use Rattle.roster_form.specs.RosterText.{IsRosterText}
use Rattle.roster_form.specs.declared.roster.Roster.{Roster}
use Rattle.roster_book.specs.declared.write.Doubt.{Doubt}
use Rattle.roster_book.specs.declared.write.Doubt.TheVariants.{FirstByte, Rest}

-- the bytes are those of some roster's sealed file
abbrev pub IsSomeRoster : List ℕ → Type 0
IsSomeRoster text = (roster : Roster) × IsRosterText roster text

-- the same bytes after the first
abbrev pub SameRest : List ℕ → List ℕ → Type 0
SameRest old new = drop 1 new ≡ drop 1 old

-- the sealed file is older than the newest one: its epoch is less, or the same in the higher file
pub record IsOlderThan (newest : List ℕ) (file other : ℕ) (bytes : List ℕ) : Type 0 where
  pub sealed : IsSealed newest
  pub less : (version_in bytes < version_in newest) ⊎ ((version_in bytes ≡ version_in newest) × (other < file))

-- whatever the first byte of the file becomes: it isn't sealed, or is older than the other file, or holds this text's roster
abbrev pub HasFreeFirst : List ℕ → ℕ → ℕ → Image → Type 0
HasFreeFirst text file other m = (bytes : List ℕ) → SameRest (m file) bytes → IsSealed bytes → IsOlderThan (m other) file other bytes ⊎ SameRest text bytes

-- What a write may begin with. At first nothing is pending in the file, which isn't the newest. After a refused write of its
-- first byte any first byte is harmless; and after another refused call the first byte is zero, and the rest is pending.
abbrev pub IsReadyToWrite : List ℕ → ℕ → ℕ → Option Doubt → View → Type 0
IsReadyToWrite text file other None v = IsSettled v file × Now v (λ m. IsSealed (m file) → IsNewest m other)
IsReadyToWrite text file other (Some FirstByte) v = Now v (HasFreeFirst text file other)
IsReadyToWrite text file other (Some Rest) v = Each v file IsBlank

-- no file but this one has changed, from the one image to the other
abbrev pub OnlyIn : ℕ → Image → Image → Type 0
OnlyIn file old new = (f : ℕ) → f ≢ file → new f ≡ old f

-- why a disk refused: its count of faults has risen, or it is one that takes memory
abbrev pub IsCaused : View → View → DiskRefusal → Type 0
IsCaused old new Failed = Rose old.faults new.faults
IsCaused old new NoMemory = old.spares → ⊥
