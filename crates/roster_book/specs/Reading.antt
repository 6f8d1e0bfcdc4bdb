-- What is found on a service disk.
use Rattle.std.specs.Prelude.{⊤, ◌≡◌, ◌⊎◌, ℕ, ◌-◌, ◌≤◌, List, Option, Some, None}
use Rattle.disk_trait.specs.View.{Image, View, Tells}
use Rattle.disk_trait.specs.Calls.{Rose}
use Rattle.disk_trait.specs.declared.DiskRefusal.{DiskRefusal}
use Rattle.disk_trait.specs.declared.DiskRefusal.TheVariants as refusals
use Rattle.roster_form.specs.RosterFault.{roster_fault}
use Rattle.roster_form.specs.declared.roster.Roster.{Roster}
use Rattle.roster_book.specs.declared.fault.ShownFault.{ShownFault}
use Rattle.roster_book.specs.declared.fault.ShownFault.TheVariants.{Failed, Damaged, NoMemory}
use Rattle.seal_gate.specs.Seal.{IsSealed}
use Rattle.store_journal.specs.Created.{IsUnsealed}
use Rattle.store_journal.specs.Stands.{version_in}
use Rattle.newest_store.specs.Newest.{IsNewest}

-- the epoch in a sealed file; none where it isn't sealed
abbrev pub IsEpochOf : List ℕ → Option ℕ → Type 0
IsEpochOf bytes None = IsUnsealed bytes
IsEpochOf bytes (Some epoch) = IsSealed bytes × (version_in bytes ≡ epoch)

-- the newest sealed file; none where neither is sealed
abbrev pub IsNewestOf : Image → Option ℕ → Type 0
IsNewestOf m None = (file : ℕ) → file ≤ 1 → IsUnsealed (m file)
IsNewestOf m (Some file) = IsNewest m file

-- file 0 or file 1 is sealed
abbrev pub HasSealedRoster : Image → Type 0
HasSealedRoster m = IsSealed (m 0) ⊎ IsSealed (m 1)

-- a roster, if there is one, is of a site with so many partitions
abbrev pub IsOfSite : ℕ → Option Roster → Type 0
IsOfSite partitions None = ⊤
IsOfSite partitions (Some roster) = roster.partitions ≡ partitions

abbrev pub IsOneOfTwo : Option ℕ → Type 0
IsOneOfTwo None = ⊤
IsOneOfTwo (Some file) = file ≤ 1

-- the file that isn't the newest sealed one, and file 0 where neither is sealed
abbrev pub IsFreeFile : Image → ℕ → Type 0
IsFreeFile m file = IsNewest m (1 - file) ⊎ ((file ≡ 0) × ((other : ℕ) → other ≤ 1 → IsUnsealed (m other)))

-- a refusal of the disk, as it is answered
abbrev pub shown_fault : DiskRefusal → ShownFault
shown_fault refusals.Failed = Failed
shown_fault refusals.NoMemory = NoMemory

-- why the roster of a sealed file wasn't read: the disk's count rose, memory ran out, or this is the bytes' first fault
abbrev pub IsUnread : View → View → ℕ → ℕ → ShownFault → Type 0
IsUnread old new partitions wanted Failed = Rose old.faults new.faults
IsUnread old new partitions wanted NoMemory = ⊤
IsUnread old new partitions wanted (Damaged file at) = (file ≡ wanted) × (Tells old → roster_fault partitions (old.seen file) ≡ Some at)

-- why it wasn't read what roster is shown: so, and the file is the newest
abbrev pub IsUnshown : View → View → ℕ → ShownFault → Type 0
IsUnshown old new partitions Failed = Rose old.faults new.faults
IsUnshown old new partitions NoMemory = ⊤
IsUnshown old new partitions (Damaged file at) = Tells old → IsNewest old.seen file × (roster_fault partitions (old.seen file) ≡ Some at)
