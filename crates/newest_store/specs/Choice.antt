-- Which store counts among those of several hosts. The hosts are numbers of disks in a lane.
use Rattle.std.specs.Prelude.{⊤, ◌≡◌, ◌⊎◌, ℕ, ◌<◌, ◌≤◌, List, [], ◌∷◌, ◌++◌, length, slice_get, Contains, Some}
use Rattle.std.specs.Option.{option_map_or}
use Rattle.disk_lane.specs.Lanes.{LaneImage, OnHost, HasFailedOn}
use Rattle.disk_trait.specs.Calls.{Rose}
use Rattle.disk_trait.specs.View.{Image, View, Tells}
use Rattle.seal_gate.specs.Seal.{IsSealed}
use Rattle.store_journal.specs.Created.{IsUnsealed}
use Rattle.store_journal.specs.Loading.{IsIdentified, IsUnidentifiedAt, OnlyReads}
use Rattle.store_journal.specs.Stands.{version_in}
use Rattle.newest_store.specs.Newest.{IsHeaded, IsNewest}
use Rattle.newest_store.specs.declared.choice.Choice.{Choice}
use Rattle.newest_store.specs.declared.choice.Choice.TheVariants.{One, NoStore}
use Rattle.newest_store.specs.declared.choice.ChoiceFault.{ChoiceFault}
use Rattle.newest_store.specs.declared.choice.ChoiceFault.TheVariants.{Failed, Damaged, NoMemory}

-- ---- what is read

-- what a read gives of each file of each host
abbrev pub seen_on : {D : Type 0} → (D → View) → List D → LaneImage
seen_on view disks host = option_map_or (λ disk. (view disk).seen) (slice_get disks host) (λ file. [])

-- the disks of these hosts tell what they hold
abbrev pub AllTell : {D : Type 0} → (D → View) → List D → List ℕ → Type 0
AllTell view disks hosts = (host : ℕ) (disk : _) → Contains hosts host → slice_get disks host ≡ Some disk → Tells (view disk)

-- the calls of these hosts' disks take no memory
abbrev pub AllSpare : {D : Type 0} → (D → View) → List D → List ℕ → Type 0
AllSpare view disks hosts = (host : ℕ) (disk : _) → Contains hosts host → slice_get disks host ≡ Some disk → (view disk).spares

-- nothing was written on any disk
pub record OnlyReadsLane {D : Type 0} (view : D → View) (old new : List D) : Type 0 where
  pub as_many : length new ≡ length old
  pub each : (host : ℕ) → OnHost host old new (λ before now. OnlyReads (view before) (view now))

-- ---- which store counts

-- Of two sealed files the first counts, each told by its version, its host and itself: its version is greater; or that is the
-- same, and its host is lower; or these are the same, and it is no higher a file.
abbrev pub Precedes : ℕ → ℕ → ℕ → ℕ → ℕ → ℕ → Type 0
Precedes version host file other_version other_host other =
    (other_version < version) ⊎ ((other_version ≡ version) × ((host < other_host) ⊎ ((host ≡ other_host) × (file ≤ other))))

-- the same by the versions that their headers show
abbrev pub CountsBefore : LaneImage → ℕ → ℕ → ℕ → ℕ → Type 0
CountsBefore ms host file other_host other = Precedes (version_in (ms host file)) host file (version_in (ms other_host other)) other_host other

-- of the sealed files 0 and 1 of these hosts, the one of greatest version, of several the one of the lowest host, then the lower
pub record IsNewestAmong (ms : LaneImage) (hosts : List ℕ) (host file : ℕ) : Type 0 where
  pub listed : Contains hosts host
  pub one_of_two : file ≤ 1
  pub sealed : IsSealed (ms host file)
  pub greatest : (h f : ℕ) → Contains hosts h → f ≤ 1 → IsSealed (ms h f) → CountsBefore ms host file h f

-- the newest of these hosts' files and the store that its header names, or none where none is sealed
abbrev pub IsChosen : LaneImage → List ℕ → Choice → Type 0
IsChosen ms hosts NoStore = (host file : ℕ) → Contains hosts host → file ≤ 1 → IsUnsealed (ms host file)
IsChosen ms hosts (One host file id) = IsNewestAmong ms hosts host file × IsIdentified (ms host file) (Some id)

-- files 0 and 1 of these hosts each have a header, or aren't sealed
abbrev pub AreHeaded : LaneImage → List ℕ → Type 0
AreHeaded ms hosts = (host file : ℕ) → Contains hosts host → file ≤ 1 → IsHeaded (ms host file)

-- what is chosen is a file 0 or 1 of one of these hosts, if it is one
abbrev pub IsOneOf : List ℕ → Choice → Type 0
IsOneOf hosts NoStore = ⊤
IsOneOf hosts (One host file id) = Contains hosts host × (file ≤ 1)

-- ---- why none was chosen

-- In the order of the list, and of one host in the order of its two files, this file is the first that is sealed without a
-- header; it first leaves the form of one at this offset.
pub record IsFirstUnheaded (ms : LaneImage) (hosts : List ℕ) (host file offset : ℕ) : Type 0 where
  pub before : List ℕ
  pub after : List ℕ
  pub place : hosts ≡ before ++ host ∷ after
  pub one_of_two : file ≤ 1
  pub headed : AreHeaded ms before
  pub lower : (f : ℕ) → f < file → IsHeaded (ms host f)
  pub unheaded : IsUnidentifiedAt (ms host file) offset

-- why none of these hosts' stores was chosen, from the disks before the call to those after it
abbrev pub IsChoiceFault : {D : Type 0} → (D → View) → List D → List D → List ℕ → ChoiceFault → Type 0
IsChoiceFault view old new hosts (Failed host) = Contains hosts host × HasFailedOn view host old new
IsChoiceFault view old new hosts (Damaged host file offset) =
    Contains hosts host × (file ≤ 1) × (AllTell view old hosts → IsFirstUnheaded (seen_on view old) hosts host file offset)
IsChoiceFault view old new hosts NoMemory = AllSpare view old hosts → ⊥

-- why one file's header wasn't judged, over its host's disk
abbrev pub IsFileFault : View → View → ℕ → ℕ → ChoiceFault → Type 0
IsFileFault old new host file (Failed h) = (h ≡ host) × Rose old.faults new.faults
IsFileFault old new host file (Damaged h f offset) = (h ≡ host) × (f ≡ file) × (Tells old → IsUnidentifiedAt (old.seen file) offset)
IsFileFault old new host file NoMemory = old.spares → ⊥

-- why one host's files weren't judged, over its disk
abbrev pub IsHostFault : View → View → ℕ → ChoiceFault → Type 0
IsHostFault old new host (Failed h) = (h ≡ host) × Rose old.faults new.faults
IsHostFault old new host (Damaged h f offset) =
    (h ≡ host) × (f ≤ 1) × (Tells old → IsUnidentifiedAt (old.seen f) offset × ((lower : ℕ) → lower < f → IsHeaded (old.seen lower)))
IsHostFault old new host NoMemory = old.spares → ⊥

-- the newest of one host's two files, over what a read gives of them
abbrev pub IsHostChoice : Image → ℕ → Choice → Type 0
IsHostChoice m host NoStore = (file : ℕ) → file ≤ 1 → IsUnsealed (m file)
IsHostChoice m host (One h file id) = (h ≡ host) × IsNewest m file × IsIdentified (m file) (Some id)
