-- What the service disks of several hosts show. The hosts are numbers of disks in the list of service disks.
use Rattle.std.specs.Prelude.{⊤, ◌≡◌, ℕ, List, ◌∷◌, ◌++◌, map, All, slice_get, Option, Some}
use Rattle.disk_lane.specs.Lanes.{HasFailedOn}
use Rattle.disk_trait.specs.Calls.{Rose}
use Rattle.disk_trait.specs.View.{View, Tells}
use Rattle.newest_store.specs.Newest.{IsNewest}
use Rattle.roster_form.specs.RosterFault.{roster_fault}
use Rattle.roster_form.specs.Shown.{Shows}
use Rattle.roster_form.specs.declared.roster.Roster.{Roster}
use Rattle.roster_book.specs.Reading.{IsOfSite}
use Rattle.roster_book.specs.declared.found.Found.{Found}
use Rattle.roster_book.specs.declared.rosters.BookRefusal.{BookRefusal}
use Rattle.roster_book.specs.declared.rosters.BookRefusal.TheVariants.{Fault, DamagedRoster, NoMemory}

-- ---- what is found

-- a service disk shows this, and a roster that it shows is of the site
pub record IsShownBy (v : View) (partitions : ℕ) (shown : Option Roster) : Type 0 where
  pub shows : Tells v → Shows v.seen shown
  pub site : IsOfSite partitions shown

-- this was found on the service disk of its host
abbrev pub IsFoundOn : {D : Type 0} → (D → View) → List D → ℕ → Found → Type 0
IsFoundOn view services partitions found = (service : _) → slice_get services found.host ≡ Some service → IsShownBy (view service) partitions found.roster

-- these were found, one for each of these hosts, in their order
pub record AreFound {D : Type 0} (view : D → View) (services : List D) (partitions : ℕ) (hosts : List ℕ) (found : List Found) : Type 0 where
  pub of_hosts : map (λ each. each.host) found ≡ hosts
  pub shown : All (IsFoundOn view services partitions) found

-- ---- why nothing was found

-- the newest sealed file of a service disk is this one, and first leaves the form of a roster at this offset
abbrev pub IsDamagedRoster : View → ℕ → ℕ → ℕ → Type 0
IsDamagedRoster v partitions file at = Tells v → IsNewest v.seen file × (roster_fault partitions (v.seen file) ≡ Some at)

-- the same of the service disk of this host
abbrev pub IsDamagedOn : {D : Type 0} → (D → View) → List D → ℕ → ℕ → ℕ → ℕ → Type 0
IsDamagedOn view services partitions host file at = (service : _) → slice_get services host ≡ Some service → IsDamagedRoster (view service) partitions file at

-- in the order of the list this host is the first at which reading was refused, and this is so of it
pub record IsFirstRefused {D : Type 0} (view : D → View) (services : List D) (partitions : ℕ) (hosts : List ℕ) (host : ℕ) (Why : Type 0) : Type 0 where
  pub before : List ℕ
  pub after : List ℕ
  pub place : hosts ≡ before ++ host ∷ after
  -- what the hosts before it show was found
  pub found : List Found
  pub are : AreFound view services partitions before found
  pub why : Why

-- why the rosters of these hosts weren't read, from the service disks before the call to those after it
abbrev pub IsReadRefusal : {D : Type 0} → (D → View) → List D → List D → ℕ → List ℕ → BookRefusal → Type 0
IsReadRefusal view old new partitions hosts (Fault host) = IsFirstRefused view old partitions hosts host (HasFailedOn view host old new)
IsReadRefusal view old new partitions hosts (DamagedRoster host file at) = IsFirstRefused view old partitions hosts host (IsDamagedOn view old partitions host file at)
IsReadRefusal view old new partitions hosts NoMemory = ⊤

-- why this host's roster wasn't read
abbrev pub IsRefusedOn : {D : Type 0} → (D → View) → List D → List D → ℕ → ℕ → BookRefusal → Type 0
IsRefusedOn view old new partitions host (Fault h) = (h ≡ host) × HasFailedOn view host old new
IsRefusedOn view old new partitions host (DamagedRoster h file at) = (h ≡ host) × IsDamagedOn view old partitions host file at
IsRefusedOn view old new partitions host NoMemory = ⊤

-- the same over its own service disk
abbrev pub IsHostRefusal : View → View → ℕ → ℕ → BookRefusal → Type 0
IsHostRefusal old new partitions host (Fault h) = (h ≡ host) × Rose old.faults new.faults
IsHostRefusal old new partitions host (DamagedRoster h file at) = (h ≡ host) × IsDamagedRoster old partitions file at
IsHostRefusal old new partitions host NoMemory = ⊤
