-- What a host shows: the newer of the two rosters on its service disk.
use Rattle.std.specs.Prelude.{⊤, ◌≢◌, ◌⊎◌, ℕ, ◌<◌, ◌≤◌, List, Option, Some, None, Contains}
use Rattle.disk_trait.specs.View.{Image, View}
use Rattle.disk_trait.specs.Moments.{Now}
use Rattle.store_journal.specs.Created.{IsUnsealed}
use Rattle.newest_store.specs.Newest.{IsNewest}
use Rattle.roster_form.specs.Membership.{Host}
use Rattle.roster_form.specs.RosterText.{IsRosterText}
use Rattle.roster_form.specs.declared.roster.Roster.{Roster}

-- What an image of a service disk shows: the roster in its newest sealed file, of files 0 and 1 with the same epoch that in
-- file 0; nothing where neither is sealed.
abbrev pub Shows : Image → Option Roster → Type 0
Shows m None = (file : ℕ) → file ≤ 1 → IsUnsealed (m file)
Shows m (Some roster) = (file : ℕ) × IsNewest m file × IsRosterText roster (m file)

-- what each host may show after a stop now
abbrev pub Sights : Type 0
Sights = Host → List (Option Roster)

abbrev pub MayShow : Sights → Host → Option Roster → Type 0
MayShow sights host shown = Contains (sights host) shown

-- an image of a host's service disk shows one of these
abbrev pub ShowsOneOf : List (Option Roster) → Image → Type 0
ShowsOneOf sights m = (shown : Option Roster) × Shows m shown × Contains sights shown

-- each image of a host's service disk shows one of these
abbrev pub IsSeenAs : View → List (Option Roster) → Type 0
IsSeenAs v sights = Now v (ShowsOneOf sights)

-- ---- one roster is written

-- the other of the files 0 and 1
abbrev pub IsOther : ℕ → ℕ → Type 0
IsOther file other = (file ≢ other) × (file ≤ 1) × (other ≤ 1)

-- what is shown has an earlier epoch
abbrev pub IsEarlier : Option Roster → Roster → Type 0
IsEarlier None roster = ⊤
IsEarlier (Some shown) roster = shown.epoch < roster.epoch

-- the file alone, of which the other isn't looked at, holds what is shown
abbrev pub FileShows : List ℕ → Option Roster → Type 0
FileShows bytes None = IsUnsealed bytes
FileShows bytes (Some shown) = IsRosterText shown bytes

-- In this file the roster is being written, over the other file, which has one of these: each is earlier than the roster. The
-- file isn't sealed, or the other is the newest still, or it has the whole roster.
pub record IsWritingOver (roster : Roster) (file other : ℕ) (sights : List (Option Roster)) (m : Image) : Type 0 where
  pub two : IsOther file other
  pub shown : Option Roster
  pub listed : Contains sights shown
  pub earlier : IsEarlier shown roster
  pub there : FileShows (m other) shown
  pub here : IsUnsealed (m file) ⊎ IsNewest m other ⊎ IsRosterText roster (m file)
