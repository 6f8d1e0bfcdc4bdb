-- How rosters follow one another, and what a host may show of them at any moment.
use Rattle.std.specs.Prelude.{⊤, ◌≡◌, ◌≢◌, ◌⊎◌, ◌+◌, ◌≤◌, List, [], ◌∷◌, Option, Some, None, Contains}
use Rattle.roster_form.specs.Membership.{Host, IsRoster, joining_host}
use Rattle.roster_form.specs.Shown.{Sights, MayShow}
use Rattle.roster_form.specs.declared.roster.Roster.{Roster}

-- The new roster has the hosts of the old one and one more, which wasn't among them and is joining; or the same hosts, of
-- which the joining one has joined; or one host less, which was among them.
pub data Changes (old new : Roster) : Type 0 where
  joins : (host : Host) → ¬ Contains old.hosts host → joining_host old ≡ None → joining_host new ≡ Some host
      → ((other : Host) → Contains new.hosts other → Contains old.hosts other ⊎ (other ≡ host)) → ((other : Host) → Contains old.hosts other → Contains new.hosts other) → Contains new.hosts host → Changes old new
  settles : (host : Host) → joining_host old ≡ Some host → joining_host new ≡ None → new.hosts ≡ old.hosts → Changes old new
  leaves : (host : Host) → Contains old.hosts host → joining_host old ≡ None → joining_host new ≡ None
      → ((other : Host) → Contains new.hosts other → Contains old.hosts other × (other ≢ host)) → ((other : Host) → Contains old.hosts other → other ≢ host → Contains new.hosts other) → Changes old new

-- one epoch later, on the same site, with such a change
pub record Succeeds (old new : Roster) : Type 0 where
  pub next : new.epoch ≡ old.epoch + 1
  pub site : new.partitions ≡ old.partitions
  pub change : Changes old new

-- it has a host that isn't joining
abbrev pub HasMember : Roster → Type 0
HasMember roster = (host : Host) × Contains roster.hosts host × (joining_host roster ≢ Some host)

-- a roster within the limits, with a member
abbrev pub IsGoodRoster : Roster → Type 0
IsGoodRoster roster = IsRoster roster × HasMember roster

-- Each roster succeeds the one after it in the list, down to the first; each is within the limits and has a member.
abbrev pub AreSuccessive : List Roster → Type 0
AreSuccessive [] = ⊤
AreSuccessive (new ∷ []) = (new.epoch ≡ 1) × IsGoodRoster new
AreSuccessive (new ∷ old ∷ older) = Succeeds old new × IsGoodRoster new × AreSuccessive (old ∷ older)

-- The rosters of a cluster: those that were written to each of their hosts, the newest first, and one that is being written.
pub record Rosters : Type 0 where
  pub finished : List Roster
  pub writing : Option Roster

abbrev pub listed_with : Option Roster → List Roster → List Roster
listed_with None finished = finished
listed_with (Some new) finished = new ∷ finished

-- all of them, the newest first
abbrev pub listed : Rosters → List Roster
listed rosters = listed_with rosters.writing rosters.finished

abbrev pub first_listed : List Roster → Option Roster
first_listed [] = None
first_listed (first ∷ others) = Some first

-- the one that all its hosts have, if there is one
abbrev pub last_finished : Rosters → Option Roster
last_finished rosters = first_listed rosters.finished

-- the last finished one, or the one being written
abbrev pub MayPass : Rosters → Roster → Type 0
MayPass rosters roster = (last_finished rosters ≡ Some roster) ⊎ (rosters.writing ≡ Some roster)

-- a host of the first roster of a list
abbrev pub IsInFirst : Host → List Roster → Type 0
IsInFirst host [] = ⊥
IsInFirst host (first ∷ others) = Contains first.hosts host

-- The roster is one of these, the newest first, and the host is recorded in it or in the one that it follows: such a host is
-- given the roster, and no other host is.
abbrev pub IsGivenTo : List Roster → Roster → Host → Type 0
IsGivenTo [] roster host = ⊥
IsGivenTo (new ∷ older) roster host = ((roster ≡ new) × (Contains new.hosts host ⊎ IsInFirst host older)) ⊎ IsGivenTo older roster host

-- What each host may show while these are the rosters.
pub record KeepsRosters (rosters : Rosters) (sights : Sights) : Type 0 where
  pub successive : AreSuccessive (listed rosters)
  -- no host shows another roster, nor one that wasn't given to it
  pub known : (host : Host) (roster : Roster) → MayShow sights host (Some roster) → IsGivenTo (listed rosters) roster host
  -- a host of a finished roster shows none from before it
  pub onward : (past roster : Roster) (host : Host) → Contains rosters.finished past → Contains past.hosts host → MayShow sights host (Some roster) → past.epoch ≤ roster.epoch
  -- a host of the last finished one shows a roster
  pub shows : (last : Roster) (host : Host) → last_finished rosters ≡ Some last → Contains last.hosts host → MayShow sights host None → ⊥
  -- a host that isn't of the last finished one shows the one being written only where all that are show it
  pub in_order : (last new : Roster) (host other : Host) (shown : Option Roster) → last_finished rosters ≡ Some last → rosters.writing ≡ Some new
      → ¬ Contains last.hosts host → MayShow sights host (Some new) → Contains last.hosts other → MayShow sights other shown → shown ≡ Some new

-- The roster being written may be written to this host now: to one of the last finished roster, and, once all of these show it
-- and nothing else, to the one that joins. The first roster may be written to each of its hosts.
pub record IsNextHost (rosters : Rosters) (sights : Sights) (new : Roster) (host : Host) : Type 0 where
  pub given : Contains new.hosts host ⊎ IsInFirst host rosters.finished
  pub turn : (last : Roster) → last_finished rosters ≡ Some last
      → Contains last.hosts host ⊎ ((other : Host) (shown : Option Roster) → Contains last.hosts other → MayShow sights other shown → shown ≡ Some new)

-- no host may show more than before
abbrev pub ShowsNoMore : Sights → Sights → Type 0
ShowsNoMore old new = (host : Host) (shown : Option Roster) → MayShow new host shown → MayShow old host shown

-- one host may show this too, and no other shows more
abbrev pub ShowsAlso : Host → Option Roster → Sights → Sights → Type 0
ShowsAlso host more old new = (other : Host) (shown : Option Roster) → MayShow new other shown → MayShow old other shown ⊎ ((other ≡ host) × (shown ≡ more))

-- each host of the roster shows it and nothing else
abbrev pub IsShownByAll : Sights → Roster → Type 0
IsShownByAll sights roster = (host : Host) (shown : Option Roster) → Contains roster.hosts host → MayShow sights host shown → shown ≡ Some roster

-- none is being written
abbrev pub without_writing : Rosters → Rosters
without_writing rosters = record { finished = rosters.finished; writing = None }
