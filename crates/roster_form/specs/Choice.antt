-- Which roster is chosen of those that the present hosts show, and whether its hosts are back.
use Rattle.std.specs.Prelude.{◌≡◌, nat_lt, List, [], ◌∷◌, Option, Some, None, is_some, Bool, false, ◌&&◌, ◌||◌, IsTrue, if◌then◌else◌, Contains}
use Rattle.cache_model.specs.Caches.{same}
use Rattle.roster_form.specs.Membership.{Host, joining_host}
use Rattle.roster_form.specs.declared.roster.Roster.{Roster}

-- a host that is present, and the roster that it shows, if any
pub record Sighting : Type 0 where
  pub host : Host
  pub shown : Option Roster

-- of two rosters the one of greater epoch, and of the same epoch the first
abbrev pub later_of : Option Roster → Option Roster → Option Roster
later_of None other = other
later_of (Some first) None = Some first
later_of (Some first) (Some second) = if nat_lt first.epoch second.epoch then Some second else Some first

-- the roster of greatest epoch that a present host shows, and where several show that epoch the one of the first host
abbrev pub chosen_roster : List Sighting → Option Roster
chosen_roster [] = None
chosen_roster (sighting ∷ others) = later_of sighting.shown (chosen_roster others)

-- the host is the one that is joining
abbrev pub is_host : Option Host → Host → Bool
is_host None host = false
is_host (Some joining) host = same joining host

-- the host is present, and shows a roster or is the one that is joining
abbrev pub is_back : Roster → List Sighting → Host → Bool
is_back roster [] host = false
is_back roster (sighting ∷ others) host = (same sighting.host host && (is_some sighting.shown || is_host (joining_host roster) host)) || is_back roster others host

-- those of the hosts that aren't back, in their order
abbrev pub missing_hosts : Roster → List Sighting → List Host → List Host
missing_hosts roster sightings [] = []
missing_hosts roster sightings (host ∷ hosts) = if is_back roster sightings host then missing_hosts roster sightings hosts else host ∷ missing_hosts roster sightings hosts

-- the present hosts may open the cluster by this roster: it is the chosen one, and each of its hosts is back
pub record MayOpenBy (sightings : List Sighting) (roster : Roster) : Type 0 where
  pub chosen : chosen_roster sightings ≡ Some roster
  pub back : (host : Host) → Contains roster.hosts host → IsTrue (is_back roster sightings host)
