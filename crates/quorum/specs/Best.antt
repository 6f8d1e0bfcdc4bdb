-- Which of the rosters that the present hosts show is the best, said without going from host to host.
use Rattle.std.specs.Prelude.{◌≡◌, ◌<◌, ◌≤◌, List, ◌∷◌, ◌++◌, Some, Contains}
use Rattle.roster_form.specs.Choice.{Sighting}
use Rattle.roster_form.specs.declared.roster.Roster.{Roster}

-- A host shows this roster; those before it show none or earlier ones, and those after it none that is later: so it has the
-- greatest epoch, and of those with that epoch it is the first host's.
pub record IsBest (sightings : List Sighting) (roster : Roster) : Type 0 where
  pub before : List Sighting
  pub first : Sighting
  pub after : List Sighting
  pub place : sightings ≡ before ++ first ∷ after
  pub shown : first.shown ≡ Some roster
  pub earlier : (each : Sighting) (other : Roster) → Contains before each → each.shown ≡ Some other → other.epoch < roster.epoch
  pub no_later : (each : Sighting) (other : Roster) → Contains after each → each.shown ≡ Some other → other.epoch ≤ roster.epoch
