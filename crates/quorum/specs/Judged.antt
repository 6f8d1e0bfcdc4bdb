-- What follows from the rosters that the present hosts show.
use Rattle.std.specs.Prelude.{◌≡◌, ℕ, List, [], ◌∷◌, Option, Some, None}
use Rattle.roster_form.specs.Membership.{Host}
use Rattle.roster_form.specs.Choice.{Sighting, chosen_roster, missing_hosts, MayOpenBy}
use Rattle.roster_form.specs.declared.roster.Roster.{Roster}
use Rattle.roster_book.specs.declared.found.Found.{Found}
use Rattle.quorum.specs.declared.verdict.Verdict.{Verdict}
use Rattle.quorum.specs.declared.verdict.Verdict.TheVariants.{Met, Short, NotCreated}

-- what was found at each of these hosts, in their order, as a sighting of it
abbrev pub sightings_of : List Found → List Host → List Sighting
sightings_of [] hosts = []
sightings_of (found ∷ others) [] = []
sightings_of (found ∷ others) (host ∷ hosts) = record { host = host; shown = found.roster } ∷ sightings_of others hosts

-- met, unless some hosts are missing
abbrev pub verdict_with : Roster → List Host → Verdict
verdict_with roster [] = Met roster.epoch roster.hosts
verdict_with roster (host ∷ hosts) = Short (host ∷ hosts)

abbrev pub verdict_by : Option Roster → List Sighting → Verdict
verdict_by None sightings = NotCreated
verdict_by (Some roster) sightings = verdict_with roster (missing_hosts roster sightings roster.hosts)

-- the verdict on the present hosts
abbrev pub verdict_of : List Sighting → Verdict
verdict_of sightings = verdict_by (chosen_roster sightings) sightings

-- the present hosts may open the cluster by a roster of this epoch with these hosts
abbrev pub MayOpenAs : List Sighting → ℕ → List Host → Type 0
MayOpenAs sightings epoch hosts = (roster : Roster) × MayOpenBy sightings roster × (roster.epoch ≡ epoch) × (roster.hosts ≡ hosts)
