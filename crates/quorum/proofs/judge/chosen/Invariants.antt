use Rattle.std.proofs.Common.{◌≡◌, List, length, drop}
use Rattle.std.specs.Option.{option_copied}
use Rattle.roster_form.specs.Membership.{Host}
use Rattle.roster_form.specs.Choice.{later_of, chosen_roster}
use Rattle.quorum.specs.Judged.{sightings_of}
use Rattle.quorum.proofs.judge.chosen.Given as goal

-- the choice so far, and that of the rest
abbrev pub invariant-loop-each : goal.invariant-loop-each
invariant-loop-each l = (hosts : List Host) → length l.found ≡ length hosts
    → later_of (option_copied l.chosen) (chosen_roster (sightings_of (drop l.each-index l.found) (drop l.each-index hosts))) ≡ chosen_roster (sightings_of l.found hosts)
