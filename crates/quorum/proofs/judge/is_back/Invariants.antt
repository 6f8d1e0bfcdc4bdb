use Rattle.std.proofs.Common.{◌≡◌, drop}
use Rattle.roster_form.specs.Choice.{is_back}
use Rattle.quorum.specs.Judged.{sightings_of}
use Rattle.quorum.proofs.judge.is_back.Given as goal

-- none of the hosts so far is the one
abbrev pub invariant-loop-index : goal.invariant-loop-index
invariant-loop-index l = is_back l.roster (sightings_of (drop l.index l.found) (drop l.index l.present)) l.host ≡ is_back l.roster (sightings_of l.found l.present) l.host
