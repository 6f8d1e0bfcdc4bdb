use Rattle.std.proofs.Common.{◌≡◌, ◌++◌, drop}
use Rattle.roster_form.specs.Choice.{missing_hosts}
use Rattle.quorum.specs.Judged.{sightings_of}
use Rattle.quorum.proofs.judge.missing.Given as goal

-- the missing hosts so far, and those of the rest
abbrev pub invariant-loop-host : goal.invariant-loop-host
invariant-loop-host l = l.missing ++ missing_hosts l.roster (sightings_of l.found l.present) (drop l.host-index l.roster.hosts) ≡ missing_hosts l.roster (sightings_of l.found l.present) l.roster.hosts
