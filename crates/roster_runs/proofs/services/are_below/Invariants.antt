use Rattle.std.proofs.Common.{◌<◌, All, take}
use Rattle.roster_runs.proofs.services.are_below.Given as goal

-- each number so far is below the end
abbrev pub invariant-loop-number : goal.invariant-loop-number
invariant-loop-number l = All (λ number. number < l.end) (take l.number-index l.numbers)
