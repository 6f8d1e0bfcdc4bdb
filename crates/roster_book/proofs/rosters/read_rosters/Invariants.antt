use Rattle.std.proofs.Common.{take}
use Rattle.roster_book.proofs.RostersLemmas.{FoundSoFar}
use Rattle.roster_book.proofs.rosters.read_rosters.Given as goal

-- what the hosts so far show
abbrev pub invariant-loop-host : goal.invariant-loop-host
invariant-loop-host g l = FoundSoFar g.D.Disk.view l.fn.services l.services l.partitions (take l.host-index l.hosts) l.found.items
