use Rattle.std.proofs.Common.{take}
use Rattle.newest_store.proofs.ChoiceLemmas.{SoFar}
use Rattle.newest_store.proofs.choice.newest.Given as goal

abbrev pub invariant-loop-host : goal.invariant-loop-host
invariant-loop-host g l = SoFar g.D.Disk.view l.fn.disks l.disks (take l.host-index l.hosts) l.best
