use Rattle.std.proofs.Common.{take}
use Rattle.std.specs.Prelude.{Contains}
use Rattle.partition_cell.specs.Older.{AreFreed}
use Rattle.partition_cell.proofs.older.erase_older.Given as goal

abbrev pub invariant-loop-host : goal.invariant-loop-host
invariant-loop-host g l = AreFreed g.D.Disk.view l.hosts l.newest.host l.newest.file (λ h f. Contains (take l.host-index l.hosts) h) l.fn.disks l.disks l.board
