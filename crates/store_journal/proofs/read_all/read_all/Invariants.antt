use Rattle.std.proofs.Common.{◌≡◌, ◌≤◌, ◌-◌, length, take}
use Rattle.disk_trait.specs.View.{Tells}
use Rattle.store_journal.specs.Loading.{OnlyReads}
use Rattle.store_journal.proofs.read_all.read_all.Given as goal

-- what has been read so far
abbrev pub invariant-loop-offset : goal.invariant-loop-offset
invariant-loop-offset g l = record {
  within : l.offset ≤ l.length;
  long : length l.bytes.items ≡ l.length;
  so_far : Tells (g.D.Disk.view l.fn.disk) → take l.offset l.bytes.items ≡ take l.offset ((g.D.Disk.view l.fn.disk).seen l.file);
  reads : OnlyReads (g.D.Disk.view l.fn.disk) (g.D.Disk.view l.disk);
}

abbrev pub decreases-loop-offset : goal.decreases-loop-offset
decreases-loop-offset g l = l.length - l.offset
