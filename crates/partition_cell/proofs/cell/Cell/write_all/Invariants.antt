use Rattle.std.proofs.Common.{◌≡◌, Some}
use Rattle.partition_cell.specs.declared.moving.Moving.{Moving}
use Rattle.disk_lane.specs.Lanes.{LaneEvent}
use Rattle.partition_cell.specs.Beyond.{OthersStay}
use Rattle.partition_cell.specs.Cells.{Surviving, BuildGoesOn, caches_of, left_in}
use Rattle.partition_cell.proofs.cell.Cell.write_all.Given as goal

abbrev pub invariant-records : goal.invariant-records
invariant-records g l = record {
  moving : (moving : Moving) × (l.self.moving ≡ Some moving);
  kept : l.self ≡ record l.initial.self { disks = l.self.disks; moving = l.self.moving };
  goes : BuildGoesOn l.initial.self.moving l.self.moving;
  event : (old : Moving) → l.initial.self.moving ≡ Some old → LaneEvent g.D.Disk.view old.host l.initial.self.disks l.self.disks (Surviving l.initial.self);
  others : (old : Moving) → l.initial.self.moving ≡ Some old → OthersStay g.D.Disk.view old.host l.initial.self.disks l.self.disks;
}

abbrev pub decreases-records : goal.decreases-records
decreases-records g l = left_in (caches_of l.self) l.self.moving
