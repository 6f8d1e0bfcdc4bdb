use Rattle.std.proofs.Common.{◌≡◌, ◌≤◌, ◌+◌, length, vec_capacity}
use Rattle.site_disks.specs.SiteDisks.{disks_in_lanes}
use Rattle.open_lanes.proofs.WayLemmas.{IsPartWay}
use Rattle.open_lanes.proofs.MadeLemmas.{IsMadeFrom}
use Rattle.open_lanes.proofs.create.create_lanes.Given as goal

-- the first lanes have their cells, and the others are left
abbrev pub invariant-loop-disks : goal.invariant-loop-disks
invariant-loop-disks g l = record {
  way : IsPartWay (IsMadeFrom g.D.Disk.view l.fn.partitions l.fn.host) (disks_in_lanes l.fn.lanes.items) (disks_in_lanes l.lanes.items) l.kept.items;
  number : length l.kept.items + length l.lanes.items ≡ l.fn.partitions;
  room : l.fn.partitions ≤ vec_capacity l.kept;
  room_back : l.fn.partitions ≤ vec_capacity l.lanes;
}

abbrev pub decreases-loop-disks : goal.decreases-loop-disks
decreases-loop-disks g l = length l.lanes.items
