use Rattle.std.proofs.Common.{◌≡◌, ◌≤◌, ◌+◌, ◌++◌, ◌∷◌, length, reverse, vec_capacity}
use Rattle.open_lanes.specs.Opened.{lanes_of_kept}
use Rattle.site_disks.specs.SiteDisks.{disks_in_lanes}
use Rattle.open_lanes.proofs.opened.give_back.Given as goal

-- the lanes of the cells that are left stand before those that are back, of which the last one came first
abbrev pub invariant-loop-last : goal.invariant-loop-last
invariant-loop-last g l = record {
  joined : lanes_of_kept l.kept.items ++ reverse (disks_in_lanes l.lanes.items) ≡ lanes_of_kept l.fn.kept.items ++ l.fn.disks.items ∷ reverse (disks_in_lanes l.fn.lanes.items);
  room : length l.kept.items + length l.lanes.items ≤ vec_capacity l.lanes;
}

abbrev pub decreases-loop-last : goal.decreases-loop-last
decreases-loop-last g l = length l.kept.items
