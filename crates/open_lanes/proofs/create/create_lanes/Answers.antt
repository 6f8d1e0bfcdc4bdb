use Rattle.std.proofs.Common.{◌≡◌, ℕ, length, sym, ◌∙◌, ap, subst, arith}
use Rattle.site_disks.specs.SiteDisks.{disks_in_lanes}
use Rattle.open_lanes.specs.Opened.{IsFirstKept, MakesLane, IsMakingRefusal}
use Rattle.open_lanes.proofs.PlacesLemmas.{map_reversed}
use Rattle.open_lanes.proofs.WayLemmas.{no_element, none_begun, one_more, next_there, popped_lane, none_left}
use Rattle.open_lanes.proofs.MadeLemmas.{IsMadeFrom, all_made, each_made, made_back, making_refused}
use Rattle.open_lanes.proofs.create.create_lanes.Goals as goal

pub loop-disks-init : goal.loop-disks-init
loop-disks-init g c = record {
  way =
      none_begun (IsMadeFrom g.D.Disk.view c.args.partitions c.args.host) (disks_in_lanes c.args.lanes.items) (disks_in_lanes c.reverse.new.self.items) c.in-Ok.kept.items
      (ap disks_in_lanes c.reverse.ensures.items ∙ map_reversed (λ lane. lane.disks.items) c.args.lanes.items)
      (omega (arith, c.in-Ok.ensures.len));
  number = omega (arith, c.in-Ok.ensures.len);
  room = omega (arith, c.in-Ok.ensures.exact);
  room_back = omega arith;
}

pub create_lane-requires-clause-host : goal.create_lane-requires-clause-host
create_lane-requires-clause-host g c =
    (c.requires.disks (length c.loop-disks.kept.items) c.in-Some.field-0.disks.items
    (next_there (IsMadeFrom g.D.Disk.view c.args.partitions c.args.host) _ _ (disks_in_lanes c.pop.new.self.items) c.loop-disks.kept.items c.loop-disks.invariant.way c.in-Some.field-0.disks.items (popped_lane c.loop-disks.lanes.items c.pop.new.self.items c.pop.result c.in-Some.field-0 c.pop.ensures.items c.in-Some.is))).0

pub create_lane-requires-clause-few : goal.create_lane-requires-clause-few
create_lane-requires-clause-few g c =
    (c.requires.disks (length c.loop-disks.kept.items) c.in-Some.field-0.disks.items
    (next_there (IsMadeFrom g.D.Disk.view c.args.partitions c.args.host) _ _ (disks_in_lanes c.pop.new.self.items) c.loop-disks.kept.items c.loop-disks.invariant.way c.in-Some.field-0.disks.items (popped_lane c.loop-disks.lanes.items c.pop.new.self.items c.pop.result c.in-Some.field-0 c.pop.ensures.items c.in-Some.is))).1

pub create_lane-requires-clause-settled : goal.create_lane-requires-clause-settled
create_lane-requires-clause-settled g c disk =
    c.requires.settled (length c.loop-disks.kept.items) c.in-Some.field-0.disks.items disk
    (next_there (IsMadeFrom g.D.Disk.view c.args.partitions c.args.host) _ _ (disks_in_lanes c.pop.new.self.items) c.loop-disks.kept.items c.loop-disks.invariant.way c.in-Some.field-0.disks.items (popped_lane c.loop-disks.lanes.items c.pop.new.self.items c.pop.result c.in-Some.field-0 c.pop.ensures.items c.in-Some.is))

pub loop-disks-preserved : goal.loop-disks-preserved
loop-disks-preserved g c =
    let place : c.len-partition.result ≡ length c.loop-disks.kept.items = omega arith in
    let fewer = rw c.in-Some.is at c.pop.ensures.cases in
    record {
      way =
          one_more (IsMadeFrom g.D.Disk.view c.args.partitions c.args.host) (disks_in_lanes c.args.lanes.items) (disks_in_lanes c.loop-disks.lanes.items) (disks_in_lanes c.pop.new.self.items) c.loop-disks.kept.items c.loop-disks.invariant.way
          c.in-Some.field-0.disks.items (popped_lane c.loop-disks.lanes.items c.pop.new.self.items c.pop.result c.in-Some.field-0 c.pop.ensures.items c.in-Some.is)
          c.push_reserved.new.self.items c.in-Ok-create_lane.cell c.push_reserved.ensures.items
          (record {
            first = subst (λ (p : ℕ). IsFirstKept g.D.Disk.view c.args.host p c.args.partitions c.in-Ok-create_lane.cell) place c.in-Ok-create_lane.ensures.made;
            event = subst (λ (p : ℕ). MakesLane g.D.Disk.view c.args.partitions c.args.host p c.in-Some.field-0.disks.items c.in-Ok-create_lane.cell.cell.disks) place c.in-Ok-create_lane.ensures.event;
          });
      number = omega (arith, fewer);
      room = omega arith;
      room_back = omega arith;
    }

pub returns-in-Err-create_lane-clause-back : goal.returns-in-Err-create_lane-clause-back
returns-in-Err-create_lane-clause-back g c =
    let place : c.len-partition.result ≡ length c.loop-disks.kept.items = omega arith in
    made_back g.D.Disk.view c.args.partitions c.args.host (disks_in_lanes c.args.lanes.items) (disks_in_lanes c.loop-disks.lanes.items) c.loop-disks.kept.items c.loop-disks.invariant.way
    (disks_in_lanes c.pop.new.self.items) c.in-Some.field-0.disks.items (popped_lane c.loop-disks.lanes.items c.pop.new.self.items c.pop.result c.in-Some.field-0 c.pop.ensures.items c.in-Some.is)
    (disks_in_lanes c.give_back.result.items) c.in-Err-create_lane.disks.items c.give_back.ensures
    (subst (λ (p : ℕ). MakesLane g.D.Disk.view c.args.partitions c.args.host p c.in-Some.field-0.disks.items c.in-Err-create_lane.disks.items) place c.in-Err-create_lane.ensures.back)

pub returns-in-Err-create_lane-clause-refused : goal.returns-in-Err-create_lane-clause-refused
returns-in-Err-create_lane-clause-refused g c =
    let place : c.len-partition.result ≡ length c.loop-disks.kept.items = omega arith in
    subst (λ (p : ℕ). IsMakingRefusal g.D.Disk.view c.args.host (disks_in_lanes c.args.lanes.items) (disks_in_lanes c.give_back.result.items) p c.in-Err-create_lane.refusal) (sym place)
    (making_refused g.D.Disk.view c.args.partitions c.args.host (disks_in_lanes c.args.lanes.items) (disks_in_lanes c.loop-disks.lanes.items) c.loop-disks.kept.items c.loop-disks.invariant.way
    (disks_in_lanes c.pop.new.self.items) c.in-Some.field-0.disks.items (popped_lane c.loop-disks.lanes.items c.pop.new.self.items c.pop.result c.in-Some.field-0 c.pop.ensures.items c.in-Some.is)
    (disks_in_lanes c.give_back.result.items) c.in-Err-create_lane.disks.items c.give_back.ensures
    c.in-Err-create_lane.refusal c.in-Err-create_lane.ensures.fault)

pub returns-clause-made : goal.returns-clause-made
returns-clause-made g c =
    let none = rw c.in_default.is at c.pop.ensures.cases in
    record {
      number = omega (arith, none.0);
      each = each_made g.D.Disk.view c.args.partitions c.args.host (disks_in_lanes c.args.lanes.items) (disks_in_lanes c.loop-disks.lanes.items) c.loop-disks.kept.items c.loop-disks.invariant.way (none_left c.loop-disks.lanes.items (omega (arith, none.0)));
      emptied = no_element c.pop.new.self.items (omega (arith, none.1));
      room = omega arith;
    }

pub returns-clause-lanes : goal.returns-clause-lanes
returns-clause-lanes g c =
    let none = rw c.in_default.is at c.pop.ensures.cases in
    all_made g.D.Disk.view c.args.partitions c.args.host (disks_in_lanes c.args.lanes.items) (disks_in_lanes c.loop-disks.lanes.items) c.loop-disks.kept.items c.loop-disks.invariant.way (none_left c.loop-disks.lanes.items (omega (arith, none.0)))
