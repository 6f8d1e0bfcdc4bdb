use Rattle.std.proofs.Common.{◌≡◌, ◌≤◌, ◌++◌, ◌∷◌, [], ℕ, List, length, reverse, vec_capacity, refl, sym, ◌∙◌, ap, subst, arith}
use Rattle.file_kinds.specs.Kinds.{PartitionNumber}
use Rattle.partition_cell.specs.Loaded.{IsLoadRefusal, KeepsNewest, StandsThroughout, ErasesBesideNewest}
use Rattle.site_disks.specs.SiteDisks.{disks_in_lanes}
use Rattle.open_lanes.specs.Opened.{IsLoadedKept, IsLoadingRefusal, AreLoadedBefore, lanes_of_kept}
use Rattle.open_lanes.proofs.PlacesLemmas.{map_reversed}
use Rattle.open_lanes.proofs.WayLemmas.{no_element, none_begun, one_more, next_there, popped_lane, none_left}
use Rattle.open_lanes.proofs.LoadedLemmas.{IsLoadedFrom, none_stood, all_kept, each_loaded, kept_back, stand_back, loaded_before, loading_refused}
use Rattle.open_lanes.proofs.load.load_lanes.Goals as goal

pub loop-disks-init : goal.loop-disks-init
loop-disks-init g c = record {
  way =
      none_begun (IsLoadedFrom g.D.Disk.view c.args.hosts.now c.args.partitions) (disks_in_lanes c.args.lanes.items) (disks_in_lanes c.reverse.new.self.items) c.in-Ok.kept.items
      (ap disks_in_lanes c.reverse.ensures.items ∙ map_reversed (λ lane. lane.disks.items) c.args.lanes.items)
      (omega (arith, c.in-Ok.ensures.len));
  number = omega (arith, c.in-Ok.ensures.len);
  room = omega (arith, c.in-Ok.ensures.exact);
  room_back = omega arith;
}

pub load_lane-requires-clause-hosts : goal.load_lane-requires-clause-hosts
load_lane-requires-clause-hosts g c = (c.requires.disks (length c.loop-disks.kept.items) c.in-Some.field-0.disks.items (next_there (IsLoadedFrom g.D.Disk.view c.args.hosts.now c.args.partitions) (disks_in_lanes c.args.lanes.items) (disks_in_lanes c.loop-disks.lanes.items) (disks_in_lanes c.pop.new.self.items) c.loop-disks.kept.items c.loop-disks.invariant.way c.in-Some.field-0.disks.items (popped_lane c.loop-disks.lanes.items c.pop.new.self.items c.pop.result c.in-Some.field-0 c.pop.ensures.items c.in-Some.is))).0

pub load_lane-requires-clause-few : goal.load_lane-requires-clause-few
load_lane-requires-clause-few g c = (c.requires.disks (length c.loop-disks.kept.items) c.in-Some.field-0.disks.items (next_there (IsLoadedFrom g.D.Disk.view c.args.hosts.now c.args.partitions) (disks_in_lanes c.args.lanes.items) (disks_in_lanes c.loop-disks.lanes.items) (disks_in_lanes c.pop.new.self.items) c.loop-disks.kept.items c.loop-disks.invariant.way c.in-Some.field-0.disks.items (popped_lane c.loop-disks.lanes.items c.pop.new.self.items c.pop.result c.in-Some.field-0 c.pop.ensures.items c.in-Some.is))).1

pub load_lane-requires-clause-settled : goal.load_lane-requires-clause-settled
load_lane-requires-clause-settled g c h f disk listed le on = c.requires.settled (length c.loop-disks.kept.items) h c.in-Some.field-0.disks.items disk (next_there (IsLoadedFrom g.D.Disk.view c.args.hosts.now c.args.partitions) (disks_in_lanes c.args.lanes.items) (disks_in_lanes c.loop-disks.lanes.items) (disks_in_lanes c.pop.new.self.items) c.loop-disks.kept.items c.loop-disks.invariant.way c.in-Some.field-0.disks.items (popped_lane c.loop-disks.lanes.items c.pop.new.self.items c.pop.result c.in-Some.field-0 c.pop.ensures.items c.in-Some.is)) listed on f le

pub loop-disks-preserved : goal.loop-disks-preserved
loop-disks-preserved g c =
    let place : c.len-partition.result ≡ length c.loop-disks.kept.items = omega arith in
    let fewer = rw c.in-Some.is at c.pop.ensures.cases in
    record {
      way =
          one_more (IsLoadedFrom g.D.Disk.view c.args.hosts.now c.args.partitions) (disks_in_lanes c.args.lanes.items) (disks_in_lanes c.loop-disks.lanes.items) (disks_in_lanes c.pop.new.self.items) c.loop-disks.kept.items c.loop-disks.invariant.way
          c.in-Some.field-0.disks.items (popped_lane c.loop-disks.lanes.items c.pop.new.self.items c.pop.result c.in-Some.field-0 c.pop.ensures.items c.in-Some.is)
          c.push_reserved.new.self.items c.in-Ok-load_lane.cell c.push_reserved.ensures.items
          (record {
            loaded = subst (λ (p : ℕ). IsLoadedKept g.D.Disk.view c.args.hosts.now (record { partition = p; partitions = c.args.partitions }) c.in-Some.field-0.disks.items c.in-Ok-load_lane.cell) place c.in-Ok-load_lane.ensures.loaded;
            beside = subst (λ (p : ℕ). ErasesBesideNewest g.D.Disk.view c.args.hosts.now (record { partition = p; partitions = c.args.partitions }) c.in-Some.field-0.disks.items c.in-Ok-load_lane.cell.cell.disks) place c.in-Ok-load_lane.ensures.beside;
          });
      number = omega (arith, fewer);
      room = omega arith;
      room_back = omega arith;
    }

pub returns-in-Err-load_lane-clause-back : goal.returns-in-Err-load_lane-clause-back
returns-in-Err-load_lane-clause-back g c =
    let place : c.len-partition.result ≡ length c.loop-disks.kept.items = omega arith in
    kept_back g.D.Disk.view c.args.hosts.now c.args.partitions (disks_in_lanes c.args.lanes.items) (disks_in_lanes c.loop-disks.lanes.items) c.loop-disks.kept.items c.loop-disks.invariant.way
    (disks_in_lanes c.pop.new.self.items) c.in-Some.field-0.disks.items (popped_lane c.loop-disks.lanes.items c.pop.new.self.items c.pop.result c.in-Some.field-0 c.pop.ensures.items c.in-Some.is)
    (disks_in_lanes c.give_back.result.items) c.in-Err-load_lane.disks.items c.give_back.ensures
    (subst (λ (p : ℕ). KeepsNewest g.D.Disk.view c.args.hosts.now (record { partition = p; partitions = c.args.partitions }) c.in-Some.field-0.disks.items c.in-Err-load_lane.disks.items) place c.in-Err-load_lane.ensures.kept)

pub returns-in-Err-load_lane-clause-stands : goal.returns-in-Err-load_lane-clause-stands
returns-in-Err-load_lane-clause-stands g c =
    let place : c.len-partition.result ≡ length c.loop-disks.kept.items = omega arith in
    stand_back g.D.Disk.view c.args.hosts.now c.args.partitions (disks_in_lanes c.args.lanes.items) (disks_in_lanes c.loop-disks.lanes.items) c.loop-disks.kept.items c.loop-disks.invariant.way
    (disks_in_lanes c.pop.new.self.items) c.in-Some.field-0.disks.items (popped_lane c.loop-disks.lanes.items c.pop.new.self.items c.pop.result c.in-Some.field-0 c.pop.ensures.items c.in-Some.is)
    (disks_in_lanes c.give_back.result.items) c.in-Err-load_lane.disks.items c.give_back.ensures
    (λ p lane was. (c.requires.disks p lane was).0) c.requires.settled
    (subst (λ (p : ℕ). StandsThroughout g.D.Disk.view c.args.hosts.now (record { partition = p; partitions = c.args.partitions }) c.in-Some.field-0.disks.items c.in-Err-load_lane.disks.items) place c.in-Err-load_lane.ensures.stands)

pub returns-in-Err-load_lane-clause-refused : goal.returns-in-Err-load_lane-clause-refused
returns-in-Err-load_lane-clause-refused g c =
    let place : c.len-partition.result ≡ length c.loop-disks.kept.items = omega arith in
    subst (λ (p : ℕ). IsLoadingRefusal g.D.Disk.view c.args.hosts.now c.args.partitions (disks_in_lanes c.args.lanes.items) (disks_in_lanes c.give_back.result.items) p c.in-Err-load_lane.refusal) (sym place)
    (loading_refused g.D.Disk.view c.args.hosts.now c.args.partitions (disks_in_lanes c.args.lanes.items) (disks_in_lanes c.loop-disks.lanes.items) c.loop-disks.kept.items c.loop-disks.invariant.way
    (disks_in_lanes c.pop.new.self.items) c.in-Some.field-0.disks.items (popped_lane c.loop-disks.lanes.items c.pop.new.self.items c.pop.result c.in-Some.field-0 c.pop.ensures.items c.in-Some.is)
    (disks_in_lanes c.give_back.result.items) c.in-Err-load_lane.disks.items c.give_back.ensures
    c.in-Err-load_lane.refusal
    (subst (λ (p : ℕ). IsLoadRefusal g.D.Disk.view c.args.hosts.now (record { partition = p; partitions = c.args.partitions }) c.in-Some.field-0.disks.items c.in-Err-load_lane.disks.items c.in-Err-load_lane.refusal) place c.in-Err-load_lane.ensures.refused))

pub returns-in-Err-load_lane-clause-before : goal.returns-in-Err-load_lane-clause-before
returns-in-Err-load_lane-clause-before g c =
    let place : c.len-partition.result ≡ length c.loop-disks.kept.items = omega arith in
    subst (λ (p : ℕ). AreLoadedBefore g.D.Disk.view c.args.hosts.now c.args.partitions p (disks_in_lanes c.args.lanes.items) (disks_in_lanes c.give_back.result.items)) (sym place)
    (loaded_before g.D.Disk.view c.args.hosts.now c.args.partitions (disks_in_lanes c.args.lanes.items) (disks_in_lanes c.loop-disks.lanes.items) c.loop-disks.kept.items c.loop-disks.invariant.way
    (disks_in_lanes c.pop.new.self.items) c.in-Some.field-0.disks.items (popped_lane c.loop-disks.lanes.items c.pop.new.self.items c.pop.result c.in-Some.field-0 c.pop.ensures.items c.in-Some.is)
    (disks_in_lanes c.give_back.result.items) c.in-Err-load_lane.disks.items c.give_back.ensures)

pub returns-clause-loaded : goal.returns-clause-loaded
returns-clause-loaded g c =
    let none = rw c.in_default.is at c.pop.ensures.cases in
    record {
      number = omega (arith, none.0);
      each = each_loaded g.D.Disk.view c.args.hosts.now c.args.partitions (disks_in_lanes c.args.lanes.items) (disks_in_lanes c.loop-disks.lanes.items) c.loop-disks.kept.items c.loop-disks.invariant.way (none_left c.loop-disks.lanes.items (omega (arith, none.0)));
      emptied = no_element c.pop.new.self.items (omega (arith, none.1));
      room = omega arith;
    }

pub returns-clause-kept : goal.returns-clause-kept
returns-clause-kept g c =
    let none = rw c.in_default.is at c.pop.ensures.cases in
    all_kept g.D.Disk.view c.args.hosts.now c.args.partitions (disks_in_lanes c.args.lanes.items) (disks_in_lanes c.loop-disks.lanes.items) c.loop-disks.kept.items c.loop-disks.invariant.way (none_left c.loop-disks.lanes.items (omega (arith, none.0)))

pub returns-in-Err-clause-stands : goal.returns-in-Err-clause-stands
returns-in-Err-clause-stands g c = none_stood g.D.Disk.view c.args.hosts.now c.args.partitions (disks_in_lanes c.args.lanes.items) (λ p lane was. (c.requires.disks p lane was).0) c.requires.settled
