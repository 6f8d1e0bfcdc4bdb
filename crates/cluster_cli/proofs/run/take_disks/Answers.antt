use Rattle.std.proofs.Common.{◌++◌, sym, ◌∙◌, ap, arith, Option, option_to_list}
use Rattle.cluster_cli.specs.declared.site.Lane.{Lane}
use Rattle.cluster_cli.proofs.SiteLemmas.{popped_item, popped_rest, lane_disks}
use Rattle.cluster_cli.proofs.run.take_disks.Goals as goal

pub returns-clause-taken : goal.returns-clause-taken
returns-clause-taken g c =
    popped_item c.args.lanes.now.items c.pop.new.self.items c.in-Some.lane
    (c.pop.ensures.items ∙ ap (λ (o : Option (Lane g.row.D.Denot)). c.pop.new.self.items ++ option_to_list o) c.in-Some.is) c.requires.lanes.lane_each

pub returns-clause-none : goal.returns-clause-none
returns-clause-none g c =
    popped_rest c.args.lanes.now.items c.pop.new.self.items c.in-Some.lane
    (c.pop.ensures.items ∙ ap (λ (o : Option (Lane g.row.D.Denot)). c.pop.new.self.items ++ option_to_list o) c.in-Some.is) c.requires.lanes.lane_each

pub returns-clause-one : goal.returns-clause-one
returns-clause-one g c =
    let one = lane_disks c.args.lanes.now.items c.in-Some.lane
    (popped_item c.args.lanes.now.items c.pop.new.self.items c.in-Some.lane
    (c.pop.ensures.items ∙ ap (λ (o : Option (Lane g.row.D.Denot)). c.pop.new.self.items ++ option_to_list o) c.in-Some.is) c.requires.lanes.lane_each) c.requires.lanes in
    omega (arith, one, c.in-Some.lane.disks.ok.0)
