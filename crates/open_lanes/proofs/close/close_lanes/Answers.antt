use Rattle.std.proofs.Common.{arith}
use Rattle.open_lanes.specs.Opened.{lanes_opened}
use Rattle.open_lanes.proofs.WayLemmas.{all_back}
use Rattle.open_lanes.proofs.close.close_lanes.Goals as goal

pub returns : goal.returns
returns g c =
    let none = rw c.in_default.is at c.pop.ensures.cases in
    all_back c.loop-last.kept.items c.loop-last.lanes.items c.reverse.new.self.items (lanes_opened c.args.opened) (omega (arith, none.0)) c.loop-last.invariant.joined c.reverse.ensures.items
