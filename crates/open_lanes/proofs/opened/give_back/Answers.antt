use Rattle.std.proofs.Common.{◌++◌, ◌∷◌, reverse, arith}
use Rattle.open_lanes.specs.Opened.{lanes_of_kept}
use Rattle.site_disks.specs.SiteDisks.{disks_in_lanes}
use Rattle.open_lanes.proofs.WayLemmas.{all_back}
use Rattle.open_lanes.proofs.opened.give_back.Goals as goal

pub returns : goal.returns
returns g c =
    let none = rw c.in_default.is at c.pop.ensures.cases in
    all_back c.loop-last.kept.items c.loop-last.lanes.items c.reverse.new.self.items (lanes_of_kept c.args.kept.items ++ c.args.disks.items ∷ reverse (disks_in_lanes c.args.lanes.items)) (omega (arith, none.0)) c.loop-last.invariant.joined c.reverse.ensures.items
