use Rattle.disk_lane.proofs.LaneLemmas.{ends_so}
use Rattle.disk_lane.proofs.laws.an_event_ends_so.Goals as goal

pub returns : goal.returns
returns g c host event ms is = ends_so g.D.Disk.view c.args.before.now c.args.after.now host (g.P.LaneProperty.holds c.args.property.now) event ms is
