use Rattle.disk_lane.proofs.LaneLemmas.{events_joined}
use Rattle.disk_lane.proofs.laws.events_of_a_host_are_one.Goals as goal

pub returns : goal.returns
returns g c host first second =
    events_joined g.D.Disk.view c.args.before.now c.args.between.now c.args.after.now host (g.P.LaneProperty.holds c.args.property.now) first second
