use Rattle.open_lanes.proofs.FirstLemmas.{first_kept}
use Rattle.open_lanes.proofs.create.create_lane.Goals as goal

pub returns-in-Ok-begin-clause-made : goal.returns-in-Ok-begin-clause-made
returns-in-Ok-begin-clause-made g c =
    first_kept g.D.Disk.view c.args.host c.args.partition c.args.partitions c.in-Ok-begin.kept c.in-Ok.cell c.cell.result.now c.in-Ok-begin.ensures.cell c.cell.ensures c.in-Ok.ensures.made c.in-Ok.ensures.lone
    c.in-Ok-begin.ensures.trail c.survives.ensures.recorded c.survives.ensures.current c.survives.ensures.lone
