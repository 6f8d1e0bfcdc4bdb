use Rattle.std.proofs.Common.{arith}
use Rattle.cluster_cli.proofs.SiteLemmas.{restarted_back, one_back}
use Rattle.cluster_cli.proofs.run.restarted.Goals as goal

pub returns-clause-restarted : goal.returns-clause-restarted
returns-clause-restarted g c =
    restarted_back g.D.Disk.view c.args.disks.items c.as_mut_slice.result.now c.restart_lane.new.disks c.args.disks.len (omega (arith, c.args.disks.ok.0)) c.as_mut_slice.ensures.value c.requires.one c.restart_lane.ensures.one
    c.restart_lane.ensures.restarted

pub returns-clause-one : goal.returns-clause-one
returns-clause-one g c =
    one_back g.D.Disk.view c.args.disks.items c.as_mut_slice.result.now c.restart_lane.new.disks c.args.disks.len (omega (arith, c.args.disks.ok.0)) c.as_mut_slice.ensures.value c.requires.one c.restart_lane.ensures.one
