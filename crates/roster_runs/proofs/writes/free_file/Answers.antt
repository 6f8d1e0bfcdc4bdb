use Rattle.roster_runs.proofs.WritesLemmas.{found_is_ready}
use Rattle.roster_runs.proofs.writes.free_file.Goals as goal

pub returns-clause-ready : goal.returns-clause-ready
returns-clause-ready g c =
    found_is_ready (g.D.Disk.view c.restart.new.self) (g.D.Disk.view c.file_to_write.new.disk) c.file_to_write.result c.expect.result c.args.text.now c.expect.ensures c.file_to_write.ensures.ready
    (c.restart.ensures.tells c.requires) c.restart.ensures.durable
