use Rattle.partition_cell.proofs.MakeLemmas.{making}
use Rattle.partition_cell.proofs.make.make_store.Goals as goal

pub returns-in_err-store-clause-moments : goal.returns-in_err-store-clause-moments
returns-in_err-store-clause-moments g c =
    making (g.D.Disk.view c.args.disk.now) (g.D.Disk.view c.clear_spare.new.disk) (g.D.Disk.view c.create.new.disk) c.args.header c.clear_spare.ensures.moments c.create.ensures.moments

pub returns-clause-moments : goal.returns-clause-moments
returns-clause-moments g c =
    making (g.D.Disk.view c.args.disk.now) (g.D.Disk.view c.clear_spare.new.disk) (g.D.Disk.view c.create.new.disk) c.args.header c.clear_spare.ensures.moments c.create.ensures.moments
