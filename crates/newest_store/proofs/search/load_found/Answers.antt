use Rattle.newest_store.proofs.SearchLemmas.{load_fails}
use Rattle.newest_store.proofs.search.load_found.Goals as goal

pub returns-in-Err-clause-refused : goal.returns-in-Err-clause-refused
returns-in-Err-clause-refused g c =
    rw c.fault_in.ensures (load_fails _ c.load.result (g.D.Disk.view c.args.disk.now) (g.D.Disk.view c.find_newest.new.disk) (g.D.Disk.view c.load.new.disk) _ _ _ _ c.in-Err.is c.find_newest.ensures.reads_only c.in_ok-file.ensures.one_of_two c.in_ok-file.ensures.newest c.in_ok-file.ensures.headed c.load.ensures.failed c.load.ensures.not_sealed c.load.ensures.damaged)
