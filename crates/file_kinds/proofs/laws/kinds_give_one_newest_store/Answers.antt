use Rattle.file_kinds.proofs.SurviveLemmas.{survive, lane_fits}
use Rattle.file_kinds.proofs.laws.kinds_give_one_newest_store.Goals as goal

pub returns : goal.returns
returns g c board owner file number changes flight many ordered all ms is hosts recorded =
    survive board owner file number changes flight ms ordered
    (lane_fits g.D.Disk.view c.args.disks.now board number changes flight many all ms is) hosts recorded
