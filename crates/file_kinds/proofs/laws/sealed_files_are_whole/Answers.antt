use Rattle.slot_board.specs.Slots.{slot_at}
use Rattle.file_kinds.proofs.KindLemmas.{sealed_whole}
use Rattle.file_kinds.proofs.SurviveLemmas.{lane_fits}
use Rattle.file_kinds.proofs.laws.sealed_files_are_whole.Goals as goal

pub returns : goal.returns
returns g c board number changes flight many all ms is host file recorded le sealed =
    sealed_whole number changes flight (slot_at board host file).kind (slot_at board host file).version (ms host file)
    (lane_fits g.D.Disk.view c.args.disks.now board number changes flight many all ms is host file recorded.there le)
    sealed (recorded.known file le)
