use Rattle.std.proofs.Common.{◌-◌, [], ◌∷◌, ⊎_elim, subst, sym}
use Rattle.std.proofs.lemmas.Bool.{cases_eq}
use Rattle.seal_gate.specs.Seal.{IsSettled}
use Rattle.roster_book.proofs.OverLemmas.{ready_after, over_now, over_reads, over_moments, settled_after, settled_beside}
use Rattle.roster_book.proofs.over.write_over.Goals as goal

pub returns-in_err-file-clause-moments : goal.returns-in_err-file-clause-moments
returns-in_err-file-clause-moments g c = λ roster shown is shows earlier. over_reads _ _ roster shown c.requires.settled shows c.file_to_write.ensures.moments

pub write_roster-requires-clause-ready : goal.write_roster-requires-clause-ready
write_roster-requires-clause-ready g c = ready_after _ _ c.args.text.now c.in_ok-file.file c.file_to_write.ensures.reads_only c.in_ok-file.ensures.one_of_two c.in_ok-file.ensures.free c.requires.settled

pub returns-in-Ok-clause-written : goal.returns-in-Ok-clause-written
returns-in-Ok-clause-written g c = λ roster shown is shows earlier.
    c.in-Ok.ensures.written roster (shown ∷ []) is (over_now _ _ roster shown c.in_ok-file.file c.file_to_write.ensures.reads_only c.in_ok-file.ensures.one_of_two c.in_ok-file.ensures.free c.requires.settled shows earlier)

pub returns-in-Ok-clause-settled : goal.returns-in-Ok-clause-settled
returns-in-Ok-clause-settled g c = λ f within. ⊎_elim
    (λ e. subst (IsSettled (g.D.Disk.view c.write_roster.new.disk)) (sym e) c.in-Ok.ensures.settled)
    (λ ne. settled_beside (g.D.Disk.view c.file_to_write.new.disk) (g.D.Disk.view c.write_roster.new.disk) c.in_ok-file.file f ne c.write_roster.ensures.beside c.write_roster.ensures.others
    (settled_after (g.D.Disk.view c.args.disk.now) (g.D.Disk.view c.file_to_write.new.disk) c.file_to_write.ensures.reads_only c.requires.settled f within))
    (cases_eq f c.in_ok-file.file)

pub returns-in-Ok-clause-moments : goal.returns-in-Ok-clause-moments
returns-in-Ok-clause-moments g c = λ roster shown is shows earlier. over_moments _ _ _ roster shown c.in_ok-file.file c.requires.settled shows c.file_to_write.ensures.moments
    (c.write_roster.ensures.moments roster (shown ∷ []) is (over_now _ _ roster shown c.in_ok-file.file c.file_to_write.ensures.reads_only c.in_ok-file.ensures.one_of_two c.in_ok-file.ensures.free c.requires.settled shows earlier))

pub returns-in-Err-clause-moments : goal.returns-in-Err-clause-moments
returns-in-Err-clause-moments g c = λ roster shown is shows earlier. over_moments _ _ _ roster shown c.in_ok-file.file c.requires.settled shows c.file_to_write.ensures.moments
    (c.write_roster.ensures.moments roster (shown ∷ []) is (over_now _ _ roster shown c.in_ok-file.file c.file_to_write.ensures.reads_only c.in_ok-file.ensures.one_of_two c.in_ok-file.ensures.free c.requires.settled shows earlier))
