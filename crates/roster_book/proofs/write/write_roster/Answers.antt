use Rattle.std.proofs.Common.{◌-◌}
use Rattle.disk_trait.proofs.Runs.{holds_now, joined}
use Rattle.roster_form.specs.Shown.{IsWritingOver}
use Rattle.roster_book.proofs.OverLemmas.{only_moved, only_then}
use Rattle.roster_book.proofs.WritingLemmas.{laid_over, sealing_over, sealing_free, laid_long, sealed_shows, other_apart, whole_rest}
use Rattle.roster_book.proofs.write.write_roster.Goals as goal

pub returns-in-Err-clause-moments : goal.returns-in-Err-clause-moments
returns-in-Err-clause-moments g c = λ roster sights is over.
    let a = g.D.Disk.view c.args.disk.now in
    let b = g.D.Disk.view c.free_file.new.disk in
    let n = g.D.Disk.view c.lay_rest.new.disk in
    let w = IsWritingOver roster c.args.file (1 - c.args.file) sights in
    let freed = c.free_file.ensures.moments roster sights is over in
    let laid = laid_over b n roster c.args.file (1 - c.args.file) sights (other_apart c.args.file c.requires.file) c.lay_rest.ensures.moments (holds_now a b w freed) in
    joined a b n w freed laid

pub seal-requires-clause-long : goal.seal-requires-clause-long
seal-requires-clause-long g c = laid_long (g.D.Disk.view c.lay_rest.new.disk) c.args.text.now c.args.file c.requires.text (whole_rest (g.D.Disk.view c.lay_rest.new.disk) c.args.text.now c.args.file c.in_default.ensures.laid)

pub returns-in-Err-seal-clause-moments : goal.returns-in-Err-seal-clause-moments
returns-in-Err-seal-clause-moments g c = λ roster sights is over.
    let a = g.D.Disk.view c.args.disk.now in
    let b = g.D.Disk.view c.free_file.new.disk in
    let n = g.D.Disk.view c.lay_rest.new.disk in
    let w = IsWritingOver roster c.args.file (1 - c.args.file) sights in
    let freed = c.free_file.ensures.moments roster sights is over in
    let laid = laid_over b n roster c.args.file (1 - c.args.file) sights (other_apart c.args.file c.requires.file) c.lay_rest.ensures.moments (holds_now a b w freed) in
    let d = g.D.Disk.view c.seal.new.disk in
    let sealing = sealing_over n d roster c.args.text.now c.args.file (1 - c.args.file) sights is (other_apart c.args.file c.requires.file) (whole_rest n c.args.text.now c.args.file c.in_default.ensures.laid) c.seal.ensures.moments (holds_now b n w laid) in
    joined a b d w freed (joined b n d w laid sealing)

pub returns-in-Err-seal-clause-again : goal.returns-in-Err-seal-clause-again
returns-in-Err-seal-clause-again g c =
    sealing_free (g.D.Disk.view c.lay_rest.new.disk) (g.D.Disk.view c.seal.new.disk) c.args.text.now c.args.file (1 - c.args.file) (other_apart c.args.file c.requires.file)
    (whole_rest (g.D.Disk.view c.lay_rest.new.disk) c.args.text.now c.args.file c.in_default.ensures.laid) c.seal.ensures.moments

pub returns-clause-written : goal.returns-clause-written
returns-clause-written g c = λ roster sights is over.
    let a = g.D.Disk.view c.args.disk.now in
    let b = g.D.Disk.view c.free_file.new.disk in
    let n = g.D.Disk.view c.lay_rest.new.disk in
    let w = IsWritingOver roster c.args.file (1 - c.args.file) sights in
    let freed = c.free_file.ensures.moments roster sights is over in
    let laid = laid_over b n roster c.args.file (1 - c.args.file) sights (other_apart c.args.file c.requires.file) c.lay_rest.ensures.moments (holds_now a b w freed) in
    let d = g.D.Disk.view c.seal.new.disk in
    let sealing = sealing_over n d roster c.args.text.now c.args.file (1 - c.args.file) sights is (other_apart c.args.file c.requires.file) (whole_rest n c.args.text.now c.args.file c.in_default.ensures.laid) c.seal.ensures.moments (holds_now b n w laid) in
    sealed_shows n d roster c.args.text.now c.args.file (1 - c.args.file) sights is (whole_rest n c.args.text.now c.args.file c.in_default.ensures.laid) c.seal.ensures.moments c.in_default-seal.ensures.sealed (holds_now n d w sealing)

pub returns-clause-moments : goal.returns-clause-moments
returns-clause-moments g c = λ roster sights is over.
    let a = g.D.Disk.view c.args.disk.now in
    let b = g.D.Disk.view c.free_file.new.disk in
    let n = g.D.Disk.view c.lay_rest.new.disk in
    let w = IsWritingOver roster c.args.file (1 - c.args.file) sights in
    let freed = c.free_file.ensures.moments roster sights is over in
    let laid = laid_over b n roster c.args.file (1 - c.args.file) sights (other_apart c.args.file c.requires.file) c.lay_rest.ensures.moments (holds_now a b w freed) in
    let d = g.D.Disk.view c.seal.new.disk in
    let sealing = sealing_over n d roster c.args.text.now c.args.file (1 - c.args.file) sights is (other_apart c.args.file c.requires.file) (whole_rest n c.args.text.now c.args.file c.in_default.ensures.laid) c.seal.ensures.moments (holds_now b n w laid) in
    joined a b d w freed (joined b n d w laid sealing)

pub returns-in-Err-clause-beside : goal.returns-in-Err-clause-beside
returns-in-Err-clause-beside g c = only_then _ _ _ c.args.file c.free_file.ensures.beside (only_moved _ _ c.args.file _ c.lay_rest.ensures.moments)

pub returns-in-Err-seal-clause-beside : goal.returns-in-Err-seal-clause-beside
returns-in-Err-seal-clause-beside g c = only_then _ _ _ c.args.file (only_then _ _ _ c.args.file c.free_file.ensures.beside (only_moved _ _ c.args.file _ c.lay_rest.ensures.moments)) (only_moved _ _ c.args.file _ c.seal.ensures.moments)

pub returns-clause-beside : goal.returns-clause-beside
returns-clause-beside g c = only_then _ _ _ c.args.file (only_then _ _ _ c.args.file c.free_file.ensures.beside (only_moved _ _ c.args.file _ c.lay_rest.ensures.moments)) (only_moved _ _ c.args.file _ c.seal.ensures.moments)
