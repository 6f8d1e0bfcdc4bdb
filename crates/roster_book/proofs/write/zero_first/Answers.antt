use Rattle.std.proofs.Common.{sym, ◌-◌}
use Rattle.roster_book.proofs.WritingLemmas.{zeroed_over, zeroed_free, other_of}
use Rattle.roster_book.proofs.write.zero_first.Goals as goal

pub returns-in-Ok-clause-moments : goal.returns-in-Ok-clause-moments
returns-in-Ok-clause-moments g c = λ roster sights is over.
    zeroed_over _ _ roster c.args.text.now c.args.file (1 - c.args.file) sights is (λ e. (other_of c.args.file c.requires.file).0 (sym e)) c.requires.free c.write_synced.ensures.moments over

pub returns-in-Err-clause-moments : goal.returns-in-Err-clause-moments
returns-in-Err-clause-moments g c = λ roster sights is over.
    zeroed_over _ _ roster c.args.text.now c.args.file (1 - c.args.file) sights is (λ e. (other_of c.args.file c.requires.file).0 (sym e)) c.requires.free c.write_synced.ensures.moments over

pub returns-in-Err-clause-again : goal.returns-in-Err-clause-again
returns-in-Err-clause-again g c =
    zeroed_free _ _ c.args.text.now c.args.file (1 - c.args.file) (λ e. (other_of c.args.file c.requires.file).0 (sym e)) c.requires.free c.write_synced.ensures.moments
