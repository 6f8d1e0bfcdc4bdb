use Rattle.roster_book.proofs.OverLemmas.{only_read, only_then}
use Rattle.roster_book.proofs.WritingLemmas.{after_reading}
use Rattle.roster_book.proofs.write.free_settled.Goals as goal

pub returns-in-Ok-false-clause-moments : goal.returns-in-Ok-false-clause-moments
returns-in-Ok-false-clause-moments g c = λ roster sights is over. after_reading _ _ _ _ over c.is_blank.ensures.moments (λ now. c.zero_first.ensures.moments roster sights is now)

pub returns-in-Ok-false-clause-beside : goal.returns-in-Ok-false-clause-beside
returns-in-Ok-false-clause-beside g c = only_then _ _ _ c.args.file (only_read _ _ c.args.file c.is_blank.ensures.moments) c.zero_first.ensures.beside
