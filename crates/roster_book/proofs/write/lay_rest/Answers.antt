use Rattle.roster_book.proofs.WritingLemmas.{cut_moments, rest_moments, rest_laid}
use Rattle.roster_book.proofs.write.lay_rest.Goals as goal

pub returns-in_err-cut-clause-moments : goal.returns-in_err-cut-clause-moments
returns-in_err-cut-clause-moments g c = cut_moments _ _ c.args.file c.requires.blank c.cut.ensures.time c.cut.ensures.images

pub returns-clause-laid : goal.returns-clause-laid
returns-clause-laid g c = rest_laid (g.D.Disk.view c.args.disk.now) (g.D.Disk.view c.cut.new.self) _ c.args.file c.args.rest.now c.requires.blank c.cut.ensures.images c.write_synced.ensures.moments c.in_ok-cut.ensures.cut c.in_ok-write_synced.ensures.durable

pub returns-clause-moments : goal.returns-clause-moments
returns-clause-moments g c = rest_moments _ _ _ c.args.file _ c.requires.blank c.cut.ensures.time c.cut.ensures.images c.write_synced.ensures.moments

pub returns-in_err-write_synced-clause-moments : goal.returns-in_err-write_synced-clause-moments
returns-in_err-write_synced-clause-moments g c = rest_moments _ _ _ c.args.file _ c.requires.blank c.cut.ensures.time c.cut.ensures.images c.write_synced.ensures.moments
