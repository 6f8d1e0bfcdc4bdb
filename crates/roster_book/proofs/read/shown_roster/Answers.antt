use Rattle.std.proofs.Common.{subst}
use Rattle.roster_book.specs.Reading.{IsNewestOf}
use Rattle.roster_book.proofs.ReadingLemmas.{unread_is_unshown}
use Rattle.roster_book.proofs.read.shown_roster.Goals as goal

pub returns-in-Err-clause-refused : goal.returns-in-Err-clause-refused
returns-in-Err-clause-refused g c =
    unread_is_unshown (g.D.Disk.view c.args.disk.now) (g.D.Disk.view c.newest_file.new.disk) (g.D.Disk.view c.roster_in.new.disk) c.args.partitions c.in-Some.file c.in-Err.fault c.in_ok-file.ensures.reads_only (c.in_ok-file.ensures.cause.kept (λ e. absurd cc))
    (λ tells. subst (IsNewestOf (g.D.Disk.view c.args.disk.now).seen) c.in-Some.is (c.in_ok-file.ensures.newest tells)) c.in-Err.ensures.refused
