use Rattle.std.proofs.Common.{List, ℕ, subst}
use Rattle.roster_book.specs.Reading.{IsEpochOf}
use Rattle.roster_book.proofs.read.newest_file.Goals as goal

pub returns-clause-newest : goal.returns-clause-newest
returns-clause-newest g c = λ tells.
    let a = g.D.Disk.view c.args.disk.now in
    let b = g.D.Disk.view c.sealed_epoch.new.disk in
    let same = c.sealed_epoch.ensures.reads_only in
    let still = b.told a.seen (same.no_fewer a.seen tells) in
    c.newer.ensures.newest a.seen (c.in_ok-first.ensures.told tells) (subst (λ (bytes : List ℕ). IsEpochOf bytes c.in_ok-second.second) (same.seen 1) (c.in_ok-second.ensures.told still))
