use Rattle.std.proofs.lemmas.Result.{IfOk-weaker, IfErr-weaker}
use Rattle.std.proofs.lemmas.Option.{slice_get-get_or}
use Rattle.newest_store.proofs.ChoiceLemmas.{host_read}
use Rattle.roster_book.proofs.RostersLemmas.{host_found, host_unread}
use Rattle.roster_book.proofs.rosters.roster_of_host.Goals as goal

pub returns-clause-host : goal.returns-clause-host
returns-clause-host g c = IfOk-weaker c.roster_on.result _ _ (λ found is. is.0) c.roster_on.ensures.found

pub returns-clause-found : goal.returns-clause-found
returns-clause-found g c = IfOk-weaker c.roster_on.result _ _
    (λ found is. host_found g.D.Disk.view c.args.services.now c.args.host _ c.roster_on.new.disk (slice_get-get_or c.args.services.now c.args.host _ c.requires.service) c.args.partitions found is.0 is.1)
    c.roster_on.ensures.found

pub returns-clause-refused : goal.returns-clause-refused
returns-clause-refused g c = IfErr-weaker c.roster_on.result _ _
    (host_unread g.D.Disk.view c.args.services.now c.args.host _ c.roster_on.new.disk (slice_get-get_or c.args.services.now c.args.host _ c.requires.service) c.args.partitions)
    c.roster_on.ensures.refused

pub returns-clause-reads_only : goal.returns-clause-reads_only
returns-clause-reads_only g c = host_read g.D.Disk.view c.args.services.now c.args.host _ c.roster_on.new.disk
    (slice_get-get_or c.args.services.now c.args.host _ c.requires.service) c.roster_on.ensures.reads_only
