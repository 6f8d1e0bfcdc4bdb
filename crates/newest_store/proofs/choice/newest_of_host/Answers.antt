use Rattle.std.proofs.lemmas.Result.{IfOk-weaker, IfErr-weaker}
use Rattle.std.proofs.lemmas.Option.{slice_get-get_or}
use Rattle.newest_store.proofs.ChoiceLemmas.{host_chosen, host_headed, host_refused, host_read}
use Rattle.newest_store.proofs.choice.newest_of_host.Goals as goal

pub returns-clause-chosen : goal.returns-clause-chosen
returns-clause-chosen g c = IfOk-weaker c.newest_on.result _ _
    (host_chosen g.D.Disk.view c.args.disks.now c.args.host _ c.newest_on.new.disk (slice_get-get_or c.args.disks.now c.args.host _ c.requires.disk))
    c.newest_on.ensures.chosen

pub returns-clause-headed : goal.returns-clause-headed
returns-clause-headed g c = IfOk-weaker c.newest_on.result _ _
    (λ own. host_headed g.D.Disk.view c.args.disks.now c.args.host _ c.newest_on.new.disk (slice_get-get_or c.args.disks.now c.args.host _ c.requires.disk))
    c.newest_on.ensures.headed

pub returns-clause-refused : goal.returns-clause-refused
returns-clause-refused g c = IfErr-weaker c.newest_on.result _ _
    (host_refused g.D.Disk.view c.args.disks.now c.args.host _ c.newest_on.new.disk (slice_get-get_or c.args.disks.now c.args.host _ c.requires.disk))
    c.newest_on.ensures.refused

pub returns-clause-reads_only : goal.returns-clause-reads_only
returns-clause-reads_only g c = host_read g.D.Disk.view c.args.disks.now c.args.host _ c.newest_on.new.disk
    (slice_get-get_or c.args.disks.now c.args.host _ c.requires.disk) c.newest_on.ensures.reads_only
