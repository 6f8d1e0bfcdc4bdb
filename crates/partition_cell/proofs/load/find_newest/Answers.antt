use Rattle.std.proofs.Common.{rules, Err, ◌∙◌, ap}
use Rattle.std.proofs.lemmas.Option.{slice_get-get_or}
use Rattle.partition_cell.proofs.LoadLemmas.{all_reads, store_found, load_refused}
use Rattle.partition_cell.proofs.load.find_newest.Goals as goal

pub returns-in_err-newest-clause-refused : goal.returns-in_err-newest-clause-refused
returns-in_err-newest-clause-refused g c =
    let refused = c.in_err-newest.ensures.refused (record { partition = c.args.partition; partitions = c.args.partitions }) in
    search (rules, refused)

pub returns-in-Ok-clause-found : goal.returns-in-Ok-clause-found
returns-in-Ok-clause-found g c =
    let chosen = c.in_ok-newest.ensures in
    store_found g.D.Disk.view c.args.hosts.now c.args.disks.now c.choose_newest.new.disks c.choose_newest.ensures.reads_only c.in_ok-newest.newest.host c.in_ok-newest.newest.file chosen.one_of.0
    (c.requires.disks c.in_ok-newest.newest.host chosen.one_of.0) chosen.headed chosen.one_of.1 chosen.newest _ c.load_bounded.new.disk
    (slice_get-get_or c.choose_newest.new.disks c.in_ok-newest.newest.host _ chosen.there) c.load_bounded.ensures.reads_only
    c.args.partitions c.in-Ok.loaded.store c.in-Ok.loaded.contents c.in-Ok.ensures.store.0
    (λ disk at. c.requires.settled c.in_ok-newest.newest.host c.in_ok-newest.newest.file disk chosen.one_of.0 chosen.one_of.1 at) c.in-Ok.ensures.loaded

pub returns-in-Ok-clause-reads_only : goal.returns-in-Ok-clause-reads_only
returns-in-Ok-clause-reads_only g c =
    let chosen = c.in_ok-newest.ensures in
    all_reads g.D.Disk.view c.args.hosts.now c.args.disks.now c.choose_newest.new.disks c.choose_newest.ensures.reads_only c.in_ok-newest.newest.host c.in_ok-newest.newest.file chosen.one_of.0
    (c.requires.disks c.in_ok-newest.newest.host chosen.one_of.0) chosen.headed chosen.one_of.1 chosen.newest _ c.load_bounded.new.disk
    (slice_get-get_or c.choose_newest.new.disks c.in_ok-newest.newest.host _ chosen.there) c.load_bounded.ensures.reads_only

pub returns-in-Err-clause-reads_only : goal.returns-in-Err-clause-reads_only
returns-in-Err-clause-reads_only g c =
    let chosen = c.in_ok-newest.ensures in
    all_reads g.D.Disk.view c.args.hosts.now c.args.disks.now c.choose_newest.new.disks c.choose_newest.ensures.reads_only c.in_ok-newest.newest.host c.in_ok-newest.newest.file chosen.one_of.0
    (c.requires.disks c.in_ok-newest.newest.host chosen.one_of.0) chosen.headed chosen.one_of.1 chosen.newest _ c.load_bounded.new.disk
    (slice_get-get_or c.choose_newest.new.disks c.in_ok-newest.newest.host _ chosen.there) c.load_bounded.ensures.reads_only

pub returns-in-Err-clause-refused : goal.returns-in-Err-clause-refused
returns-in-Err-clause-refused g c =
    let chosen = c.in_ok-newest.ensures in
    rw c.refused_load.ensures
    (load_refused g.D.Disk.view c.args.hosts.now c.args.disks.now c.choose_newest.new.disks c.choose_newest.ensures.reads_only c.in_ok-newest.newest.host c.in_ok-newest.newest.file chosen.one_of.0
    (c.requires.disks c.in_ok-newest.newest.host chosen.one_of.0) chosen.headed chosen.one_of.1 chosen.newest _ c.load_bounded.new.disk
    (slice_get-get_or c.choose_newest.new.disks c.in_ok-newest.newest.host _ chosen.there) c.load_bounded.ensures.reads_only
    (record { partition = c.args.partition; partitions = c.args.partitions }) c.in-Err.fault
    (λ e. c.load_bounded.ensures.failed (c.in-Err.is ∙ ap Err e))
    (λ e. c.load_bounded.ensures.not_sealed (c.in-Err.is ∙ ap Err e))
    (λ at e. c.load_bounded.ensures.damaged at (c.in-Err.is ∙ ap Err e)))
