use Rattle.store_journal.proofs.CreateLemmas.{cut_run, header_run, gate_run, laid}
use Rattle.store_journal.proofs.create.lay.Goals as goal

pub returns-in_err-cut-clause-moments : goal.returns-in_err-cut-clause-moments
returns-in_err-cut-clause-moments g c = (cut_run _ _ c.requires.blank _ c.cut.ensures.time c.cut.ensures.images).moments

pub returns-in_err-write_at-clause-moments : goal.returns-in_err-write_at-clause-moments
returns-in_err-write_at-clause-moments g c =
    (header_run _ _ c.requires.blank _ _ _ (cut_run _ _ c.requires.blank _ c.cut.ensures.time c.cut.ensures.images) c.write_at.ensures.time c.write_at.ensures.images).moments

pub returns-in_err-write_synced-clause-moments : goal.returns-in_err-write_synced-clause-moments
returns-in_err-write_synced-clause-moments g c =
    (gate_run _ _ c.requires.blank _ _
    (header_run _ _ c.requires.blank _ _ _ (cut_run _ _ c.requires.blank _ c.cut.ensures.time c.cut.ensures.images) c.write_at.ensures.time c.write_at.ensures.images)
    c.write_synced.ensures.moments).moments

pub returns-clause-laid : goal.returns-clause-laid
returns-clause-laid g c =
    laid (g.D.Disk.view c.args.disk.now) _ c.requires.blank (g.D.Disk.view c.cut.new.self) _ _ _ _ _ c.encode_header.ensures.text c.cut.ensures.images c.write_at.ensures.images c.write_synced.ensures.moments
    c.in_ok-cut.ensures.cut c.in_ok-write_at.ensures.written c.in_ok-write_synced.ensures.durable

pub returns-clause-moments : goal.returns-clause-moments
returns-clause-moments g c =
    (gate_run _ _ c.requires.blank _ _
    (header_run _ _ c.requires.blank _ _ _ (cut_run _ _ c.requires.blank _ c.cut.ensures.time c.cut.ensures.images) c.write_at.ensures.time c.write_at.ensures.images)
    c.write_synced.ensures.moments).moments
