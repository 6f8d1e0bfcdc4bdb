use Rattle.disk_memory.specs.Logged.{logged}
use Rattle.disk_memory.proofs.HistoryLemmas.{cut_keeps_others, unchanged_others, goes_on, cut_images, cut_reads, cut_others_read, unchanged_images, answered_cause}
use Rattle.disk_memory.proofs.MirroredLemmas.{on_ok_after}
use Rattle.disk_trait.specs.Calls.{KeepsOthers, Shorn}
use Rattle.disk_trait.proofs.Runs.{shorn_none}
use Rattle.disk_memory.proofs.disk.MemoryDiskDisk.cut.Goals as goal

pub returns-in_err-cut-clause-images : goal.returns-in_err-cut-clause-images
returns-in_err-cut-clause-images c =
    let old = c.args.self.now.medium in
    let new = c.cut.new.self in
    unchanged_images old.pick new.pick c.cut.ensures.pick (logged old.log) (logged new.log) c.args.file (Shorn c.args.to) (shorn_none c.args.to) c.in_err-cut.ensures.err

pub returns-clause-cut : goal.returns-clause-cut
returns-clause-cut c =
    let old = c.args.self.now.medium in
    let new = c.cut.new.self in
    on_ok_after _ _ _ (cut_reads old.pick new.pick c.cut.ensures.pick (logged old.log) (logged new.log) c.args.file c.args.to c.in_ok-cut.ensures.ok)

pub returns-clause-others : goal.returns-clause-others
returns-clause-others c =
    let old = c.args.self.now.medium in
    let new = c.cut.new.self in
    cut_others_read old.pick new.pick c.cut.ensures.pick (logged old.log) (logged new.log) c.args.file c.args.to c.in_ok-cut.ensures.ok

pub returns-clause-images : goal.returns-clause-images
returns-clause-images c =
    let old = c.args.self.now.medium in
    let new = c.cut.new.self in
    cut_images old.pick new.pick c.cut.ensures.pick (logged old.log) (logged new.log) c.args.file c.args.to c.in_ok-cut.ensures.ok

pub returns-clause-time : goal.returns-clause-time
returns-clause-time c =
    let old = c.args.self.now.medium in
    let new = c.cut.new.self in
    goes_on old.pick new.pick c.cut.ensures.pick (logged old.log) (logged new.log) _ _ _ _ _ c.in_ok-cut.ensures.ok

pub returns-clause-cause : goal.returns-clause-cause
returns-clause-cause c =
    let old = c.args.self.now.medium in
    let new = c.cut.new.self in
    answered_cause old.pick new.pick (logged old.log) (logged new.log) _ _ _ _ _ c.next_fails-fails.result _ c.answered.ensures.faults c.answered.ensures.answer

pub returns-in_err-cut-clause-others_stay : goal.returns-in_err-cut-clause-others_stay
unfolding KeepsOthers
returns-in_err-cut-clause-others_stay c =
    let old = c.args.self.now.medium in
    let new = c.cut.new.self in
    unchanged_others old.pick new.pick c.cut.ensures.pick (logged old.log) (logged new.log) c.args.file c.in_err-cut.ensures.err

pub returns-clause-others_stay : goal.returns-clause-others_stay
unfolding KeepsOthers
returns-clause-others_stay c =
    let old = c.args.self.now.medium in
    let new = c.cut.new.self in
    cut_keeps_others old.pick new.pick c.cut.ensures.pick (logged old.log) (logged new.log) c.args.file c.args.to c.in_ok-cut.ensures.ok
