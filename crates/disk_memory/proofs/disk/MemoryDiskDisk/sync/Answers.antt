use Rattle.std.proofs.Common.{true, refl}
use Rattle.disk_trait.specs.Calls.{KeepsOthers}
use Rattle.disk_memory.specs.Logged.{logged}
use Rattle.disk_memory.proofs.HistoryLemmas.{sync_keeps_others, unchanged_others, goes_on, synced_reads, synced_durable, synced_fewer, answered_cause}
use Rattle.disk_memory.proofs.MirroredLemmas.{on_ok}
use Rattle.disk_memory.proofs.disk.MemoryDiskDisk.sync.Goals as goal

pub returns-then-next_fails-clause-cause : goal.returns-then-next_fails-clause-cause
returns-then-next_fails-clause-cause c =
    let old = c.args.self.now.medium in
    answered_cause old.pick old.pick (logged old.log) (logged old.log) _ _ _ _ _ true _ c.answered.ensures.faults c.answered.ensures.answer

pub returns-clause-durable : goal.returns-clause-durable
returns-clause-durable c =
    let old = c.args.self.now.medium in
    let new = c.sync.new.self in
    on_ok _ _ (synced_durable old.pick new.pick c.sync.ensures.pick (logged old.log) (logged new.log) c.args.file c.in_ok-sync.ensures.ok)

pub returns-clause-seen : goal.returns-clause-seen
returns-clause-seen c =
    let old = c.args.self.now.medium in
    let new = c.sync.new.self in
    synced_reads old.pick new.pick c.sync.ensures.pick (logged old.log) (logged new.log) c.args.file c.in_ok-sync.ensures.ok

pub returns-clause-images : goal.returns-clause-images
returns-clause-images c =
    let old = c.args.self.now.medium in
    let new = c.sync.new.self in
    synced_fewer old.pick new.pick c.sync.ensures.pick (logged old.log) (logged new.log) c.args.file c.in_ok-sync.ensures.ok

pub returns-clause-time : goal.returns-clause-time
returns-clause-time c =
    let old = c.args.self.now.medium in
    let new = c.sync.new.self in
    goes_on old.pick new.pick c.sync.ensures.pick (logged old.log) (logged new.log) _ _ _ _ _ c.in_ok-sync.ensures.ok

pub returns-then-next_fails-clause-others_stay : goal.returns-then-next_fails-clause-others_stay
unfolding KeepsOthers
returns-then-next_fails-clause-others_stay c =
    let old = c.args.self.now.medium in
    unchanged_others old.pick old.pick refl (logged old.log) (logged old.log) c.args.file refl

pub returns-in_err-sync-clause-others_stay : goal.returns-in_err-sync-clause-others_stay
unfolding KeepsOthers
returns-in_err-sync-clause-others_stay c =
    let old = c.args.self.now.medium in
    let new = c.sync.new.self in
    unchanged_others old.pick new.pick c.sync.ensures.pick (logged old.log) (logged new.log) c.args.file c.in_err-sync.ensures.err

pub returns-clause-others_stay : goal.returns-clause-others_stay
unfolding KeepsOthers
returns-clause-others_stay c =
    let old = c.args.self.now.medium in
    let new = c.sync.new.self in
    sync_keeps_others old.pick new.pick c.sync.ensures.pick (logged old.log) (logged new.log) c.args.file c.in_ok-sync.ensures.ok
