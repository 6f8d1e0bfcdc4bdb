use Rattle.std.proofs.Common.{true, refl}
use Rattle.disk_trait.specs.Calls.{KeepsOthers}
use Rattle.disk_memory.specs.Logged.{logged}
use Rattle.disk_memory.proofs.HistoryLemmas.{write_keeps_others, unchanged_others, goes_on, write_images, write_reads, write_others_read, answered_cause}
use Rattle.disk_memory.proofs.MirroredLemmas.{on_ok_after}
use Rattle.disk_memory.proofs.disk.MemoryDiskDisk.write_at.Goals as goal

pub returns-then-is_too_long-clause-cause : goal.returns-then-is_too_long-clause-cause
returns-then-is_too_long-clause-cause c =
    let old = c.args.self.now.medium in
    answered_cause old.pick old.pick (logged old.log) (logged old.log) _ _ _ _ _ true _ c.answered.ensures.faults c.answered.ensures.answer

pub returns-clause-written : goal.returns-clause-written
returns-clause-written c =
    let old = c.args.self.now.medium in
    let new = c.write.new.self in
    on_ok_after _ _ _ (write_reads old.pick new.pick c.write.ensures.pick (logged old.log) (logged new.log) c.args.file c.args.at c.args.bytes.now c.in_ok-write.ensures.ok (c.requires.offset old.seen_is_image))

pub returns-clause-others : goal.returns-clause-others
returns-clause-others c =
    let old = c.args.self.now.medium in
    let new = c.write.new.self in
    write_others_read old.pick new.pick c.write.ensures.pick (logged old.log) (logged new.log) c.args.file c.args.at c.args.bytes.now c.in_ok-write.ensures.ok

pub returns-clause-images : goal.returns-clause-images
returns-clause-images c =
    let old = c.args.self.now.medium in
    let new = c.write.new.self in
    write_images old.pick new.pick c.write.ensures.pick (logged old.log) (logged new.log) c.args.file c.args.at c.args.bytes.now c.in_ok-write.ensures.ok (c.requires.offset old.seen_is_image)

pub returns-clause-time : goal.returns-clause-time
returns-clause-time c =
    let old = c.args.self.now.medium in
    let new = c.write.new.self in
    goes_on old.pick new.pick c.write.ensures.pick (logged old.log) (logged new.log) _ _ _ _ _ c.in_ok-write.ensures.ok

pub returns-clause-cause : goal.returns-clause-cause
returns-clause-cause c =
    let old = c.args.self.now.medium in
    let new = c.write.new.self in
    answered_cause old.pick new.pick (logged old.log) (logged new.log) _ _ _ _ _ c.next_fails-fails.result _ c.answered-2.ensures.faults c.answered-2.ensures.answer

pub returns-then-is_too_long-clause-others_stay : goal.returns-then-is_too_long-clause-others_stay
unfolding KeepsOthers
returns-then-is_too_long-clause-others_stay c =
    let old = c.args.self.now.medium in
    unchanged_others old.pick old.pick refl (logged old.log) (logged old.log) c.args.file refl

pub returns-in_err-write-clause-others_stay : goal.returns-in_err-write-clause-others_stay
unfolding KeepsOthers
returns-in_err-write-clause-others_stay c =
    let old = c.args.self.now.medium in
    let new = c.write.new.self in
    unchanged_others old.pick new.pick c.write.ensures.pick (logged old.log) (logged new.log) c.args.file c.in_err-write.ensures.err

pub returns-clause-others_stay : goal.returns-clause-others_stay
unfolding KeepsOthers
returns-clause-others_stay c =
    let old = c.args.self.now.medium in
    let new = c.write.new.self in
    write_keeps_others old.pick new.pick c.write.ensures.pick (logged old.log) (logged new.log) c.args.file c.args.at c.args.bytes.now c.in_ok-write.ensures.ok
