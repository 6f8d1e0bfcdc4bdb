use Rattle.disk_memory.specs.Logged.{logged}
use Rattle.disk_memory.proofs.HistoryLemmas.{restarted_fewer, restarted_durable, restarted_reads, restarted_time}
use Rattle.disk_memory.proofs.disk.MemoryDiskDisk.restart.Goals as goal

pub returns-clause-images : goal.returns-clause-images
returns-clause-images c =
    let old = c.args.self.now.medium in
    let new = c.restart.new.self in
    restarted_fewer old.pick new.pick c.restart.ensures.pick (logged old.log) (logged new.log) c.restart.ensures.restarts

pub returns-clause-durable : goal.returns-clause-durable
returns-clause-durable c =
    let old = c.args.self.now.medium in
    let new = c.restart.new.self in
    restarted_durable old.pick new.pick c.restart.ensures.pick (logged old.log) (logged new.log) c.restart.ensures.restarts

pub returns-clause-time : goal.returns-clause-time
returns-clause-time c =
    let old = c.args.self.now.medium in
    let new = c.restart.new.self in
    restarted_time old.pick new.pick c.restart.ensures.pick (logged old.log) (logged new.log) c.restart.ensures.restarts _ _ _ _

pub returns-clause-taken : goal.returns-clause-taken
returns-clause-taken c =
    let old = c.args.self.now.medium in
    let new = c.restart.new.self in
    restarted_reads old.pick new.pick c.restart.ensures.pick (logged old.log) (logged new.log) c.restart.ensures.restarts
