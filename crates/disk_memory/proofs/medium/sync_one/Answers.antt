use Rattle.disk_memory.proofs.MirroredLemmas.{ok_to, err_to, all_synced, all_unsynced}
use Rattle.disk_memory.proofs.medium.sync_one.Goals as goal

pub returns-clause-ok : goal.returns-clause-ok
returns-clause-ok c =
    ok_to _ _ _ c.sync.ensures.ok (all_synced c.args.file c.args.files.now.items c.index_mut-chosen.result.now c.sync.new.self c.requires c.index_mut-chosen.ensures.value)

pub returns-clause-err : goal.returns-clause-err
returns-clause-err c =
    err_to _ _ _ c.sync.ensures.err (all_unsynced c.args.file c.args.files.now.items c.index_mut-chosen.result.now c.sync.new.self c.requires c.index_mut-chosen.ensures.value)
