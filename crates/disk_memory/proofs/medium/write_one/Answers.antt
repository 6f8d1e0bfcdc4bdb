use Rattle.disk_memory.proofs.MirroredLemmas.{ok_to, err_to, all_written, all_refused}
use Rattle.disk_memory.proofs.medium.write_one.Goals as goal

pub returns-clause-ok : goal.returns-clause-ok
returns-clause-ok c =
    ok_to _ _ _ c.write.ensures.ok (all_written c.args.pick c.args.file c.args.files.now.items c.index_mut-chosen.result.now c.write.new.self c.requires.file c.index_mut-chosen.ensures.value c.args.at c.args.bytes.now)

pub returns-clause-err : goal.returns-clause-err
returns-clause-err c =
    err_to _ _ _ c.write.ensures.err (all_refused c.args.pick c.args.file c.args.files.now.items c.index_mut-chosen.result.now c.write.new.self c.requires.file c.index_mut-chosen.ensures.value)
