use Rattle.disk_memory.proofs.MirroredLemmas.{ok_to, err_to, all_cut, all_refused}
use Rattle.disk_memory.proofs.medium.cut_one.Goals as goal

pub returns-clause-ok : goal.returns-clause-ok
returns-clause-ok c =
    ok_to _ _ _ c.cut.ensures.ok (all_cut c.args.pick c.args.file c.args.files.now.items c.index_mut-chosen.result.now c.cut.new.self c.requires c.index_mut-chosen.ensures.value c.args.to)

pub returns-clause-err : goal.returns-clause-err
returns-clause-err c =
    err_to _ _ _ c.cut.ensures.err (all_refused c.args.pick c.args.file c.args.files.now.items c.index_mut-chosen.result.now c.cut.new.self c.requires c.index_mut-chosen.ensures.value)
