use Rattle.disk_memory.proofs.file.FileBytes.cut.Goals as goal

pub returns-clause-ok : goal.returns-clause-ok
returns-clause-ok c state is = c.shorten.ensures state (c.refresh.ensures.mirrors state is)
