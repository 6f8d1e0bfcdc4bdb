use Rattle.disk_memory.specs.Replay.{FileState}
use Rattle.disk_memory.specs.Mirrored.{Mirrors}
use Rattle.disk_memory.proofs.MirroredLemmas.{on_err}
use Rattle.disk_memory.proofs.file.FileBytes.write.Goals as goal

pub returns-in_err-make_room-clause-err : goal.returns-in_err-make_room-clause-err
returns-in_err-make_room-clause-err c =
    let kept : (state : FileState) → Mirrors c.args.self.now state → Mirrors c.make_room.new.self state = λ state is. c.make_room.ensures.mirrors state (c.refresh.ensures.mirrors state is) in
    on_err _ _ kept

pub returns-clause-ok : goal.returns-clause-ok
returns-clause-ok c state offset is = c.put.ensures state offset (c.make_room.ensures.mirrors state (c.refresh.ensures.mirrors state is))
