use Rattle.std.proofs.Common.{◌∙◌, ap, Vec, ℕ}
use Rattle.std.specs.declared.alloc.Global.{Global}
use Rattle.disk_memory.proofs.MirroredLemmas.{mirrors_written}
use Rattle.disk_memory.proofs.file.FileBytes.put.Goals as goal

pub returns : goal.returns
returns c state offset is =
    let items = λ (v : Vec ℕ Global). v.items in
    mirrors_written c.args.self.now c.widen.new.self c.args.pick c.args.at c.args.bytes.now state c.requires.fresh offset is
    (ap items c.widen.ensures.seen ∙ c.lay.ensures) (ap items c.widen.ensures.left ∙ c.lay_picked.ensures)
    c.widen.ensures.from c.widen.ensures.to c.widen.ensures.taken
