use Rattle.std.proofs.Common.{◌∙◌, ap, Vec, ℕ, take, if◌then◌else◌, ◌==◌}
use Rattle.std.specs.declared.alloc.Global.{Global}
use Rattle.disk_memory.proofs.MirroredLemmas.{mirrors_cut}
use Rattle.disk_memory.proofs.file.FileBytes.shorten.Goals as goal

pub returns : goal.returns
returns c state is =
    let pick = c.args.pick in
    let to = c.args.to in
    mirrors_cut c.args.self.now _ pick to state c.requires is
    (c.truncate.ensures.items ∙ ap (λ (v : Vec ℕ Global). take to v.items) c.widen_by_cut.ensures.seen)
    (c.cut_picked.ensures ∙ ap (λ (v : Vec ℕ Global). if pick == 0 then v.items else take to v.items) c.widen_by_cut.ensures.left)
    c.widen_by_cut.ensures.both c.widen_by_cut.ensures.first c.widen_by_cut.ensures.taken
