use Rattle.std.proofs.Common.{◌≡◌, ◌∙◌, rules, length}
use Rattle.disk_memory.proofs.MirroredLemmas.{bytes_after, laid_filled}
use Rattle.disk_memory.proofs.bytes.lay.Goals as goal

pub returns : goal.returns
returns c =
    let full = c.lengthen.new.bytes in
    let long : length c.overwrite.new.bytes ≡ length full.items = search rules in
    let count : full.len ≡ length full.items = search rules in
    bytes_after full.len full.items c.overwrite.new.bytes long count
    ∙ laid_filled c.args.bytes.now.items c.deref_mut.result.now c.overwrite.new.bytes c.args.at c.args.more.now (c.deref_mut.ensures.value ∙ c.lengthen.ensures) c.overwrite.ensures
