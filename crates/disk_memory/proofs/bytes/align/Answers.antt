use Rattle.std.proofs.Common.{◌≡◌, ◌∙◌, rules, length}
use Rattle.disk_memory.proofs.MirroredLemmas.{bytes_after, aligned}
use Rattle.disk_memory.proofs.bytes.align.Goals as goal

pub returns : goal.returns
returns c agrees =
    let full = c.lengthen.new.bytes in
    let long : length c.copy_range.new.bytes ≡ length full.items = search rules in
    let count : full.len ≡ length full.items = search rules in
    bytes_after full.len full.items c.copy_range.new.bytes long count
    ∙ aligned c.args.from c.args.to c.args.bytes.now.items c.truncate.new.self.items c.deref_mut.result.now c.copy_range.new.bytes c.args.like.now
    c.truncate.ensures.items (c.deref_mut.ensures.value ∙ c.lengthen.ensures) (λ is. rw c.min.ensures at c.copy_range.ensures is) agrees
