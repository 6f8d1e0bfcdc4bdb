use Rattle.std.proofs.Common.{◌≡◌, ◌∙◌, ap, sym, List, ℕ, ◌-◌, ◌+◌, ◌++◌, rules, length}
use Rattle.std.specs.Prelude.{replicate}
use Rattle.std.proofs.lemmas.List.{length-replicate}
use Rattle.disk_memory.proofs.MirroredLemmas.{bytes_after, laid_filled}
use Rattle.disk_memory.proofs.bytes.lay_marks.Goals as goal

pub returns : goal.returns
returns c =
    let full = c.lengthen.new.bytes in
    let marks : List ℕ = replicate c.args.count 255 in
    let long : length c.mark.new.bytes ≡ length full.items = search rules in
    let count : full.len ≡ length full.items = search rules in
    let end : length marks ≡ c.args.count = length-replicate c.args.count 255 in
    bytes_after full.len full.items c.mark.new.bytes long count
    ∙ laid_filled c.args.bytes.now.items c.deref_mut.result.now c.mark.new.bytes c.args.at marks
    (c.deref_mut.ensures.value ∙ c.lengthen.ensures ∙ ap (λ (k : ℕ). c.args.bytes.now.items ++ replicate (c.args.at + k - length c.args.bytes.now.items) 0) (sym end)) c.mark.ensures
