use Rattle.std.proofs.Common.{length, length-append, ap, ◌∙◌, arith}
use Rattle.byte_fields.specs.Numbers.{bytes8}
use Rattle.byte_fields.specs.Counted.{counted32_text}
use Rattle.byte_fields.proofs.NumbersLemmas.{length-bytes_of}
use Rattle.record_form.specs.GroupText.{group_text}
use Rattle.store_build.specs.Built.{record_text}
use Rattle.store_build.proofs.RecordLemmas.{rotated_tail}
use Rattle.store_build.proofs.record.record_of.Goals as goal

pub rotate_right-requires : goal.rotate_right-requires
rotate_right-requires c =
    let size = ap length c.in_ok-bytes.ensures.text ∙ length-append (counted32_text (group_text c.in_ok-group.group)) (bytes8 0) in
    let len = c.in_ok-bytes.bytes.ok.0 in
    omega (arith, length-bytes_of 1 0, size, len)

pub index_mut-requires : goal.index_mut-requires
index_mut-requires c =
    let size = ap length c.in_ok-bytes.ensures.text ∙ length-append (counted32_text (group_text c.in_ok-group.group)) (bytes8 0) in
    let len = c.in_ok-bytes.bytes.ok.0 in
    let same = c.rotate_right.ensures.len in
    omega (arith, length-bytes_of 1 0, size, len, same)

pub returns-clause-text : goal.returns-clause-text
returns-clause-text c =
    rotated_tail c.in_ok-group.group c.in_ok-bytes.bytes.items c.rotate_right.new.self.items c.in_ok-bytes.bytes.len c.in_ok-bytes.ensures.text c.in_ok-bytes.bytes.ok.0 c.rotate_right.ensures.items
    ∙ ap record_text c.in_ok-group.ensures
