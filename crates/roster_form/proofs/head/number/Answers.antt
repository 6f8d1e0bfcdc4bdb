use Rattle.std.proofs.Common.{ap, ◌∙◌, take, drop}
use Rattle.byte_fields.specs.Numbers.{big_endian}
use Rattle.roster_form.proofs.RosterTextLemmas.{number_read}
use Rattle.roster_form.proofs.head.number.Goals as goal

pub returns : goal.returns
returns c = number_read c.over.result c.number.new.self c.part-bytes.result.now c.in-Ok.number c.over.ensures c.in-Ok.ensures.text.0 c.in-Ok.ensures.text.1 ∙ ap big_endian (c.part-bytes.ensures ∙ (λ i. take (c.from-2.ensures i) (drop (c.from.ensures i) c.args.text.now)))
