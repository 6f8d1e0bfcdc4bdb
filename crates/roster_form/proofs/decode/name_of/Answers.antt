use Rattle.record_form.proofs.NameLemmas.{name_is_utf8}
use Rattle.roster_form.proofs.decode.name_of.Goals as goal

pub unreachable-requires : goal.unreachable-requires
unreachable-requires c = c.in-Err.ensures.cases.0 (name_is_utf8 c.args.bytes.now c.requires.alphabet)
