use Rattle.record_form.proofs.HeaderLemmas.{header_text-injective}
use Rattle.record_form.proofs.GroupFaultLemmas.{group_text-injective}
use Rattle.record_form.proofs.laws.spellings_are_one.Goals as goal

pub returns : goal.returns
returns c = record { header = header_text-injective; group = group_text-injective; size = λ group is. is.size }
