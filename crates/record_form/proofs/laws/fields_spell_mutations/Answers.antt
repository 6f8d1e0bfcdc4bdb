use Rattle.record_form.proofs.GroupFaultLemmas.{fields_spelled}
use Rattle.record_form.proofs.laws.fields_spell_mutations.Goals as goal

pub returns : goal.returns
returns c = fields_spelled
