use Rattle.record_form.proofs.GroupLengthLemmas.{length-mutation_text}
use Rattle.record_form.proofs.laws.mutations_have_the_lengths_of_the_model.Goals as goal

pub returns : goal.returns
returns c = length-mutation_text
