use Rattle.answer_laws.proofs.AnsweredLemmas.{held_whole}
use Rattle.answer_laws.proofs.laws.answered_changes_are_stored.Goals as goal

pub returns : goal.returns
returns g c = λ hosts first last commands answers tells run is made sound. held_whole hosts first last commands answers _ tells run is.faults is.files made sound
