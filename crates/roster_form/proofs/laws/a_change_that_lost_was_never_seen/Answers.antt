use Rattle.roster_form.proofs.SuccessionLemmas.{unseen}
use Rattle.roster_form.proofs.laws.a_change_that_lost_was_never_seen.Goals as goal

pub returns : goal.returns
returns c = unseen
