use Rattle.quorum.proofs.JudgedLemmas.{met_passes, not_created_is, short_names}
use Rattle.quorum.proofs.laws.verdict_is_exact.Goals as goal

pub returns : goal.returns
returns c = record { met = met_passes; none = not_created_is; missing = short_names }
