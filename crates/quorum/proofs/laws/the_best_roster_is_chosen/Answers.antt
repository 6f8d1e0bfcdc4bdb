use Rattle.quorum.proofs.BestLemmas.{chosen_best}
use Rattle.quorum.proofs.laws.the_best_roster_is_chosen.Goals as goal

pub returns : goal.returns
returns c = chosen_best
