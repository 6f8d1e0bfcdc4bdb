use Rattle.partition_map.proofs.HiddenLemmas.{hides-none}
use Rattle.partition_map.proofs.places.Places.clear.Goals as goal

pub returns-clause-hidden : goal.returns-clause-hidden
returns-clause-hidden c = hides-none _ _ c.clear.ensures.empty
