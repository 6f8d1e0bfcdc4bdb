-- Whether a pair has the key is the same for the reversed pairs.
use Rattle.cache_model.proofs.PairsLemmas.{is_some_lookup-reverse}
use Rattle.cache_model.proofs.plain.value_put.Goals as goal

pub returns-in-Some : goal.returns-in-Some
returns-in-Some c = rw (← is_some_lookup-reverse, ← c.in-Some.ensures)

pub returns-in-None : goal.returns-in-None
returns-in-None c = rw (← is_some_lookup-reverse, ← c.in-None.ensures)
