use Rattle.std.proofs.Common.{arith}
use Rattle.newest_store.proofs.ChoiceLemmas.{first_counts, second_counts}
use Rattle.newest_store.proofs.choice.newer_of_two.Goals as goal

pub returns-then-id-other-clause-newest : goal.returns-then-id-other-clause-newest
returns-then-id-other-clause-newest c m first second = second_counts m _ _ _ _ _ c.in-Some-Some.is-0 c.in-Some-Some.is-1 c.if-id-other.true first second

pub returns-else-id-other-clause-newest : goal.returns-else-id-other-clause-newest
returns-else-id-other-clause-newest c m first second = first_counts m _ _ _ _ _ c.in-Some-Some.is-0 c.in-Some-Some.is-1 (omega (arith, c.if-id-other.false)) first second
