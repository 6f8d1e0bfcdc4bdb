use Rattle.std.proofs.Common.{subst, arith}
use Rattle.store_journal.specs.Loading.{IsIdentified}
use Rattle.newest_store.proofs.NewestLemmas.{first_newest, second_newest}
use Rattle.newest_store.proofs.search.newer.Goals as goal

pub returns-then-first-second-clause-newest : goal.returns-then-first-second-clause-newest
returns-then-first-second-clause-newest c =
    (omega arith, λ m is also. second_newest m _ _ c.if-first-second.true (subst (IsIdentified (m 0)) c.in-Some-Some.is-0 is) (subst (IsIdentified (m 1)) c.in-Some-Some.is-1 also))

pub returns-else-first-second-clause-newest : goal.returns-else-first-second-clause-newest
returns-else-first-second-clause-newest c =
    (omega arith, λ m is also. first_newest m _ _ c.if-first-second.false (subst (IsIdentified (m 0)) c.in-Some-Some.is-0 is) (subst (IsIdentified (m 1)) c.in-Some-Some.is-1 also))
