use Rattle.std.proofs.Common.{refl}
use Rattle.newest_store.proofs.ChoiceLemmas.{one_more, picks_own, picks_best, picks_only}
use Rattle.newest_store.proofs.choice.chosen_of.Goals as goal

pub returns-in-NoStore-default-clause-one_of : goal.returns-in-NoStore-default-clause-one_of
returns-in-NoStore-default-clause-one_of c hosts host best own = one_more hosts host _ own

pub returns-in_default-NoStore-clause-chosen : goal.returns-in_default-NoStore-clause-chosen
returns-in_default-NoStore-clause-chosen c ms hosts host = picks_only ms hosts host _ _ _ _ _ c.in_default-NoStore.is-0 c.in_default-NoStore.is-1

pub returns-then-comes_before-clause-one_of : goal.returns-then-comes_before-clause-one_of
returns-then-comes_before-clause-one_of c hosts host best own = one_more hosts host _ own

pub returns-then-comes_before-clause-chosen : goal.returns-then-comes_before-clause-chosen
returns-then-comes_before-clause-chosen c ms hosts host =
    picks_own ms hosts host _ _ _ _ _ _ _ _ c.in-One-One.is-0 c.in-One-One.is-1 (c.if-comes_before.ensures.yes refl)

pub returns-else-comes_before-clause-chosen : goal.returns-else-comes_before-clause-chosen
returns-else-comes_before-clause-chosen c ms hosts host =
    picks_best ms hosts host _ _ _ _ _ _ _ _ c.in-One-One.is-0 c.in-One-One.is-1 (c.if-comes_before.ensures.no refl)
