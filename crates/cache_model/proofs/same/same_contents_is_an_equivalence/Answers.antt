-- An equivalence.
use Rattle.cache_model.proofs.SameLemmas.{same_itself, same_turned, same_joined}
use Rattle.cache_model.proofs.same.same_contents_is_an_equivalence.Goals as goal

pub returns-clause-itself : goal.returns-clause-itself
returns-clause-itself c changes = same_itself changes

pub returns-clause-turned : goal.returns-clause-turned
returns-clause-turned c changes others same = same_turned changes others same

pub returns-clause-joined : goal.returns-clause-joined
returns-clause-joined c changes between others first second = same_joined changes between others first second
