-- The limits are those of the pairs inside.
use Rattle.std.proofs.Common.{subst, All, List, ℕ}
use Rattle.cache_key.specs.Names.{IsPair}
use Rattle.cache_key.proofs.pairs.Pairs.as_slice.Goals as goal

pub returns-clause-limits : goal.returns-clause-limits
returns-clause-limits c = subst (λ (l : List (List ℕ × List ℕ)). All IsPair l) c.self.view_is c.self.invariant.1
