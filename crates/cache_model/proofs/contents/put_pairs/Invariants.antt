use Rattle.std.proofs.Common.{take}
use Rattle.cache_model.specs.Change.{batch}
use Rattle.cache_model.specs.Shown.{caches_shown}
use Rattle.cache_model.specs.Step.{IsChangedBy}
use Rattle.cache_model.proofs.contents.put_pairs.Given as goal

-- the change of the pairs so far
abbrev pub invariant-loop-pair : goal.invariant-loop-pair
invariant-loop-pair l = IsChangedBy (batch l.cache (take l.pair-index l.pairs)) (caches_shown l.fn.caches) (caches_shown l.caches)
