use Rattle.std.proofs.Common.{List}
use Rattle.cache_model.specs.Change.{Change}
use Rattle.partition_map.specs.After.{AgreesWith}
use Rattle.build_runs.proofs.costs.filled.Given as goal

abbrev pub invariant-loop-number : goal.invariant-loop-number
invariant-loop-number g l = (changes : List Change) × AgreesWith changes l.map
