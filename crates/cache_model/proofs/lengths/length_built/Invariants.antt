use Rattle.std.proofs.Common.{◌≡◌, take, sum_by}
use Rattle.cache_model.specs.PlainList.{spelled_length}
use Rattle.cache_model.proofs.lengths.length_built.Given as goal

-- the lengths so far
abbrev pub invariant-loop-mutation : goal.invariant-loop-mutation
invariant-loop-mutation l = l.total ≡ sum_by spelled_length (take l.mutation-index l.mutations)
