use Rattle.std.proofs.Common.{◌≡◌, ◌*◌, ◌≤◌, take, sum_by}
use Rattle.cache_model.specs.PlainList.{pair_length}
use Rattle.cache_model.proofs.lengths.length_of_pairs.Given as goal

-- the lengths so far, and their bound
abbrev pub invariant-loop-pair : goal.invariant-loop-pair
invariant-loop-pair l = (l.total ≡ sum_by pair_length (take l.pair-index l.pairs)) × (l.total ≤ l.pair-index * 66566)
