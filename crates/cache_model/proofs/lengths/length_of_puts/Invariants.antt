use Rattle.std.proofs.Common.{◌≡◌, ◌*◌, ◌≤◌, take, sum_by}
use Rattle.cache_model.specs.PlainList.{spelled_length, puts_of}
use Rattle.cache_model.proofs.lengths.length_of_puts.Given as goal

-- the lengths so far, and their bound
abbrev pub invariant-loop-pair : goal.invariant-loop-pair
invariant-loop-pair l =
    (l.total ≡ sum_by spelled_length (puts_of l.cache (take l.pair-index l.pairs))) × (l.total ≤ l.pair-index * 66632)
