use Rattle.std.proofs.Common.{◌≡◌, ◌++◌, length}
use Rattle.std.specs.Map.{keys_of}
use Rattle.partition_map.proofs.readied.copy_first.Given as goal

-- the keys so far and those that are left are all
abbrev pub invariant-loop-first : goal.invariant-loop-first
invariant-loop-first l = l.keys.items ++ keys_of l.rest ≡ keys_of l.pairs

abbrev pub decreases-loop-first : goal.decreases-loop-first
decreases-loop-first l = length l.rest
