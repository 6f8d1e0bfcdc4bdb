use Rattle.std.proofs.Common.{◌≡◌, ◌++◌}
use Rattle.partition_map.specs.Place.{pairs_shown}
use Rattle.partition_map.proofs.places.copy_pairs.Given as goal

-- the pairs so far and those that are left are all
abbrev pub invariant-loop-key : goal.invariant-loop-key
invariant-loop-key l = l.pairs.entries ++ pairs_shown l.key-iterator ≡ pairs_shown l.places.entries
