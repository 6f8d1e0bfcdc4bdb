use Rattle.std.proofs.Common.{◌≡◌, ◌++◌}
use Rattle.partition_map.proofs.copy.copy_places.Given as goal

-- the places so far and those that are left are all
abbrev pub invariant-loop-key : goal.invariant-loop-key
invariant-loop-key l = l.copied.entries ++ l.key-iterator ≡ l.places.entries
