use Rattle.std.proofs.Common.{◌≡◌, ◌+◌}
use Rattle.partition_map.specs.Place.{value_count}
use Rattle.partition_map.proofs.places.count_values.Given as goal

-- the values so far and those of what is left are all
abbrev pub invariant-loop-place : goal.invariant-loop-place
invariant-loop-place l = l.count + value_count l.place-iterator ≡ value_count l.fn.places
