use Rattle.std.proofs.Common.{length}
use Rattle.std.specs.List.Sorted.{IsStrictlySortedBy}
use Rattle.std.specs.Ordering.{nat_cmp}
use Rattle.std.specs.Cmp.Lexicographic.{slice_cmp}
use Rattle.std.specs.Map.{keys_of}
use Rattle.partition_map.specs.Place.{SameValues, HidesOnly}
use Rattle.partition_map.proofs.extent.forget_keys.Given as goal

-- the same values; and only the rest may be hidden
abbrev pub invariant-loop-first : goal.invariant-loop-first
invariant-loop-first l =
    (IsStrictlySortedBy (slice_cmp nat_cmp) (keys_of l.initial.places) → IsStrictlySortedBy (slice_cmp nat_cmp) (keys_of l.places))
    × SameValues l.initial.places l.places
    × (HidesOnly l.keys l.initial.places → HidesOnly l.rest l.places)

abbrev pub decreases-loop-first : goal.decreases-loop-first
decreases-loop-first l = length l.rest
