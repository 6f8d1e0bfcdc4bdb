use Rattle.std.proofs.Common.{◌≡◌, ℕ, ◌+◌, ◌≤◌, List, length}
use Rattle.std.specs.List.{AllByRecursion}
use Rattle.std.specs.List.Sorted.{IsStrictlySortedBy}
use Rattle.std.specs.Ordering.{nat_cmp}
use Rattle.std.specs.Cmp.Lexicographic.{slice_cmp}
use Rattle.std.specs.Map.{keys_of}
use Rattle.std.specs.Vec.Iter.{into_iter_items, into_iter_len}
use Rattle.partition_map.specs.Place.{value_at, HasPlace, HidesNoMore, value_count, value_bytes}
use Rattle.partition_map.specs.Extents.{value_put, pair_bytes}
use Rattle.partition_map.proofs.extent.put_pairs.Given as goal

-- what is left to put leads to the same values, has its places, and fits
abbrev pub invariant-loop-key : goal.invariant-loop-key
invariant-loop-key l =
    ((key : List ℕ) → value_put (into_iter_items l.key-iterator) key (value_at l.places key) ≡ value_put (into_iter_items l.initial.key-iterator) key (value_at l.initial.places key))
    × AllByRecursion (λ p. HasPlace l.places p.0) (into_iter_items l.key-iterator)
    × (value_count l.places + length (into_iter_items l.key-iterator) ≤ value_count l.initial.places + length (into_iter_items l.initial.key-iterator))
    × (value_bytes l.places + pair_bytes (into_iter_items l.key-iterator) ≤ value_bytes l.initial.places + pair_bytes (into_iter_items l.initial.key-iterator))
    × (IsStrictlySortedBy (slice_cmp nat_cmp) (keys_of l.initial.places) → IsStrictlySortedBy (slice_cmp nat_cmp) (keys_of l.places))
    × (into_iter_len l.key-iterator ≡ length (into_iter_items l.key-iterator))
    × HidesNoMore l.initial.places l.places
