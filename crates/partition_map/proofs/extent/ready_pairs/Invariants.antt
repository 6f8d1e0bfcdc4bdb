use Rattle.std.proofs.Common.{◌≡◌, ℕ, List, true, length}
use Rattle.std.specs.List.{AllByRecursion, list_any}
use Rattle.std.specs.List.Sorted.{IsStrictlySortedBy}
use Rattle.std.specs.Ordering.{nat_cmp}
use Rattle.std.specs.Cmp.Lexicographic.{slice_cmp}
use Rattle.std.specs.Map.{keys_of}
use Rattle.cache_model.specs.Caches.{same}
use Rattle.partition_map.specs.Place.{PlaceList, HasPlace, KeepsPlaces, SameValues, HidesOnly}
use Rattle.partition_map.proofs.extent.ready_pairs.Given as goal

-- the same values; and once the rest has its places, all have
abbrev pub invariant-loop-first : goal.invariant-loop-first
invariant-loop-first l =
    (IsStrictlySortedBy (slice_cmp nat_cmp) (keys_of l.initial.places) → IsStrictlySortedBy (slice_cmp nat_cmp) (keys_of l.places))
    × SameValues l.initial.places l.places
    × ((new : PlaceList) → KeepsPlaces l.places new → AllByRecursion (λ p. HasPlace new p.0) l.rest → AllByRecursion (λ p. HasPlace new p.0) l.pairs)
    × ((keys : List (List ℕ)) → AllByRecursion (λ p. list_any (same p.0) keys ≡ true) l.pairs → HidesOnly keys l.initial.places → HidesOnly keys l.places × AllByRecursion (λ p. list_any (same p.0) keys ≡ true) l.rest)

abbrev pub decreases-loop-first : goal.decreases-loop-first
decreases-loop-first l = length l.rest
