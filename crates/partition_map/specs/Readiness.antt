-- When a map takes a change without memory.
use Rattle.std.specs.Prelude.{◌≡◌, ℕ, ◌+◌, ◌<◌, ◌≤◌, ◌^◌, ⊤, [], ◌∷◌, length, true, Some}
use Rattle.std.specs.List.{AllByRecursion}
use Rattle.std.specs.Map.{lookup}
use Rattle.cache_key.specs.Names.{most_pairs}
use Rattle.cache_key.specs.declared.request.Mutation.TheVariants.{Put, Ensure, Batch}
use Rattle.cache_model.specs.Caches.{same}
use Rattle.cache_model.specs.Change.{Change, put, remove, ensure, truncate, destroy, batch, reset}
use Rattle.cache_model.specs.PlainList.{live, growth_of}
use Rattle.partition_map.specs.declared.extent.Extent.{Extent}
use Rattle.partition_map.specs.Extents.{Extents, Maps, caches_in, more_count, more_bytes}
use Rattle.partition_map.specs.Order.{cache_changed, brings}
use Rattle.partition_map.specs.Place.{PlaceList, HasPlace, value_count, value_bytes}

-- every key that the change puts has its place
abbrev pub HasPlacesFor : Change → PlaceList → Type 0
HasPlacesFor (put c k v) places = HasPlace places k
HasPlacesFor (remove c k) places = ⊤
HasPlacesFor (ensure c) places = ⊤
HasPlacesFor (truncate c) places = ⊤
HasPlacesFor (destroy c) places = ⊤
HasPlacesFor (batch c pairs) places = AllByRecursion (λ p. HasPlace places p.0) pairs
HasPlacesFor (reset caches) places = ⊤

-- the change needs no memory in these places, and their sums stay small
pub record IsAppliable (change : Change) (places : PlaceList) : Type 0 where
  pub has : HasPlacesFor change places
  pub counts : value_count places + more_count change < 2 ^ 62
  pub bytes : value_bytes places + more_bytes change < 2 ^ 62

-- the extent of the change's cache, which is appliable
abbrev pub HasExtentFor : Change → Extents → Type 0
HasExtentFor change extents = (extent : Extent) × (lookup (same (cache_changed change)) extents ≡ Some extent) × IsAppliable change extent.places

-- by how much the change may lengthen a store of the contents: a batch without pairs is an ensure
abbrev pub room_for : Change → ℕ
room_for (put c k v) = growth_of (Put c k v)
room_for (remove c k) = 0
room_for (ensure c) = growth_of (Ensure c)
room_for (truncate c) = 0
room_for (destroy c) = 0
room_for (batch c []) = growth_of (Ensure c)
room_for (batch c (p ∷ ps)) = growth_of (Batch c (p ∷ ps))
room_for (reset caches) = 0

-- a batch has at most as many pairs as one may have
abbrev pub HasFewPairs : Change → Type 0
HasFewPairs (put c k v) = ⊤
HasFewPairs (remove c k) = ⊤
HasFewPairs (ensure c) = ⊤
HasFewPairs (truncate c) = ⊤
HasFewPairs (destroy c) = ⊤
HasFewPairs (batch c pairs) = length pairs ≤ most_pairs
HasFewPairs (reset caches) = ⊤

-- all memory is there for a change that makes its cache present, and the store of its contents stays below the limit
pub record HasRoomFor (change : Change) (maps : Maps) : Type 0 where
  pub extent : HasExtentFor change maps.extents
  pub room : 0 < maps.room
  pub names : length maps.names < 2 ^ 32
  pub few : HasFewPairs change
  pub fits : live (caches_in maps.extents) + room_for change < 2 ^ 48

-- the map takes this change without memory: one that makes no cache present never needs any
abbrev pub IsReadyFor : Change → Maps → Type 0
IsReadyFor change maps = brings change ≡ true → HasRoomFor change maps
