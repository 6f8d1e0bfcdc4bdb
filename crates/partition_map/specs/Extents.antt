-- The extents of a partition: each is a cache that is there, or one for which places were made ready.
use Rattle.std.specs.Prelude.{◌≡◌, ℕ, ◌<◌, ◌+◌, ◌^◌, List, [], ◌∷◌, length, sum_by, Bool, false, Option, Some, None, if◌then◌else◌}
use Rattle.std.specs.Option.{option_map_or}
use Rattle.std.specs.List.{AllByRecursion}
use Rattle.std.specs.Map.{keys_of}
use Rattle.cache_key.specs.declared.request.Mutation.{Mutation}
use Rattle.cache_model.specs.Caches.{same, Pairs, Caches}
use Rattle.cache_model.specs.Change.{Change, put, remove, ensure, truncate, destroy, batch, reset, writes, value_left, rules, presence_left}
use Rattle.cache_model.specs.Contents.{IsRising}
use Rattle.cache_model.specs.PlainList.{plain_cache, plain_list, spelled_length, live}
use Rattle.partition_map.specs.declared.extent.Extent.{Extent}
use Rattle.partition_map.specs.Order.{cache_changed}
use Rattle.partition_map.specs.Place.{value_at, SameValues, HidesNoMore, shown_by, pairs_shown}

-- the extents by the names of their caches
abbrev pub Extents : Type 0
Extents = List (List ℕ × Extent)

-- what a partition's contents are kept as: the extents, the names of all caches that there ever were in the order of
-- their numbers, and how many more names need no memory
pub record Maps : Type 0 where
  pub extents : Extents
  pub names : List (List ℕ)
  pub room : ℕ

-- whether an extent was found whose cache is there
abbrev pub presence_held : Option Extent → Bool
presence_held found = option_map_or (λ (e : Extent). e.present) found false

-- the pairs of the cache, if it is there
abbrev pub extent_shown : Extent → Option Pairs
extent_shown extent = if extent.present then Some (pairs_shown extent.places) else None

-- the contents that the extents show
abbrev pub caches_in : Extents → Caches
caches_in extents = shown_by extent_shown extents

-- the items of the plain list that are of this cache
abbrev pub plain_in : List ℕ → Extent → List Mutation
plain_in name extent = option_map_or (plain_cache name) (extent_shown extent) []

-- how many items of the plain list are of this cache
abbrev pub extent_items : List ℕ → Extent → ℕ
extent_items name extent = option_map_or (λ pairs. length (plain_cache name pairs)) (extent_shown extent) 0

-- how many bytes these items take
abbrev pub extent_bytes : List ℕ → Extent → ℕ
extent_bytes name extent = option_map_or (λ pairs. sum_by spelled_length (plain_cache name pairs)) (extent_shown extent) 0

-- the keys stand in byte order, and a cache that isn't there has no values
pub record IsWhole (extent : Extent) : Type 0 where
  pub rises : IsRising (keys_of extent.places)
  pub bare : extent.present ≡ false → (key : List ℕ) → value_at extent.places key ≡ None

-- the kept sums are those of the plain list, and a store of it is below the limit
pub record AreKept (extents : Extents) (count total : ℕ) : Type 0 where
  pub whole : AllByRecursion (λ e. IsWhole e.1) extents
  pub rises : IsRising (keys_of extents)
  pub items : count ≡ length (plain_list (caches_in extents))
  pub bytes : total ≡ sum_by spelled_length (plain_list (caches_in extents))
  pub fits : live (caches_in extents) < 2 ^ 48

-- what stands at the key once these pairs were put where this stood
abbrev pub value_put : Pairs → List ℕ → Option (List ℕ) → Option (List ℕ)
value_put [] key was = was
value_put (p ∷ ps) key was = value_put ps key (if same p.0 key then Some p.1 else was)

-- the bytes of the pairs
abbrev pub pair_bytes : Pairs → ℕ
pair_bytes pairs = sum_by (λ p. length p.0 + length p.1) pairs

-- how many keys the change adds at most
abbrev pub more_count : Change → ℕ
more_count (put c k v) = 1
more_count (remove c k) = 0
more_count (ensure c) = 0
more_count (truncate c) = 0
more_count (destroy c) = 0
more_count (batch c pairs) = length pairs
more_count (reset caches) = 0

-- how many bytes of keys and values
abbrev pub more_bytes : Change → ℕ
more_bytes (put c k v) = length k + length v
more_bytes (remove c k) = 0
more_bytes (ensure c) = 0
more_bytes (truncate c) = 0
more_bytes (destroy c) = 0
more_bytes (batch c pairs) = pair_bytes pairs
more_bytes (reset caches) = 0

-- the cache after the change, which is one of this cache
pub record IsExtentAfter (change : Change) (old new : Extent) : Type 0 where
  pub presence : new.present ≡ (if rules change (cache_changed change) then presence_left change (cache_changed change) else old.present)
  pub values : (key : List ℕ) → value_at new.places key ≡ (if writes change (cache_changed change) key then value_left change (cache_changed change) key else value_at old.places key)
  pub rises : IsRising (keys_of old.places) → IsRising (keys_of new.places)
  pub hidden : HidesNoMore old.places new.places

-- the extent shows what it showed
pub record IsShownSame (old new : Extent) : Type 0 where
  pub presence : new.present ≡ old.present
  pub values : SameValues old.places new.places
  pub rises : IsRising (keys_of old.places) → IsRising (keys_of new.places)
