-- How many keys of a cache have a value after a list of changes.
use Rattle.std.specs.Prelude.{ℕ, List, [], ◌∷◌, filter, is_some, unwrap_or}
use Rattle.std.specs.List.{flat_map}
use Rattle.std.specs.Map.{lookup, keys_of}
use Rattle.std.specs.Set.{distinct_count}
use Rattle.cache_model.specs.Caches.{same, Pairs, Caches}
use Rattle.cache_model.specs.Change.{Change, put, remove, ensure, truncate, destroy, batch, reset}
use Rattle.cache_model.specs.Contents.{value_after}

-- the keys that a change names, in whichever cache
abbrev pub keys_named : Change → List (List ℕ)
keys_named (put c k v) = k ∷ []
keys_named (remove c k) = k ∷ []
keys_named (ensure c) = []
keys_named (truncate c) = []
keys_named (destroy c) = []
keys_named (batch c pairs) = keys_of pairs
keys_named (reset caches) = flat_map (λ c. keys_of c.1) caches

-- of the keys that the changes name, how many have a value in the cache after them, each counted once
abbrev pub size_after : List Change → List ℕ → ℕ
size_after changes cache = distinct_count same (filter (λ key. is_some (value_after changes cache key)) (flat_map keys_named changes))

-- the pairs of a cache: none where it isn't there
abbrev pub pairs_in : Caches → List ℕ → Pairs
pairs_in caches cache = unwrap_or (lookup (same cache) caches) []
