-- What may happen to the contents of a partition, and what of it decides. Texts are their bytes.
use Rattle.std.specs.Prelude.{ℕ, List, map, reverse, Bool, true, false, ◌&&◌, Option, Some, None, is_some}
use Rattle.std.specs.Map.{lookup}
use Rattle.cache_key.specs.declared.request.Mutation.{Mutation}
use Rattle.cache_key.specs.declared.request.Mutation.TheVariants.{Put, Remove, Ensure, Truncate, Destroy, Batch}
use Rattle.cache_model.specs.Caches.{same, Pairs, Caches, value_in}

-- a change of one partition
pub data Change : Type 0 where
  -- this value at this key of this cache
  put : List ℕ → List ℕ → List ℕ → Change
  -- no value at this key of this cache
  remove : List ℕ → List ℕ → Change
  -- this cache is there
  ensure : List ℕ → Change
  -- no key in this cache
  truncate : List ℕ → Change
  -- this cache isn't there
  destroy : List ℕ → Change
  -- these values at these keys of this cache, one after the other
  batch : List ℕ → Pairs → Change
  -- these contents in place of all
  reset : Caches → Change

-- the change that a mutation of the program is
abbrev pub change_of : Mutation → Change
change_of (Put cache key value) = put cache key value
change_of (Remove cache key) = remove cache key
change_of (Ensure cache) = ensure cache
change_of (Truncate cache) = truncate cache
change_of (Destroy cache) = destroy cache
change_of (Batch cache pairs) = batch cache pairs

abbrev pub changes_of : List Mutation → List Change
changes_of mutations = map change_of mutations

-- whether a change decides what stands at the key of the cache
abbrev pub writes : Change → List ℕ → List ℕ → Bool
writes (put c k v) cache key = same c cache && same k key
writes (remove c k) cache key = same c cache && same k key
writes (ensure c) cache key = false
writes (truncate c) cache key = same c cache
writes (destroy c) cache key = same c cache
writes (batch c pairs) cache key = same c cache && is_some (lookup (same key) pairs)
writes (reset caches) cache key = true

-- what a change that writes the key leaves there; of a batch the last pair with the key
abbrev pub value_left : Change → List ℕ → List ℕ → Option (List ℕ)
value_left (put c k v) cache key = Some v
value_left (remove c k) cache key = None
value_left (ensure c) cache key = None
value_left (truncate c) cache key = None
value_left (destroy c) cache key = None
value_left (batch c pairs) cache key = lookup (same key) (reverse pairs)
value_left (reset caches) cache key = value_in caches cache key

-- whether a change decides if the cache is there
abbrev pub rules : Change → List ℕ → Bool
rules (put c k v) cache = same c cache
rules (remove c k) cache = false
rules (ensure c) cache = same c cache
rules (truncate c) cache = false
rules (destroy c) cache = same c cache
rules (batch c pairs) cache = same c cache
rules (reset caches) cache = true

-- whether the cache is there after a change that rules it
abbrev pub presence_left : Change → List ℕ → Bool
presence_left (put c k v) cache = true
presence_left (remove c k) cache = false
presence_left (ensure c) cache = true
presence_left (truncate c) cache = false
presence_left (destroy c) cache = false
presence_left (batch c pairs) cache = true
presence_left (reset caches) cache = is_some (lookup (same cache) caches)
