-- The contents after a list of changes, computed: in the one order, with the length and the items of a store that has them alone.
use Rattle.std.specs.Prelude.{ℕ, ◌+◌, ◌-◌, List, [], ◌∷◌, length, reverse, Option, Some, None}
use Rattle.std.specs.Ordering.{nat_cmp}
use Rattle.std.specs.Cmp.Lexicographic.{slice_cmp}
use Rattle.std.specs.Map.{lookup, remove_entry}
use Rattle.std.specs.BTreeMap.{insert_entry}
use Rattle.cache_key.specs.declared.request.Mutation.{Mutation}
use Rattle.cache_key.specs.declared.request.Mutation.TheVariants.{Put, Remove, Ensure, Truncate, Destroy, Batch}
use Rattle.cache_model.specs.Caches.{same, Pairs, Caches}
use Rattle.cache_model.specs.Change.{Change, put, remove, ensure, truncate, destroy, batch, reset}
use Rattle.cache_model.specs.PlainList.{plain_list, live, record_overhead, spelled_length}
use Rattle.cache_model.specs.Size.{pairs_in}
use Rattle.cluster_model.specs.Memory.{Setting}
use Rattle.cluster_model.specs.Site.{SiteShape}

-- ---- one change

-- the entry with this key has this value, in the order of the keys
abbrev pub with_entry : {X : Type 0} → List (List ℕ × X) → List ℕ → X → List (List ℕ × X)
with_entry entries key value = insert_entry (slice_cmp nat_cmp) entries key value

-- the cache is there, with its pairs if it was there
abbrev pub with_cache : Caches → List ℕ → Caches
with_cache caches cache = with_entry caches cache (pairs_in caches cache)

-- this value is at the key of the cache, which is there
abbrev pub with_pair : Caches → List ℕ → List ℕ → List ℕ → Caches
with_pair caches cache key value = with_entry caches cache (with_entry (pairs_in caches cache) key value)

-- so are these pairs, one after the other
abbrev pub with_each_pair : Caches → List ℕ → Pairs → Caches
with_each_pair caches cache [] = caches
with_each_pair caches cache (pair ∷ pairs) = with_each_pair (with_pair caches cache pair.0 pair.1) cache pairs

-- where the cache is there, it has these pairs
abbrev pub with_pairs_if : Option Pairs → Caches → List ℕ → Pairs → Caches
with_pairs_if None caches cache pairs = caches
with_pairs_if (Some old) caches cache pairs = with_entry caches cache pairs

-- the contents after one change more
abbrev pub changed_by : Change → Caches → Caches
changed_by (put cache key value) caches = with_pair caches cache key value
changed_by (remove cache key) caches = with_pairs_if (lookup (same cache) caches) caches cache (remove_entry (same key) (pairs_in caches cache))
changed_by (ensure cache) caches = with_cache caches cache
changed_by (truncate cache) caches = with_pairs_if (lookup (same cache) caches) caches cache []
changed_by (destroy cache) caches = remove_entry (same cache) caches
changed_by (batch cache pairs) caches = with_each_pair (with_cache caches cache) cache pairs
changed_by (reset all) caches = all

-- ---- all of them

-- the contents after these changes, the newest first
abbrev pub caches_looking_back : List Change → Caches
caches_looking_back [] = []
caches_looking_back (newest ∷ older) = changed_by newest (caches_looking_back older)

-- the contents after these changes, the oldest first
abbrev pub contents_of : List Change → Caches
contents_of changes = caches_looking_back (reverse changes)

-- the canonical list of the contents after these changes
abbrev pub canonical_list : List Change → List Mutation
canonical_list changes = plain_list (contents_of changes)

-- ---- lengths

-- the bytes of a change's record; a reset has none, since it isn't appended
abbrev pub record_size : Change → ℕ
record_size (put cache key value) = record_overhead + spelled_length (Put cache key value)
record_size (remove cache key) = record_overhead + spelled_length (Remove cache key)
record_size (ensure cache) = record_overhead + spelled_length (Ensure cache)
record_size (truncate cache) = record_overhead + spelled_length (Truncate cache)
record_size (destroy cache) = record_overhead + spelled_length (Destroy cache)
record_size (batch cache pairs) = record_overhead + spelled_length (Batch cache pairs)
record_size (reset all) = 0

-- what a run on this site goes by: lengths and items are those of the canonical list
abbrev pub canonical_setting : SiteShape → Setting
canonical_setting shape = record {
  shape = shape;
  gate = λ changes. live (contents_of changes) - 1;
  items = λ changes. length (canonical_list changes);
  taken = record_size;
}
