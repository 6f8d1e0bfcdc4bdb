-- The items of the plain list that stand after one of them, which may be gone.
use Rattle.std.specs.Prelude.{ℕ, List, Bool, true, false, filter, ◌++◌, Option, None, Some}
use Rattle.std.specs.Ordering.{nat_cmp}
use Rattle.std.specs.Cmp.Lexicographic.{slice_cmp}
use Rattle.std.specs.declared.cmp.Ordering.{Ordering}
use Rattle.std.specs.declared.cmp.Ordering.TheVariants.{Less, Equal, Greater}
use Rattle.cache_key.specs.declared.request.Mutation.{Mutation}
use Rattle.cache_model.specs.Caches.{Pairs, Caches}
use Rattle.cache_model.specs.PlainList.{puts_of, plain_list}
use Rattle.cache_model.specs.Size.{pairs_in}
use Rattle.partition_map.specs.declared.item.LastItem.{LastItem}
use Rattle.partition_map.specs.declared.item.LastItem.TheVariants.{Cache, Entry}

abbrev pub is_less : Ordering → Bool
is_less Less = true
is_less Equal = false
is_less Greater = false

-- whether the other text comes after this one in byte order
abbrev pub comes_after : List ℕ → List ℕ → Bool
comes_after text other = is_less (slice_cmp nat_cmp text other)

-- the caches whose names come after this one
abbrev pub caches_after : List ℕ → Caches → Caches
caches_after name caches = filter (λ c. comes_after name c.0) caches

-- the pairs whose keys come after this one
abbrev pub pairs_after : List ℕ → Pairs → Pairs
pairs_after key pairs = filter (λ p. comes_after key p.0) pairs

-- the items of the plain list of these contents that stand after an item, or all
abbrev pub items_after : Option LastItem → Caches → List Mutation
items_after None caches = plain_list caches
items_after (Some (Cache cache)) caches = plain_list (caches_after cache caches)
items_after (Some (Entry entry)) caches = puts_of entry.cache (pairs_after entry.key (pairs_in caches entry.cache)) ++ plain_list (caches_after entry.cache caches)
