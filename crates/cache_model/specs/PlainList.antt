-- Contents as one list of mutations, and how long a store file of it is. Lengths are in bytes.
use Rattle.std.specs.Prelude.{ℕ, ◌+◌, ◌*◌, ◌/◌, ◌≤◌, ⊤, List, [], ◌∷◌, map, length, sum_by}
use Rattle.std.specs.List.{flat_map}
use Rattle.cache_key.specs.declared.request.Mutation.{Mutation}
use Rattle.cache_key.specs.declared.request.Mutation.TheVariants.{Put, Remove, Ensure, Truncate, Destroy, Batch}
use Rattle.cache_model.specs.Caches.{Pairs, Caches}

-- ---- the plain list

-- the put of each pair, in their order
abbrev pub puts_of : List ℕ → Pairs → List Mutation
puts_of cache pairs = map (λ pair. Put cache pair.0 pair.1) pairs

-- the plain list of one cache: the put of each key, and of a cache without keys one ensure
abbrev pub plain_cache : List ℕ → Pairs → List Mutation
plain_cache cache [] = Ensure cache ∷ []
plain_cache cache (first ∷ others) = puts_of cache (first ∷ others)

-- the plain list of contents: cache after cache, in their order
abbrev pub plain_list : Caches → List Mutation
plain_list caches = flat_map (λ c. plain_cache c.0 c.1) caches

-- ---- lengths

-- the length of a text after a number that counts its bytes and takes so many itself
abbrev pub counted : ℕ → List ℕ → ℕ
counted size text = size + length text

-- the length of a key and its value
abbrev pub pair_length : List ℕ × List ℕ → ℕ
pair_length pair = counted 2 pair.0 + counted 4 pair.1

-- the length of a mutation: a tag of one byte, the cache, and what follows; a batch counts its pairs in one byte
abbrev pub spelled_length : Mutation → ℕ
spelled_length (Put cache key value) = 1 + counted 1 cache + pair_length (key, value)
spelled_length (Remove cache key) = 1 + counted 1 cache + counted 2 key
spelled_length (Ensure cache) = 1 + counted 1 cache
spelled_length (Truncate cache) = 1 + counted 1 cache
spelled_length (Destroy cache) = 1 + counted 1 cache
spelled_length (Batch cache pairs) = 1 + counted 1 cache + 1 + sum_by pair_length pairs

-- the length of a store without mutations: the seal, the header and a closed gate
abbrev pub least_store_length : ℕ
least_store_length = 42

-- what a record takes beside its mutations: its gate, its length and their count
abbrev pub record_overhead : ℕ
record_overhead = 6

-- how many records hold so many mutations, where each but the last holds 64
abbrev pub records_for : ℕ → ℕ
records_for count = (count + 63) / 64

-- the length of a store that holds these mutations in such records
abbrev pub build_length : List Mutation → ℕ
build_length mutations = least_store_length + sum_by spelled_length mutations + record_overhead * records_for (length mutations)

-- the length of a store that holds the contents and nothing else
abbrev pub live : Caches → ℕ
live caches = build_length (plain_list caches)

-- by how much a mutation may lengthen such a store: by the record of its puts, or of its ensure, and else not at all
abbrev pub growth_of : Mutation → ℕ
growth_of (Put cache key value) = record_overhead + spelled_length (Put cache key value)
growth_of (Remove cache key) = 0
growth_of (Ensure cache) = record_overhead + spelled_length (Ensure cache)
growth_of (Truncate cache) = 0
growth_of (Destroy cache) = 0
growth_of (Batch cache pairs) = record_overhead + sum_by spelled_length (puts_of cache pairs)

-- the pairs of a batch; any other mutation has none
abbrev pub pairs_of : Mutation → Pairs
pairs_of (Put cache key value) = []
pairs_of (Remove cache key) = []
pairs_of (Ensure cache) = []
pairs_of (Truncate cache) = []
pairs_of (Destroy cache) = []
pairs_of (Batch cache pairs) = pairs

-- if it is a batch, it has pairs
abbrev pub HasPairs : Mutation → Type 0
HasPairs (Put cache key value) = ⊤
HasPairs (Remove cache key) = ⊤
HasPairs (Ensure cache) = ⊤
HasPairs (Truncate cache) = ⊤
HasPairs (Destroy cache) = ⊤
HasPairs (Batch cache pairs) = 1 ≤ length pairs
