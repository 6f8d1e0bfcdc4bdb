-- A request over several partitions: the part that each has, and what the parts' replies come to.
use Rattle.std.specs.Prelude.{◌≢◌, ℕ, zero, suc, ◌==◌, List, [], ◌∷◌, ◌++◌, map, sum_by, if◌then◌else◌}
use Rattle.cache_key.specs.Partition.{hash_partition}
use Rattle.cache_key.specs.declared.request.Request.{Request}
use Rattle.cache_key.specs.declared.request.Request.TheVariants.{Get, Put, Remove, Ensure, Truncate, Destroy, PutAll, Size}
use Rattle.cache_key.specs.declared.request.Reply.{Reply}
use Rattle.cache_key.specs.declared.request.Reply.TheVariants.{Value, Count, Done}
use Rattle.cache_model.specs.Caches.{Pairs}

-- the pairs whose keys are in this partition of so many, in their order
abbrev pub pairs_in_partition : ℕ → ℕ → Pairs → Pairs
pairs_in_partition count partition [] = []
pairs_in_partition count partition (pair ∷ pairs) =
    if hash_partition pair.0 count == partition then pair ∷ pairs_in_partition count partition pairs else pairs_in_partition count partition pairs

-- a request of a key goes to the key's partition alone
abbrev pub where_key : ℕ → ℕ → List ℕ → Request → List Request
where_key count partition key request = if hash_partition key count == partition then request ∷ [] else []

-- a putAll goes to the partitions of its keys
abbrev pub some_pairs : List ℕ → Pairs → List Request
some_pairs cache [] = []
some_pairs cache (pair ∷ pairs) = PutAll cache (pair ∷ pairs) ∷ []

-- the part of a request that goes to this partition of so many: one, or none
abbrev pub part_in : ℕ → ℕ → Request → List Request
part_in count partition (Get cache key) = where_key count partition key (Get cache key)
part_in count partition (Put cache key value) = where_key count partition key (Put cache key value)
part_in count partition (Remove cache key) = where_key count partition key (Remove cache key)
part_in count partition (Ensure cache) = Ensure cache ∷ []
part_in count partition (Truncate cache) = Truncate cache ∷ []
part_in count partition (Destroy cache) = Destroy cache ∷ []
part_in count partition (PutAll cache pairs) = some_pairs cache (pairs_in_partition count partition pairs)
part_in count partition (Size cache) = Size cache ∷ []

-- the parts in the partitions below this one, each with its partition, in their order
abbrev pub parts_below : ℕ → ℕ → Request → List (ℕ × Request)
parts_below count zero request = []
parts_below count (suc partition) request = parts_below count partition request ++ map (λ part. (partition, part)) (part_in count partition request)

-- the parts of a request over so many partitions, by rising partition
abbrev pub parts_of : ℕ → Request → List (ℕ × Request)
parts_of count request = parts_below count count request

-- some partition has a part of the request: it isn't a putAll of no pairs
abbrev pub HasPart : Request → Type 0
HasPart request = (cache : List ℕ) → request ≢ PutAll cache []

-- ---- replies

abbrev pub count_in : Reply → ℕ
count_in (Value value) = 0
count_in (Count count) = count
count_in Done = 0

-- the reply of the one part
abbrev pub only_reply : List Reply → Reply
only_reply [] = Done
only_reply (reply ∷ replies) = reply

-- what the replies of its parts come to: a size is their sum, and what has one part is replied as that is
abbrev pub joined_reply : Request → List Reply → Reply
joined_reply (Get cache key) replies = only_reply replies
joined_reply (Put cache key value) replies = only_reply replies
joined_reply (Remove cache key) replies = only_reply replies
joined_reply (Ensure cache) replies = Done
joined_reply (Truncate cache) replies = Done
joined_reply (Destroy cache) replies = Done
joined_reply (PutAll cache pairs) replies = Done
joined_reply (Size cache) replies = Count (sum_by count_in replies)
