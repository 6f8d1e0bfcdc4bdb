-- The plain list of contents in batches, and where a reader of it goes on.
use Rattle.std.specs.Prelude.{⊤, ◌≡◌, ℕ, ◌≤◌, List, [], ◌∷◌, length, take, drop}
use Rattle.cache_key.specs.declared.request.Mutation.{Mutation}
use Rattle.cache_key.specs.declared.request.Mutation.TheVariants.{Put, Remove, Ensure, Truncate, Destroy, Batch}
use Rattle.partition_map.specs.declared.item.LastItem.{LastItem}
use Rattle.partition_map.specs.declared.item.LastItem.TheVariants as last_items

-- the most items of a batch
abbrev pub batch_size : ℕ
batch_size = 64

-- Items are these batches, and then what is left: each batch is the next 64 items, or all that are left where they are fewer,
-- and none is empty.
abbrev pub AreBatches : List Mutation → List (List Mutation) → List Mutation → Type 0
AreBatches items [] left = items ≡ left
AreBatches items (batch ∷ batches) left = (1 ≤ length items) × (batch ≡ take batch_size items) × AreBatches (drop batch_size items) batches left

-- an item of a plain list
abbrev pub IsPlainItem : Mutation → Type 0
IsPlainItem (Put cache key value) = ⊤
IsPlainItem (Remove cache key) = ⊥
IsPlainItem (Ensure cache) = ⊤
IsPlainItem (Truncate cache) = ⊥
IsPlainItem (Destroy cache) = ⊥
IsPlainItem (Batch cache pairs) = ⊥

-- how a reader of the plain list names an item after which it goes on: a put by its key, an ensure by its cache
abbrev pub item_for : Mutation → LastItem
item_for (Put cache key value) = last_items.Entry (record { cache = cache; key = key })
item_for (Remove cache key) = last_items.Entry (record { cache = cache; key = key })
item_for (Ensure cache) = last_items.Cache cache
item_for (Truncate cache) = last_items.Cache cache
item_for (Destroy cache) = last_items.Cache cache
item_for (Batch cache pairs) = last_items.Cache cache
