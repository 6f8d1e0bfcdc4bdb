-- The record that a build writes next.
use Rattle.std.specs.Prelude.{◌≡◌, ℕ, ◌≤◌, List, length, take, drop, Some}
use Rattle.cache_key.specs.declared.request.Mutation.{Mutation}
use Rattle.cache_model.specs.Caches.{Caches}
use Rattle.partition_map.specs.Items.{items_after}
use Rattle.partition_map.specs.declared.item.LastItem.{LastItem}
use Rattle.record_form.specs.GroupText.{IsGroup}
use Rattle.store_build.specs.Batches.{batch_size}
use Rattle.store_build.specs.Built.{record_text}

-- of these items, which are left of a plain list, the bytes are the record of the next batch, and this is the item after which
-- the rest stands
pub record IsNextRecord (caches : Caches) (left : List Mutation) (bytes : List ℕ) (last : LastItem) : Type 0 where
  pub some : 1 ≤ length left
  pub group : IsGroup (take batch_size left)
  pub text : bytes ≡ record_text (take batch_size left)
  pub next : items_after (Some last) caches ≡ drop batch_size left
