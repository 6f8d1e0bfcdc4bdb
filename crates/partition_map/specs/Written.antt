-- Extents before and after a call, of which one was written.
use Rattle.std.specs.Prelude.{◌≡◌, ◌<◌, ◌^◌, Some}
use Rattle.std.specs.List.{AllByRecursion}
use Rattle.std.specs.Map.{lookup, set_value, keys_of}
use Rattle.cache_model.specs.Caches.{same}
use Rattle.cache_model.specs.Change.{Change}
use Rattle.cache_model.specs.Contents.{IsRising}
use Rattle.partition_map.specs.declared.change.Shift.{Shift}
use Rattle.partition_map.specs.declared.extent.Extent.{Extent}
use Rattle.partition_map.specs.Extents.{Extents, IsExtentAfter, IsWhole, extent_items, extent_bytes, caches_in}
use Rattle.partition_map.specs.Order.{cache_changed}

-- the extent was changed, and this is what it had and has
pub record IsShiftOf (change : Change) (before now : Extent) (shift : Shift) : Type 0 where
  pub cache : shift.cache ≡ cache_changed change
  pub after : IsExtentAfter change before now
  pub was_present : shift.was_present ≡ before.present
  pub is_present : shift.is_present ≡ now.present
  pub gone_items : shift.gone_items ≡ extent_items (cache_changed change) before
  pub come_items : shift.come_items ≡ extent_items (cache_changed change) now
  pub gone_bytes : extent_bytes (cache_changed change) before < 2 ^ 62 → shift.gone_bytes ≡ extent_bytes (cache_changed change) before
  pub come_bytes : extent_bytes (cache_changed change) now < 2 ^ 62 → shift.come_bytes ≡ extent_bytes (cache_changed change) now

-- the extent of the change's cache was changed so
pub record IsShift (change : Change) (old new : Extents) (shift : Shift) : Type 0 where
  pub before : Extent
  pub now : Extent
  pub was : lookup (same (cache_changed change)) old ≡ Some before
  pub entries : new ≡ set_value (same (cache_changed change)) old now
  pub of : IsShiftOf change before now shift

-- what whole extents in order show stays, and they stay whole and in order
pub record ShowsAgain (old new : Extents) : Type 0 where
  pub whole : AllByRecursion (λ e. IsWhole e.1) old → AllByRecursion (λ e. IsWhole e.1) new
  pub rises : IsRising (keys_of old) → IsRising (keys_of new)
  pub shown : AllByRecursion (λ e. IsWhole e.1) old → IsRising (keys_of old) → caches_in new ≡ caches_in old
