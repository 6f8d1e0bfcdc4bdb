-- The contents after a list of changes, as a map holds them.
use Rattle.std.specs.Prelude.{◌≡◌, List}
pub use Rattle.partition_map.specs.Readiness.{IsReadyFor}
use Rattle.cache_model.specs.Change.{Change}
use Rattle.cache_model.specs.Contents.{AreContentsAfter}
pub use Rattle.partition_map.specs.Extents.{Maps}
use Rattle.partition_map.specs.Extents.{caches_in}
use Rattle.partition_map.specs.Order.{order_after}

-- the map holds the contents after these changes, and numbers their caches
pub record AgreesWith (changes : List Change) (maps : Maps) : Type 0 where
  pub contents : AreContentsAfter changes (caches_in maps.extents)
  pub order : maps.names ≡ order_after changes
