-- When the partitions of a cluster can be loaded on these hosts.
use Rattle.std.specs.Prelude.{◌≡◌, ◌↔◌, ℕ, List, [], slice_get, Some, Contains}
use Rattle.cluster_model.specs.Agreement.{Durable, hosts_in, two_of, IsInEach}
use Rattle.cluster_model.specs.Lane.{LaneStanding}
use Rattle.cluster_model.specs.Site.{SiteShape, numbers_of}

-- These are the hosts of the rosters that may pass. Each partition stands for one store, on a host of each of them.
pub record IsLoadable (shape : SiteShape) (hosts : List ℕ) (durable : Durable) : Type 0 where
  pub recorded : (number : ℕ) → Contains (numbers_of shape.hosts (hosts_in (two_of durable.rosters))) number ↔ Contains hosts number
  pub one : (partition : ℕ) (standing : LaneStanding) → slice_get durable.standings partition ≡ Some standing → standing.perhaps ≡ []
  pub owner : (partition : ℕ) (standing : LaneStanding) → slice_get durable.standings partition ≡ Some standing → IsInEach shape.hosts (two_of durable.rosters) standing.store.host
