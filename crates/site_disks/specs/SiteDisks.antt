-- The disks of a site in the code.
use Rattle.std.specs.Prelude.{◌≡◌, ℕ, List, length, slice_get, Some, map}
use Rattle.disk_trait.specs.View.{View}
use Rattle.cluster_model.specs.Site.{SiteShape, SiteView, site_view}
use Rattle.site_disks.specs.declared.site.Lane.{Lane}
use Rattle.site_disks.specs.declared.site.Site.{Site}

-- all of them: a lane for each partition, in it a disk for each host; and a service disk for each host
pub record SiteDisks (D : Type 0) : Type 0 where
  pub lanes : List (List D)
  pub services : List D

-- what each of them tells
abbrev pub views_of : {D : Type 0} → (D → View) → SiteDisks D → SiteView
views_of view disks = site_view view disks.lanes disks.services

abbrev pub disks_in_lanes : {D : Type 0} → List (Lane D) → List (List D)
disks_in_lanes lanes = map (λ lane. lane.disks.items) lanes

-- the disks of this site
abbrev pub disks_of_site : {D V : Type 0} → Site D V → SiteDisks D
disks_of_site site = record { lanes = disks_in_lanes site.lanes.items; services = site.services.items }

-- its hosts and its number of partitions
abbrev pub shape_of_site : {D V : Type 0} → Site D V → SiteShape
shape_of_site site = record { hosts = site.hosts.items; partitions = site.partitions }

-- a lane for each partition, and in it a disk for each of so many hosts
pub record HasLanesFor {D : Type 0} (partitions hosts : ℕ) (lanes : List (List D)) : Type 0 where
  pub lane_each : length lanes ≡ partitions
  pub disk_each : (partition : ℕ) (lane : List D) → slice_get lanes partition ≡ Some lane → length lane ≡ hosts

-- the disks are those of such a site
pub record HasDisks {D : Type 0} (shape : SiteShape) (disks : SiteDisks D) : Type 0 where
  pub lanes : HasLanesFor shape.partitions (length shape.hosts) disks.lanes
  pub services : length disks.services ≡ length shape.hosts
