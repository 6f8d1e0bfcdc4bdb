-- Disks that tell what they hold.
use Rattle.std.specs.Prelude.{◌≡◌, ℕ, ◌≤◌, List, slice_get, Some}
use Rattle.disk_trait.specs.View.{View, Tells}
use Rattle.seal_gate.specs.Seal.{IsSettled}
use Rattle.cluster_model.specs.Site.{DiskOf, SiteView}

-- each disk of the site tells what it holds
abbrev pub SiteTells : SiteView → Type 0
SiteTells views = (disk : DiskOf) → Tells (views disk)

-- nothing is pending in any file of a store or a roster
abbrev pub IsNothingPending : SiteView → Type 0
IsNothingPending views = (disk : DiskOf) (file : ℕ) → file ≤ 1 → IsSettled (views disk) file

-- nothing is pending in such a file of these disks
abbrev pub AreSettled : {D : Type 0} → (D → View) → List D → Type 0
AreSettled view disks = (h : ℕ) (disk : _) → slice_get disks h ≡ Some disk → (file : ℕ) → file ≤ 1 → IsSettled (view disk) file
