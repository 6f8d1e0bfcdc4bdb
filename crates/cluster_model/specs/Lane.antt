-- What the disks of one partition stand for, one disk at each host. The hosts are numbers of disks in a lane.
use Rattle.std.specs.Prelude.{◌≡◌, ◌⊎◌, ℕ, ◌<◌, ◌≤◌, List, ◌∷◌, ◌++◌, Contains}
use Rattle.cache_key.specs.declared.request.Mutation.{Mutation}
use Rattle.cache_model.specs.Change.{Change, changes_of}
use Rattle.cache_model.specs.Contents.{SameContents}
use Rattle.disk_lane.specs.Lanes.{LaneImage}
use Rattle.seal_gate.specs.Seal.{IsSealed}
use Rattle.store_ident.specs.declared.ident.StoreId.{StoreId}
use Rattle.store_journal.specs.Text.{IsStoreOf, end_of}
use Rattle.store_journal.specs.Created.{IsUnsealed}
use Rattle.store_journal.specs.Stands.{version_in}
use Rattle.newest_store.specs.Choice.{IsNewestAmong}
use Rattle.file_kinds.specs.Kinds.{PartitionNumber}

-- A store as a recovery finds it: on which host's disk, with which identifier, what changes it has, and the offset of its
-- closed gate.
pub record HostedStore : Type 0 where
  pub host : ℕ
  pub id : StoreId
  pub changes : List Change
  pub end : ℕ

-- the bytes are this store, as one of this partition: it leaves the same contents as the changes do
pub record HoldsStore (number : PartitionNumber) (store : HostedStore) (bytes : List ℕ) : Type 0 where
  pub mutations : List Mutation
  pub text : IsStoreOf (record { id = store.id; partitions = number.partitions }) mutations bytes
  pub of_partition : store.id.partition ≡ number.partition
  pub contents : SameContents (changes_of mutations) store.changes
  pub gate : store.end ≡ end_of text.groups

-- Among files 0 and 1 of these hosts one is the newest, no other sealed one has its version, and it has this store.
pub record Opens (number : PartitionNumber) (hosts : List ℕ) (lane : LaneImage) (store : HostedStore) : Type 0 where
  pub file : ℕ
  pub newest : IsNewestAmong lane hosts store.host file
  pub alone : (host f : ℕ) → Contains hosts host → f ≤ 1 → IsSealed (lane host f) → version_in (lane host f) ≡ store.id.version → (host ≡ store.host) × (f ≡ file)
  pub holds : HoldsStore number store (lane store.host file)

-- What a partition stands for: the store that commits go to, and those that a stop may show in its place.
pub record LaneStanding : Type 0 where
  pub store : HostedStore
  pub perhaps : List HostedStore

-- all that may be found
abbrev pub choices : LaneStanding → List HostedStore
choices standing = standing.store ∷ standing.perhaps

-- each of them has the changes that were answered, or these and all that is in flight
pub record HasOneFlight (standing : LaneStanding) : Type 0 where
  pub flight : List Change
  pub each : (store : HostedStore) → Contains standing.perhaps store → (store.changes ≡ standing.store.changes) ⊎ (store.changes ≡ standing.store.changes ++ flight)

-- What file 0 or 1 of a recorded host may hold: it isn't sealed, or is older, or has one of the stores that may be found there.
abbrev pub IsSlot : PartitionNumber → LaneStanding → ℕ → List ℕ → Type 0
IsSlot number standing host bytes =
    IsUnsealed bytes
    ⊎ (version_in bytes < standing.store.id.version)
    ⊎ (store : HostedStore) × Contains (choices standing) store × (store.host ≡ host) × HoldsStore number store bytes

-- One image of a lane keeps this standing over these recorded hosts:
-- 1. the file that commits go to is sealed, with the store, or with what a stop may show in its place under the same identifier;
-- 2. none of the stores that may be found is older than it;
-- 3. each file of a recorded host isn't sealed, or is older, or has one of these stores;
-- 4. no two sealed files of recorded hosts have one version, from the current one on.
pub record KeepsLane (number : PartitionNumber) (recorded : List ℕ) (standing : LaneStanding) (lane : LaneImage) : Type 0 where
  pub file : ℕ
  pub one_of_two : file ≤ 1
  pub current : (store : HostedStore) × Contains (choices standing) store × (store.host ≡ standing.store.host) × (store.id ≡ standing.store.id) × HoldsStore number store (lane store.host file)
  pub newer : (store : HostedStore) → Contains standing.perhaps store → standing.store.id.version ≤ store.id.version
  pub slots : (host f : ℕ) → Contains recorded host → f ≤ 1 → IsSlot number standing host (lane host f)
  pub apart : (host other f g : ℕ) → Contains recorded host → Contains recorded other → f ≤ 1 → g ≤ 1 → IsSealed (lane host f) → IsSealed (lane other g)
      → version_in (lane host f) ≡ version_in (lane other g) → standing.store.id.version ≤ version_in (lane host f) → (host ≡ other) × (f ≡ g)
