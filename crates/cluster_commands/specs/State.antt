-- The states of a run. Texts are their bytes.
use Rattle.std.specs.Prelude.{◌≡◌, ℕ, ◌≤◌, List, [], Bool, true, false}
use Rattle.fault_count.specs.OneMore.{IsOneMore}
use Rattle.cache_model.specs.Change.{Change}
use Rattle.store_ident.specs.declared.ident.StoreId.{StoreId}

-- how many partitions there are
abbrev pub partition_count : ℕ
partition_count = 1

-- An open cluster with its one partition.
pub record OpenCluster : Type 0 where
  pub host : List ℕ
  -- the store that commits go to: its file, its identifier, and the offset of its closed gate
  pub file : ℕ
  pub id : StoreId
  pub end : ℕ
  -- the greatest version that was given
  pub told : ℕ
  -- the changes that were answered, the oldest first
  pub changes : List Change
  -- the changes of a commit that failed: a stop may show all of them or none
  pub flight : List Change
  -- whether nothing is in flight, and no file is in doubt
  pub sound : Bool
  -- whether the other file is known not to be sealed: so it is until the store is built anew
  pub lone : Bool
  -- how many calls were answered since the cluster was made or recovered
  pub trail : ℕ

-- What is known of the newest store of the two files.
pub record KnownStore : Type 0 where
  -- whether the newest is surely the one of this file, with this identifier and this offset of its closed gate
  pub sure : Bool
  pub file : ℕ
  pub id : StoreId
  pub end : ℕ
  -- the newest has at most this version
  pub told : ℕ
  -- whether the other file than this one is known not to be sealed
  pub lone : Bool
  -- it has the contents after these changes, or after these and all that are in flight
  pub changes : List Change
  pub flight : List Change

-- What the two files of the partition are known to hold.
pub data KnownFiles : Type 0 where
  -- nothing is known
  unknown : KnownFiles
  -- no store: neither file is sealed
  no_store : KnownFiles
  -- a store
  store_in : KnownStore → KnownFiles

-- Whether a cluster is open.
pub data Stage : Type 0 where
  closed : KnownFiles → Stage
  opened : OpenCluster → Stage

-- what an open cluster says of the files
abbrev pub known_of : OpenCluster → KnownStore
known_of cluster = record {
  sure = cluster.sound;
  file = cluster.file;
  id = cluster.id;
  end = cluster.end;
  told = cluster.told;
  lone = cluster.lone;
  changes = cluster.changes;
  flight = cluster.flight;
}

-- what the files hold at a stage
abbrev pub files_at : Stage → KnownFiles
files_at (closed files) = files
files_at (opened cluster) = store_in (known_of cluster)

-- where a run stands, with the counts of its disk
pub record State : Type 0 where
  pub stage : Stage
  pub faults : ℕ
  pub restarts : ℕ
  -- whether the disk tells what its files hold
  pub tells : Bool

-- a run begins with no cluster, on files of which this is known
abbrev pub begun : Bool → KnownFiles → ℕ → ℕ → State
begun tells files faults restarts = record { stage = closed files; faults = faults; restarts = restarts; tells = tells }

-- the count of restarts has risen by one, or stands still
abbrev pub RestartCount : Bool → ℕ → ℕ → Type 0
RestartCount true old new = IsOneMore old new
RestartCount false old new = new ≡ old

-- What a step does to the counts of the disk, which it restarts or not.
pub record Counts (restarted : Bool) (old new : State) : Type 0 where
  pub faults : old.faults ≤ new.faults
  pub restarts : RestartCount restarted old.restarts new.restarts
  pub tells : new.tells ≡ old.tells
