-- What the code keeps of a cluster, and what the disk then holds.
use Rattle.std.specs.Prelude.{⊤, ◌≡◌, ◌≢◌, ◌⊎◌, ◌↔◌, ℕ, ◌≤◌, List, [], ◌∷◌, ◌++◌, length, Bool, IsTrue, None}
use Rattle.std.specs.List.{flat_map}
use Rattle.fault_count.specs.OneMore.{IsOneMore}
use Rattle.disk_trait.specs.View.{Image, View, Tells, untold}
use Rattle.disk_trait.specs.Calls.{Fewer}
use Rattle.disk_trait.specs.Moments.{Later}
use Rattle.cache_key.specs.declared.request.Mutation.{Mutation}
use Rattle.cache_model.specs.Change.{Change}
use Rattle.cache_model.specs.Contents.{AreContentsAfter}
use Rattle.file_kinds.specs.Order.{IsRecorded}
use Rattle.kept_cell.specs.KeptCells.{KeptCell}
use Rattle.partition_cell.specs.Cells.{Cell, caches_of, flight_of, IsSoundCell}
use Rattle.partition_cell.specs.Standing.{IsLone}
use Rattle.seal_gate.specs.Seal.{IsSealed, IsSettled}
use Rattle.slot_board.specs.Slots.{told_by}
use Rattle.store_ident.specs.declared.ident.StoreId.{StoreId}
use Rattle.store_journal.specs.Created.{IsUnsealed}
use Rattle.store_journal.specs.Stands.{version_in, StandsFor}
use Rattle.store_journal.specs.Text.{IsText, end_of}
use Rattle.newest_store.specs.Newest.{files_of, IsHeaded, IsNewest}
use Rattle.cluster_commands.specs.State.{OpenCluster, KnownStore, KnownFiles, unknown, no_store, store_in, Stage, closed, opened, files_at, State}
use Rattle.cluster_commands.specs.declared.cluster.Opened.{Opened}
use Rattle.cluster_commands.specs.declared.cluster.Cluster.{Cluster}
use Rattle.cluster_commands.specs.declared.cluster.Cluster.TheVariants.{Closed, Open}

-- ---- in the code

-- the disks of the lane
abbrev pub disks_in : {D : Type 0} → Opened D → List D
disks_in cluster = cluster.kept.cell.disks

abbrev pub lane_of : {D : Type 0} → Cluster D → List D
lane_of (Closed disks) = disks.items
lane_of (Open cluster) = disks_in cluster

abbrev pub IsClosed : {D : Type 0} → Cluster D → Type 0
IsClosed (Closed disks) = ⊤
IsClosed (Open cluster) = ⊥

-- what the one disk of a lane tells; without a disk there is nothing to tell
abbrev pub lane_view : {D : Type 0} → (D → View) → List D → View
lane_view view [] = untold 0 0
lane_view view (disk ∷ disks) = view disk

-- the code has this cluster
pub record IsClusterOf {D : Type 0} (open_ : Opened D) (cluster : OpenCluster) : Type 0 where
  pub host : cluster.host ≡ open_.host
  pub file : cluster.file ≡ open_.kept.cell.store.file
  pub id : cluster.id ≡ open_.kept.cell.store.id
  pub end : cluster.end ≡ open_.kept.cell.store.end
  pub told : cluster.told ≡ told_by open_.kept.cell.board
  pub contents : AreContentsAfter cluster.changes (caches_of open_.kept.cell)
  pub flight : cluster.flight ≡ flight_of open_.kept.cell
  pub sound : IsTrue cluster.sound ↔ IsSoundCell open_.kept.cell
  pub lone : IsTrue cluster.lone → IsLone open_.kept.cell
  pub trail : cluster.trail ≡ length open_.kept.trail.entries

-- Partition 0 of one is served on one disk, that of host 0; its store isn't on the move.
pub record IsServing {D : Type 0} (kept : KeptCell D) : Type 0 where
  pub number : kept.cell.number ≡ record { partition = 0; partitions = 1 }
  pub owner : kept.cell.owner ≡ 0
  pub still : kept.cell.moving ≡ None
  pub one : length kept.cell.disks ≡ 1

-- the code has a cluster at this stage: what is known while there is none stands nowhere in the code
abbrev pub IsStage : {D : Type 0} → Cluster D → Stage → Type 0
IsStage (Closed disks) (closed files) = ⊤
IsStage (Closed disks) (opened cluster) = ⊥
IsStage (Open open_) (closed files) = ⊥
IsStage (Open open_) (opened cluster) = IsClusterOf open_ cluster

-- the state of an open cluster over a disk
abbrev pub state_of : OpenCluster → View → Bool → State
state_of cluster v tells = record { stage = opened cluster; faults = v.faults; restarts = v.restarts; tells = tells }

-- Whichever cluster the code had before, it has one afterwards, and the state with it follows the state with that.
pub record StateSteps {D : Type 0} (view : D → View) (old new : Opened D) (follows : State → State → Type 0) : Type 0 where
  pub steps : (tells : Bool) (before : OpenCluster) → IsClusterOf old before
      → (after : OpenCluster) × IsClusterOf new after × follows (state_of before (lane_view view (disks_in old)) tells) (state_of after (lane_view view (disks_in new)) tells)

-- Between commands: with no cluster nothing is pending on the files of its stores, and with one it is served.
abbrev pub IsReady : {D : Type 0} → (D → View) → Cluster D → Type 0
IsReady view (Closed disks) = (length disks.items ≡ 1) × IsSettled (lane_view view disks.items) 0 × IsSettled (lane_view view disks.items) 1
IsReady view (Open cluster) = IsServing cluster.kept

-- ---- on the disk

-- The disk was restarted: it holds an image that it had, and nothing is pending on the partition's files.
pub record IsDiskRestarted (v w : View) : Type 0 where
  pub images : Fewer v w
  pub settled : IsSettled w 0 × IsSettled w 1
  pub counted : IsOneMore v.restarts w.restarts
  pub later : Later v w

-- The newest file is the one that is known, and its bytes are those of the store that is known, up to its closed gate.
pub record IsSurely (known : KnownStore) (m : Image) : Type 0 where
  pub newest : IsNewest m known.file
  pub groups : List (List Mutation)
  pub text : IsText (record { id = known.id; partitions = 1 }) groups (m known.file)
  pub gate : known.end ≡ end_of groups

-- The two files stand for these changes. Each that is sealed has a header, and a version that was given; where the known one is lone,
-- the other isn't sealed.
pub record HoldsKnown (known : KnownStore) (changes : List Change) (m : Image) : Type 0 where
  pub stands : StandsFor (files_of m) 0 1 changes
  pub headed : (f : ℕ) → f ≤ 1 → IsHeaded (m f)
  pub most : (f : ℕ) → f ≤ 1 → IsSealed (m f) → version_in (m f) ≤ known.told
  pub lone : IsTrue known.lone → (f : ℕ) → f ≤ 1 → f ≢ known.file → IsUnsealed (m f)
  pub sure : IsTrue known.sure → IsSurely known m

-- each image has what is known, and of what was in flight all or nothing
abbrev pub FilesHold : KnownFiles → View → Type 0
FilesHold unknown v = ⊤
FilesHold no_store v = (m : Image) → v.images m → (file : ℕ) → file ≤ 1 → IsUnsealed (m file)
FilesHold (store_in known) v = (m : Image) → v.images m → HoldsKnown known known.changes m ⊎ HoldsKnown known (known.changes ++ known.flight) m

-- each image stands for these changes
abbrev pub HoldChanges : List Change → View → Type 0
HoldChanges changes v = (m : Image) → v.images m → StandsFor (files_of m) 0 1 changes

-- the code and the disk are in this state
pub record IsInState {D : Type 0} (view : D → View) (cluster : Cluster D) (state : State) : Type 0 where
  pub faults : state.faults ≡ (lane_view view (lane_of cluster)).faults
  pub restarts : state.restarts ≡ (lane_view view (lane_of cluster)).restarts
  pub tells : IsTrue state.tells → Tells (lane_view view (lane_of cluster))
  pub stage : IsStage cluster state.stage
  pub files : FilesHold (files_at state.stage) (lane_view view (lane_of cluster))

-- the disk is in this state, and has failed at least as often
pub record DiskIsIn (v : View) (state : State) : Type 0 where
  pub faults : state.faults ≤ v.faults
  pub restarts : state.restarts ≡ v.restarts
  pub files : FilesHold (files_at state.stage) v
