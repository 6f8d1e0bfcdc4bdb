-- The disks of a site, and what holds of a run on them.
use Rattle.std.specs.Prelude.{◌≡◌, ◌⊎◌, ℕ, ◌≤◌, List, [], ◌∷◌, length, vec_len, Option, Some, None, Bool, IsTrue}
use Rattle.std.specs.List.{AllByRecursion}
use Rattle.fault_count.specs.OneMore.{IsOneMore}
use Rattle.disk_trait.specs.View.{View, Tells}
use Rattle.disk_trait.specs.Calls.{Same}
use Rattle.disk_trait.specs.Moments.{Later}
use Rattle.script_loop.specs.Chain.{Span, unbroken, IsRun}
use Rattle.script_loop.specs.declared.status.Status.{Status}
use Rattle.script_loop.specs.declared.status.Status.TheVariants.{Done, WordFault, ScriptFault, ReadFault, WriteFault, NoMemory}
use Rattle.cluster_commands.specs.Breaks.{CommandBreaks}
use Rattle.cluster_commands.specs.OnDisk.{FilesHold, DiskIsIn, lane_of}
use Rattle.cluster_commands.specs.declared.cluster.Cluster.{Cluster}
use Rattle.cluster_commands.specs.State.{KnownFiles, State, begun}
use Rattle.cluster_commands.specs.Commands.{CommandStep}
use Rattle.cluster_cli.specs.declared.site.Lane.{Lane}
use Rattle.cluster_cli.specs.declared.site.Site.{Site}

-- it is there, and has P
abbrev pub IsThere : {T : Type 0} → Option T → (T → Type 0) → Type 0
IsThere None P = ⊥
IsThere (Some item) P = P item

-- both are there, and are so related
abbrev pub BothThere : {T : Type 0} → Option T → Option T → (T → T → Type 0) → Type 0
BothThere (Some old) (Some new) R = R old new
BothThere (Some old) None R = ⊥
BothThere None new R = ⊥

-- its lane has one disk
abbrev pub HasOneDisk : {D : Type 0} → Cluster D → Type 0
HasOneDisk cluster = length (lane_of cluster) ≡ 1

-- the disks of the lane of a cluster that is there
abbrev pub lane_left : {D : Type 0} → Option (Cluster D) → List D
lane_left None = []
lane_left (Some cluster) = lane_of cluster

-- one lane for each partition, and in each lane one disk for each host
pub record HasLanes {D : Type 0} (lanes : List (Lane D)) (partitions hosts : ℕ) : Type 0 where
  pub lane_each : length lanes ≡ partitions
  pub disk_each : AllByRecursion (λ lane. vec_len lane.disks ≡ hosts) lanes

abbrev pub first_of : {T : Type 0} → List T → Option T
first_of [] = None
first_of (item ∷ items) = Some item

-- the disk of the first partition and host, which is all that a site has for now
abbrev pub first_disk : {D : Type 0} → List (Lane D) → Option D
first_disk [] = None
first_disk (lane ∷ lanes) = first_of lane.disks.items

-- the disk before and after
pub record AreDisks {D : Type 0} (lanes after : List (Lane D)) (old new : D) : Type 0 where
  pub old_is : first_disk lanes ≡ Some old
  pub new_is : first_disk after ≡ Some new

-- A run on a site with these hosts, from this state on, that leaves its disk so.
abbrev pub run_on : List (List ℕ) → State → View → Span State
run_on hosts first v = record { answers = CommandStep hosts; breaks = CommandBreaks hosts; first = first; ends = DiskIsIn v }

-- How a run begins that finds the disk so, ends with this status and leaves the disk so: its first command finds this count
-- of restarts. The disk was restarted once; or memory ran out before, and the disk is left as it was.
abbrev pub Starts : Status → View → View → ℕ → Type 0
Starts status v w restarts = IsOneMore v.restarts restarts ⊎ (status ≡ NoMemory) × (restarts ≡ v.restarts) × Same v w

-- P holds of each state in which a run with this status may begin that finds and leaves the disk so: no cluster is open, anything
-- that is so may be known of the files, and the run has started. The restart may raise the disk's count of faults.
abbrev pub FromStart : Status → View → View → (State → Type 0) → Type 0
FromStart status v w P = (tells : Bool) (files : KnownFiles) → (IsTrue tells → Tells v) → FilesHold files v
    → (faults : ℕ) × (restarts : ℕ) × (v.faults ≤ faults) × Starts status v w restarts × P (begun tells files faults restarts)

-- what holds of a run on the disks of the site, which are these before it and those after it, whatever is known of them
abbrev pub ForRuns : {D V : Type 0} → Status → (D → View) → Site D V → Site D V → (Span State → Type 0) → Type 0
ForRuns {D} status view site after P =
    (old new : D) → AreDisks site.lanes.items after.lanes.items old new → FromStart status (view old) (view new) (λ first. P (run_on site.hosts.items first (view new)))

-- How a run leaves its disks: as commands leave them that were carried out, and with status 5 perhaps as one that was
-- broken off.
abbrev pub IsLeftBy : Status → Span State → Type 0
IsLeftBy Done span = IsRun (unbroken span)
IsLeftBy WordFault span = IsRun (unbroken span)
IsLeftBy ScriptFault span = IsRun (unbroken span)
IsLeftBy ReadFault span = IsRun (unbroken span)
IsLeftBy WriteFault span = IsRun (unbroken span)
IsLeftBy NoMemory span = IsRun span

-- the site is given back with its disks
pub record IsGivenBack {D V : Type 0} (view : D → View) (site after : Site D V) : Type 0 where
  pub same : after ≡ record site { lanes = after.lanes }
  pub lanes : HasLanes after.lanes.items site.partitions (vec_len site.hosts)
  pub later : (old new : D) → AreDisks site.lanes.items after.lanes.items old new → Later (view old) (view new)
