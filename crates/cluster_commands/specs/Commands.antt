-- What each command does to the state of a run, and is answered. Texts are their bytes.
use Rattle.std.specs.Prelude.{⊤, ◌≡◌, ◌≢◌, ℕ, ◌≤◌, List, [], ◌∷◌, ◌++◌, ◌⊎◌, Contains, Bool, true, false, IsTrue}
use Rattle.fault_count.specs.Rose.{Rose}
use Rattle.cache_model.specs.Caches.{Caches}
use Rattle.cache_model.specs.Contents.{AreContentsAfter}
use Rattle.store_ident.specs.declared.ident.StoreId.{StoreId}
use Rattle.script_lines.specs.declared.command.Command.{Command}
use Rattle.script_lines.specs.declared.command.Command.TheVariants.{Create, Recover, Stop, Dump, Steps}
use Rattle.script_lines.specs.declared.command.Event.{Event}
use Rattle.script_lines.specs.declared.answer.Answer.{Answer}
use Rattle.script_lines.specs.declared.answer.Answer.TheVariants as answered
use Rattle.script_lines.specs.declared.answer.Outcome.{Outcome}
use Rattle.script_lines.specs.declared.answer.Refusal.{Refusal}
use Rattle.script_lines.specs.declared.answer.Refusal.TheVariants.{Closed, Open, NotMember, NotCreated, Fault, Damaged, NoPartition, StoreFull, TrailFull, VersionEnd}
use Rattle.script_lines.specs.declared.answer.PartitionDump.{PartitionDump}
use Rattle.cluster_commands.specs.State.{OpenCluster, KnownStore, KnownFiles, unknown, no_store, store_in, Stage, closed, opened, files_at, State, Counts}
use Rattle.cluster_commands.specs.Events.{EventRun}

-- the first store of the one partition, on the first host of the site
abbrev pub first_store : StoreId
first_store = record { partition = 0; version = 1; epoch = 1; host = 0 }

-- a cluster that was just made
abbrev pub made_at : List ℕ → OpenCluster
made_at host = record { host = host; file = 0; id = first_store; end = 41; told = 1; changes = []; flight = []; sound = true; lone = true; trail = 0 }

-- a partition is shown where it has a cache
abbrev pub dump_of : OpenCluster → Caches → List PartitionDump
dump_of cluster [] = []
dump_of cluster (cache ∷ caches) = record { caches = cache ∷ caches; host = cluster.host; id = cluster.id } ∷ []

-- the contents are shown
abbrev pub IsDump : OpenCluster → Answer → Type 0
IsDump cluster answer = (caches : Caches) × AreContentsAfter cluster.changes caches × (answer ≡ answered.Dumped (dump_of cluster caches))

-- An empty cluster is made at the host, or none where the site has no such host, which changes nothing, or where the host's
-- disk has failed; after that nothing is known of the files.
abbrev pub Creates : List (List ℕ) → List ℕ → Answer → KnownFiles → Stage → Type 0 → Type 0
Creates hosts host answer files new fault =
    (Contains hosts host × (answer ≡ answered.Created host) × (new ≡ opened (made_at host)))
    ⊎ ((¬ Contains hosts host) × (answer ≡ answered.Refused (NotMember host)) × (new ≡ closed files))
    ⊎ (Contains hosts host × (answer ≡ answered.Refused (Fault host)) × fault × (new ≡ closed unknown))

-- A cluster that was just recovered at this host: it has one store, beside which no other is sealed, and nothing is in flight.
pub record IsRecoveredAt (host : List ℕ) (cluster : OpenCluster) : Type 0 where
  pub host_is : cluster.host ≡ host
  pub told : cluster.told ≡ cluster.id.version
  pub none : cluster.flight ≡ []
  pub sound : cluster.sound ≡ true
  pub lone : cluster.lone ≡ true
  pub trail : cluster.trail ≡ 0

-- it has the store that is known: the changes, or these and all that were in flight
pub record IsStoreKnown (known : KnownStore) (cluster : OpenCluster) : Type 0 where
  pub changes : (cluster.changes ≡ known.changes) ⊎ (cluster.changes ≡ known.changes ++ known.flight)
  pub told : cluster.told ≤ known.told
  pub same : IsTrue known.sure → (cluster.file ≡ known.file) × (cluster.id ≡ known.id) × (cluster.end ≡ known.end)

-- the cluster has what is known of the files
abbrev pub IsAsKnown : KnownFiles → OpenCluster → Type 0
IsAsKnown unknown cluster = ⊤
IsAsKnown no_store cluster = ⊥
IsAsKnown (store_in known) cluster = IsStoreKnown known cluster

-- by what is known of the files, no store may be found so
abbrev pub MayLack : KnownFiles → Answer → Type 0
MayLack unknown answer = ⊤
MayLack no_store answer = answer ≡ answered.Refused NotCreated
MayLack (store_in known) answer = ⊥

-- there is no store, or what stands in a file is none
abbrev pub HasNoStore : List ℕ → Answer → Type 0
HasNoStore host answer = (answer ≡ answered.Refused NotCreated) ⊎ (file : ℕ) × (at : ℕ) × (answer ≡ answered.Refused (Damaged host 0 file at))

-- The cluster of the host's disk is opened, or none where the site has no such host, the host's disk has failed, or no
-- store was known to stand there; then the files stand for what they stood for. Over a disk that doesn't tell what its
-- files hold, anything may be found.
abbrev pub Recovers : List (List ℕ) → List ℕ → Answer → KnownFiles → Stage → Type 0 → Bool → Type 0
Recovers hosts host answer files new fault tells =
    (Contains hosts host × (answer ≡ answered.Recovered 1 host 1) × (cluster : OpenCluster) × IsRecoveredAt host cluster × (IsTrue tells → IsAsKnown files cluster) × (new ≡ opened cluster))
    ⊎ ((¬ Contains hosts host) × (answer ≡ answered.Refused (NotMember host)) × (new ≡ closed files))
    ⊎ (Contains hosts host × (answer ≡ answered.Refused (Fault host)) × fault × (new ≡ closed files))
    ⊎ (Contains hosts host × (IsTrue tells → MayLack files answer) × HasNoStore host answer × (new ≡ closed files))

-- the events are carried out one after the other
abbrev pub IsStepped : State → List Event → Answer → State → Type 0
IsStepped old events answer new = (outcomes : List Outcome) × EventRun old events outcomes new × (answer ≡ answered.Stepped outcomes)

-- what a command does where this cluster is open
abbrev pub OpenStep : State → OpenCluster → Command → Answer → State → Type 0
OpenStep old cluster (Create other) answer new = (answer ≡ answered.Refused Open) × (new.stage ≡ old.stage)
OpenStep old cluster (Recover other) answer new = (answer ≡ answered.Refused Open) × (new.stage ≡ old.stage)
OpenStep old cluster Stop answer new = (answer ≡ answered.Stopped) × (new.stage ≡ closed (files_at old.stage))
OpenStep old cluster Dump answer new = IsDump cluster answer × (new.stage ≡ old.stage)
OpenStep old cluster (Steps events) answer new = IsStepped old events answer new

-- what a command does where no cluster is open, on a site with these hosts and files of which this is known
abbrev pub ClosedStep : List (List ℕ) → State → KnownFiles → Command → Answer → State → Type 0
ClosedStep hosts old files (Create host) answer new = Creates hosts host answer files new.stage (Rose old.faults new.faults)
ClosedStep hosts old files (Recover host) answer new = Recovers hosts host answer files new.stage (Rose old.faults new.faults) old.tells
ClosedStep hosts old files Stop answer new = (answer ≡ answered.Refused Closed) × (new.stage ≡ closed files)
ClosedStep hosts old files Dump answer new = (answer ≡ answered.Refused Closed) × (new.stage ≡ closed files)
ClosedStep hosts old files (Steps events) answer new = (answer ≡ answered.Refused Closed) × (new.stage ≡ closed files)

-- what a command does at a stage
abbrev pub StageStep : List (List ℕ) → Stage → State → Command → Answer → State → Type 0
StageStep hosts (closed files) old command answer new = ClosedStep hosts old files command answer new
StageStep hosts (opened cluster) old command answer new = OpenStep old cluster command answer new

-- The disk is restarted at a stop, and after a create or a recovery that is refused while no cluster is open.
abbrev pub restarts_after : Refusal → Bool
restarts_after Closed = false
restarts_after Open = false
restarts_after (NotMember host) = true
restarts_after NotCreated = true
restarts_after (Fault host) = true
restarts_after (Damaged host partition file at) = true
restarts_after (NoPartition partition) = false
restarts_after (StoreFull live) = false
restarts_after TrailFull = false
restarts_after VersionEnd = false

abbrev pub restarts_at : Answer → Bool
restarts_at (answered.Created host) = false
restarts_at (answered.Recovered epoch host partitions) = false
restarts_at answered.Stopped = true
restarts_at (answered.Dumped partitions) = false
restarts_at (answered.Stepped outcomes) = false
restarts_at (answered.Refused refusal) = restarts_after refusal

-- from old, the site with these hosts may answer this to the command and go on to new
abbrev pub CommandStep : List (List ℕ) → State → Command → Answer → State → Type 0
CommandStep hosts old command answer new = Counts (restarts_at answer) old new × StageStep hosts old.stage old command answer new
