-- What each event does to an open cluster, and what it comes to.
use Rattle.std.specs.Prelude.{◌≡◌, ◌≢◌, ℕ, ◌+◌, ◌*◌, ◌^◌, ◌<◌, ◌≤◌, List, [], ◌∷◌, ◌++◌, ◌⊎◌, length, Option, Some, None, true, false, IsTrue}
use Rattle.fault_count.specs.Rose.{Rose}
use Rattle.cache_key.specs.declared.request.Mutation.{Mutation}
use Rattle.cache_key.specs.declared.request.Reply.{Reply}
use Rattle.cache_key.specs.declared.request.Request.{Request}
use Rattle.cache_model.specs.Caches.{Caches}
use Rattle.cache_model.specs.Change.{Change, change_of}
use Rattle.cache_model.specs.Contents.{AreContentsAfter}
use Rattle.cache_model.specs.Parts.{parts_of, joined_reply}
use Rattle.cache_model.specs.PlainList.{live, growth_of}
use Rattle.cache_model.specs.Reply.{mutation_of, reply_after}
use Rattle.call_trail.specs.Trails.{most_entries}
use Rattle.partition_cell.specs.Entered.{record_length}
use Rattle.partition_cell.specs.Limits.{spare_length, most_live, TakesRoom}
use Rattle.store_ident.specs.declared.ident.StoreId.{StoreId}
use Rattle.script_lines.specs.declared.command.Event.{Event}
use Rattle.script_lines.specs.declared.command.Event.TheVariants.{Call, Renew}
use Rattle.script_lines.specs.declared.answer.Outcome.{Outcome}
use Rattle.script_lines.specs.declared.answer.Outcome.TheVariants.{Replied, Renewed, Refused}
use Rattle.script_lines.specs.declared.answer.Refusal.{Refusal}
use Rattle.script_lines.specs.declared.answer.Refusal.TheVariants.{Closed, Open, NotMember, NotCreated, Fault, Damaged, NoPartition, StoreFull, TrailFull, VersionEnd}
use Rattle.cluster_commands.specs.State.{partition_count, OpenCluster, Stage, closed, opened, State, Counts}

-- ---- the store

-- a store that holds the contents after these changes, and nothing else, is so long
abbrev pub IsLiveAfter : List Change → ℕ → Type 0
IsLiveAfter changes size = (caches : Caches) × AreContentsAfter changes caches × (size ≡ live caches)

-- a commit may go to the store as it is: the cluster is sound, and the store no longer than it may be
abbrev pub IsFitAt : OpenCluster → ℕ → Type 0
IsFitAt cluster size = IsTrue cluster.sound × (cluster.end ≤ 2 * size + spare_length)

-- the mutation finds no room
abbrev pub IsFullAt : ℕ → Mutation → Type 0
IsFullAt size mutation = TakesRoom mutation × (most_live < size + growth_of mutation)

-- no greater version is left
abbrev pub HasLastVersion : OpenCluster → Type 0
HasLastVersion cluster = cluster.told + 1 ≡ 2 ^ 58

-- the identifier of the next store, after this version
abbrev pub store_after : ℕ → StoreId
store_after told = record { partition = 0; version = told + 1; epoch = 1; host = 0 }

-- The store was built anew: in the other file, with the next version, and with the contents alone. What was in flight is dropped. The
-- old one may stay sealed.
pub record IsBuiltAnew (size : ℕ) (old new : OpenCluster) : Type 0 where
  pub other : new.file ≢ old.file
  pub end : new.end + 1 ≡ size
  pub rest : new ≡ record old { file = new.file; id = store_after old.told; end = new.end; told = old.told + 1; flight = []; sound = true; lone = false }

-- The store was to be built anew, and wasn't: it is as it was. Where the build failed at its seal, its version was given, and the
-- other file may be sealed.
pub record IsNotBuilt (old new : OpenCluster) : Type 0 where
  pub told : (new.told ≡ old.told) ⊎ (new.told ≡ old.told + 1)
  pub rest : new ≡ record old { told = new.told; sound = new.sound; lone = false }

-- before a commit: the store stays where it is fit, and else is built anew
abbrev pub IsMadeFit : ℕ → OpenCluster → OpenCluster → Type 0
IsMadeFit size old new = (IsFitAt old size × (new ≡ old)) ⊎ ((IsFitAt old size → ⊥) × IsBuiltAnew size old new)

-- the mutation was committed
abbrev pub with_mutation : OpenCluster → Mutation → OpenCluster
with_mutation cluster mutation = record cluster { end = cluster.end + record_length mutation; changes = cluster.changes ++ change_of mutation ∷ []; trail = cluster.trail + 1 }

-- its commit failed
abbrev pub with_flight : OpenCluster → Mutation → OpenCluster
with_flight cluster mutation = record cluster { flight = change_of mutation ∷ []; sound = false }

-- the mutation is durable; nothing was in flight when it was committed
pub record IsDurable (size : ℕ) (mutation : Mutation) (old new : OpenCluster) : Type 0 where
  pub mid : OpenCluster
  pub fit : IsMadeFit size old mid
  pub none : mid.flight ≡ []
  pub is : new ≡ with_mutation mid mutation

-- the mutation isn't durable: the store wasn't built anew, or the commit failed
abbrev pub IsNotDurable : ℕ → Mutation → OpenCluster → OpenCluster → Type 0
IsNotDurable size mutation old new =
    ((IsFitAt old size → ⊥) × IsNotBuilt old new) ⊎ ((mid : OpenCluster) × IsMadeFit size old mid × (new ≡ with_flight mid mutation))

-- ---- calls

-- why a mutation is refused before anything is written, in this order
abbrev pub IsRefusedFirst : OpenCluster → ℕ → Mutation → Refusal → Type 0
IsRefusedFirst old size mutation TrailFull = old.trail ≡ most_entries
IsRefusedFirst old size mutation (StoreFull length) = (old.trail ≢ most_entries) × IsFullAt size mutation × (length ≡ size)
IsRefusedFirst old size mutation VersionEnd = (old.trail ≢ most_entries) × (IsFullAt size mutation → ⊥) × (IsFitAt old size → ⊥) × HasLastVersion old
IsRefusedFirst old size mutation Closed = ⊥
IsRefusedFirst old size mutation Open = ⊥
IsRefusedFirst old size mutation (NotMember host) = ⊥
IsRefusedFirst old size mutation NotCreated = ⊥
IsRefusedFirst old size mutation (Fault host) = ⊥
IsRefusedFirst old size mutation (Damaged host partition file at) = ⊥
IsRefusedFirst old size mutation (NoPartition partition) = ⊥

-- none of these holds
pub record IsAdmitted (old : OpenCluster) (size : ℕ) (mutation : Mutation) : Type 0 where
  pub trail : old.trail ≢ most_entries
  pub room : IsFullAt size mutation → ⊥
  pub version : (IsFitAt old size → ⊥) → HasLastVersion old → ⊥

-- a mutation comes to this, over contents of which a store is so long; `fault` says that the disk has failed in the event
abbrev pub MutationComesTo : OpenCluster → ℕ → Mutation → Request → Outcome → OpenCluster → Type 0 → Type 0
MutationComesTo old size mutation request (Replied reply) new fault = IsAdmitted old size mutation × (reply ≡ reply_after old.changes request) × IsDurable size mutation old new
MutationComesTo old size mutation request (Refused refusal) new fault =
    (IsRefusedFirst old size mutation refusal × (new ≡ old)) ⊎ (IsAdmitted old size mutation × (refusal ≡ Fault old.host) × fault × IsNotDurable size mutation old new)
MutationComesTo old size mutation request (Renewed partition id) new fault = ⊥

-- a request that changes nothing comes to this
abbrev pub ReadComesTo : OpenCluster → Request → Outcome → OpenCluster → Type 0
ReadComesTo old request (Replied reply) new = (old.trail ≢ most_entries) × (reply ≡ reply_after old.changes request) × (new ≡ record old { trail = old.trail + 1 })
ReadComesTo old request (Refused refusal) new = (old.trail ≡ most_entries) × (refusal ≡ TrailFull) × (new ≡ old)
ReadComesTo old request (Renewed partition id) new = ⊥

abbrev pub AskedComesTo : Option Mutation → OpenCluster → Request → Outcome → OpenCluster → Type 0 → Type 0
AskedComesTo None old request outcome new fault = ReadComesTo old request outcome new
AskedComesTo (Some mutation) old request outcome new fault = (size : ℕ) × IsLiveAfter old.changes size × MutationComesTo old size mutation request outcome new fault

-- the request, or its part, turns this cluster into the new one, and comes to this
abbrev pub CallChange : OpenCluster → Request → Outcome → OpenCluster → Type 0 → Type 0
CallChange old request outcome new fault = AskedComesTo (mutation_of request) old request outcome new fault

-- a part that was replied to goes on to the next; one that was refused ends its request, whose outcome it is
abbrev pub GoesOn : Outcome → OpenCluster → Outcome → OpenCluster → (Reply → Type 0) → Type 0
GoesOn (Replied reply) mid outcome new next = next reply
GoesOn (Refused refusal) mid outcome new next = (outcome ≡ Refused refusal) × (new ≡ mid)
GoesOn (Renewed partition id) mid outcome new next = ⊥

-- The parts of a request are done one after the other, by rising partition; at the first refusal they stop, and what was
-- done stays. Before them others had these replies. (With several partitions a part changes the cluster's own of its partition.)
abbrev pub PartsChange : OpenCluster → Request → List (ℕ × Request) → List Reply → Outcome → OpenCluster → Type 0 → Type 0
PartsChange old request [] replies outcome new fault = (outcome ≡ Replied (joined_reply request replies)) × (new ≡ old)
PartsChange old request (part ∷ parts) replies outcome new fault =
    (found : Outcome) × (mid : OpenCluster) × CallChange old part.1 found mid fault
    × GoesOn found mid outcome new (λ reply. PartsChange mid request parts (replies ++ reply ∷ []) outcome new fault)

-- ---- renewals

-- why the store isn't built anew at a request, in this order; `fault` as above
abbrev pub RenewalRefused : OpenCluster → ℕ → Refusal → OpenCluster → Type 0 → Type 0
RenewalRefused old partition (NoPartition number) new fault = (partition_count ≤ partition) × (number ≡ partition) × (new ≡ old)
RenewalRefused old partition VersionEnd new fault = (partition < partition_count) × HasLastVersion old × (new ≡ old)
RenewalRefused old partition (Fault host) new fault = (partition < partition_count) × (HasLastVersion old → ⊥) × (host ≡ old.host) × fault × IsNotBuilt old new
RenewalRefused old partition TrailFull new fault = ⊥
RenewalRefused old partition (StoreFull length) new fault = ⊥
RenewalRefused old partition Closed new fault = ⊥
RenewalRefused old partition Open new fault = ⊥
RenewalRefused old partition (NotMember host) new fault = ⊥
RenewalRefused old partition NotCreated new fault = ⊥
RenewalRefused old partition (Damaged host number file at) new fault = ⊥

-- a request to build the store of a partition anew comes to this
abbrev pub RenewalComesTo : OpenCluster → ℕ → Outcome → OpenCluster → Type 0 → Type 0
RenewalComesTo old partition (Renewed number id) new fault =
    (partition < partition_count) × (HasLastVersion old → ⊥) × (number ≡ partition) × (size : ℕ) × IsLiveAfter old.changes size × IsBuiltAnew size old new × (id ≡ new.id)
RenewalComesTo old partition (Refused refusal) new fault = RenewalRefused old partition refusal new fault
RenewalComesTo old partition (Replied reply) new fault = ⊥

-- ---- events

-- the event turns this cluster into the new one, and comes to this
abbrev pub EventChange : OpenCluster → Event → Outcome → OpenCluster → Type 0 → Type 0
EventChange old (Call request) outcome new fault = PartsChange old request (parts_of partition_count request) [] outcome new fault
EventChange old (Renew partition) outcome new fault = RenewalComesTo old partition outcome new fault

-- a cluster is open at both stages, and these two are so related
abbrev pub BothOpen : Stage → Stage → (OpenCluster → OpenCluster → Type 0) → Type 0
BothOpen (opened old) (opened new) R = R old new
BothOpen (opened old) (closed files) R = ⊥
BothOpen (closed files) new R = ⊥

-- the request, or its part, turns the state into the new one, and comes to this
abbrev pub PartStep : State → Request → Outcome → State → Type 0
PartStep old request outcome new = Counts false old new × BothOpen old.stage new.stage (λ before after. CallChange before request outcome after (Rose old.faults new.faults))

-- the same of an event
abbrev pub EventStep : State → Event → Outcome → State → Type 0
EventStep old event outcome new = Counts false old new × BothOpen old.stage new.stage (λ before after. EventChange before event outcome after (Rose old.faults new.faults))

-- one event after the other
abbrev pub EventRun : State → List Event → List Outcome → State → Type 0
EventRun old [] [] new = new ≡ old
EventRun old (event ∷ events) (outcome ∷ outcomes) new = (mid : State) × EventStep old event outcome mid × EventRun mid events outcomes new
EventRun old [] (outcome ∷ outcomes) new = ⊥
EventRun old (event ∷ events) [] new = ⊥
