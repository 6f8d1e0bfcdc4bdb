-- How far a command may have come that memory ran out in: it isn't answered, and the run ends.
use Rattle.std.specs.Prelude.{◌≡◌, ◌⊎◌, ℕ, ◌<◌, List, [], ◌∷◌, ◌++◌, Contains, Option, Some, None, false}
use Rattle.fault_count.specs.Rose.{Rose}
use Rattle.cache_key.specs.declared.request.Mutation.{Mutation}
use Rattle.cache_key.specs.declared.request.Reply.{Reply}
use Rattle.cache_key.specs.declared.request.Request.{Request}
use Rattle.cache_model.specs.Parts.{parts_of}
use Rattle.cache_model.specs.Reply.{mutation_of}
use Rattle.script_lines.specs.declared.command.Command.{Command}
use Rattle.script_lines.specs.declared.command.Command.TheVariants.{Create, Steps}
use Rattle.script_lines.specs.declared.command.Event.{Event}
use Rattle.script_lines.specs.declared.command.Event.TheVariants.{Call, Renew}
use Rattle.script_lines.specs.declared.answer.Answer.{Answer}
use Rattle.script_lines.specs.declared.answer.Outcome.{Outcome}
use Rattle.script_lines.specs.declared.answer.Outcome.TheVariants.{Replied}
use Rattle.disk_trait.specs.View.{View}
use Rattle.disk_trait.specs.Moments.{Later}
use Rattle.cluster_commands.specs.Commands.{CommandStep}
use Rattle.cluster_commands.specs.Events.{IsLiveAfter, HasLastVersion, IsNotBuilt, IsNotDurable, IsAdmitted, CallChange, BothOpen, EventRun}
use Rattle.cluster_commands.specs.OnDisk.{IsInState, DiskIsIn, lane_of, lane_view}
use Rattle.cluster_commands.specs.State.{partition_count, OpenCluster, KnownFiles, unknown, closed, State, Counts}
use Rattle.cluster_commands.specs.declared.cluster.Cluster.{Cluster}

-- a mutation isn't durable, over contents of which a store is so long
pub record MutationBreaks (mutation : Mutation) (old new : OpenCluster) : Type 0 where
  pub size : ℕ
  pub live : IsLiveAfter old.changes size
  pub admitted : IsAdmitted old size mutation
  pub not_durable : IsNotDurable size mutation old new

abbrev pub AskedBreaks : Option Mutation → OpenCluster → OpenCluster → Type 0
AskedBreaks None old new = ⊥
AskedBreaks (Some mutation) old new = MutationBreaks mutation old new

-- a request, or its part, is broken off: nothing is changed, or its mutation isn't durable
abbrev pub CallBreaks : Request → OpenCluster → OpenCluster → Type 0
CallBreaks request old new = (new ≡ old) ⊎ AskedBreaks (mutation_of request) old new

abbrev pub PartBreaks : State → Request → State → Type 0
PartBreaks old request new = Counts false old new × BothOpen old.stage new.stage (CallBreaks request)

-- the parts of a request are broken off: before the next of them, or within it, or after it was replied to
abbrev pub PartsBreak : OpenCluster → List (ℕ × Request) → OpenCluster → Type 0 → Type 0
PartsBreak old [] new fault = new ≡ old
PartsBreak old (part ∷ parts) new fault =
    CallBreaks part.1 old new ⊎ (reply : Reply) × (mid : OpenCluster) × CallChange old part.1 (Replied reply) mid fault × PartsBreak mid parts new fault

-- a renewal is broken off
abbrev pub RenewalBreaks : OpenCluster → ℕ → OpenCluster → Type 0
RenewalBreaks old partition new = (partition < partition_count) × (HasLastVersion old → ⊥) × IsNotBuilt old new

abbrev pub EventLeaves : OpenCluster → Event → OpenCluster → Type 0 → Type 0
EventLeaves old (Call request) new fault = PartsBreak old (parts_of partition_count request) new fault
EventLeaves old (Renew partition) new fault = RenewalBreaks old partition new

-- the event is broken off: some of its parts are done, and the next isn't
abbrev pub EventBreaks : State → Event → State → Type 0
EventBreaks old event new = Counts false old new × BothOpen old.stage new.stage (λ before after. EventLeaves before event after (Rose old.faults new.faults))

-- the events are broken off between two of them, or within the next
abbrev pub NextBreaks : State → List Event → State → Type 0
NextBreaks old [] new = new ≡ old
NextBreaks old (event ∷ events) new = (new ≡ old) ⊎ EventBreaks old event new

-- some events were done, and then they were broken off
pub record EventsBreak (old : State) (events : List Event) (new : State) : Type 0 where
  pub done : List Event
  pub rest : List Event
  pub outcomes : List Outcome
  pub mid : State
  pub whole : events ≡ done ++ rest
  pub run : EventRun old done outcomes mid
  pub then_ : NextBreaks mid rest new

-- how far the command may have come
pub data CommandBreaks (hosts : List (List ℕ)) (old : State) (command : Command) (new : State) : Type 0 where
  -- nothing of it is done
  not_done : Counts false old new → new.stage ≡ old.stage → CommandBreaks hosts old command new
  -- a cluster was being made at a host of the site: after it nothing is known of the files
  half_made : (host : List ℕ) (files : KnownFiles) → command ≡ Create host → Contains hosts host → old.stage ≡ closed files → Counts false old new → new.stage ≡ closed unknown
      → CommandBreaks hosts old command new
  -- some of its events are done
  half_stepped : (events : List Event) → command ≡ Steps events → EventsBreak old events new → CommandBreaks hosts old command new

-- ---- the code and the disk

-- the command was carried out, and the code and the disk have gone on with it
pub record IsCarriedOut {D : Type 0} (view : D → View) (hosts : List (List ℕ)) (old : State) (command : Command) (answer : Answer) (cluster : Cluster D) : Type 0 where
  pub new : State
  pub at : IsInState view cluster new
  pub step : CommandStep hosts old command answer new

-- the command was broken off, and the disk was left so
pub record IsBrokenOff (hosts : List (List ℕ)) (old : State) (command : Command) (v : View) : Type 0 where
  pub new : State
  pub at_end : DiskIsIn v new
  pub breaks : CommandBreaks hosts old command new

-- What a command that is answered so does to the code and the disk, in whatever state they are.
pub record Carries {D : Type 0} (view : D → View) (hosts : List (List ℕ)) (old : Cluster D) (command : Command) (answer : Answer) (new : Cluster D) : Type 0 where
  pub step : (state : State) → IsInState view old state → IsCarriedOut view hosts state command answer new
  pub later : Later (lane_view view (lane_of old)) (lane_view view (lane_of new))

-- What a command that is broken off does to them.
pub record BreaksOff {D : Type 0} (view : D → View) (hosts : List (List ℕ)) (old : Cluster D) (command : Command) (new : Cluster D) : Type 0 where
  pub broken : (state : State) → IsInState view old state → IsBrokenOff hosts state command (lane_view view (lane_of new))
  pub later : Later (lane_view view (lane_of old)) (lane_view view (lane_of new))
