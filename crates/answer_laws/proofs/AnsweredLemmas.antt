-- Where a cluster was made and no disk has failed since, the store has what was answered.
use Rattle.std.proofs.Common.{◌≡◌, ◌⊎◌, inl, inr, ⊎_elim, ℕ, ◌+◌, ◌≤◌, ◌==◌, if◌then◌else◌, List, [], ◌∷◌, ◌++◌, map, refl, sym, ◌∙◌, ap, subst, append_assoc, arith, Bool, true, false, Option, Some, None}
use Rattle.std.specs.Prelude.{⊤, IsTrue}
use Rattle.std.proofs.lemmas.List.{append-nil}
use Rattle.fault_count.specs.Rose.{Rose}
use Rattle.cache_key.specs.Partition.{hash_partition}
use Rattle.cache_key.specs.declared.request.Mutation.{Mutation}
use Rattle.cache_key.specs.declared.request.Request.{Request}
use Rattle.cache_key.specs.declared.request.Request.TheVariants.{Get, Put, Remove, Ensure, Truncate, Destroy, PutAll, Size}
use Rattle.cache_key.specs.declared.request.Reply.{Reply}
use Rattle.cache_model.specs.Caches.{Pairs}
use Rattle.cache_model.specs.Change.{Change, change_of}
use Rattle.cache_model.specs.Parts.{pairs_in_partition, some_pairs, parts_of, joined_reply}
use Rattle.cache_model.specs.Reply.{mutation_of, changes_in, changes_asked}
use Rattle.disk_trait.specs.View.{View}
use Rattle.script_lines.specs.declared.command.Command.{Command}
use Rattle.script_lines.specs.declared.command.Command.TheVariants.{Create, Recover, Stop, Dump, Steps}
use Rattle.script_lines.specs.declared.command.Event.{Event}
use Rattle.script_lines.specs.declared.command.Event.TheVariants.{Call, Renew}
use Rattle.script_lines.specs.declared.answer.Answer.{Answer}
use Rattle.script_lines.specs.declared.answer.Outcome.{Outcome}
use Rattle.script_lines.specs.declared.answer.Outcome.TheVariants.{Replied, Renewed, Refused}
use Rattle.script_lines.specs.declared.answer.Refusal.{Refusal}
use Rattle.script_lines.specs.declared.answer.Refusal.TheVariants.{Closed, Open, NotMember, NotCreated, Fault, Damaged, NoPartition, StoreFull, TrailFull, VersionEnd}
use Rattle.cluster_commands.specs.State.{OpenCluster, KnownStore, KnownFiles, unknown, no_store, store_in, Stage, closed, opened, known_of, files_at, State, partition_count}
use Rattle.cluster_commands.specs.Events.{store_after, IsMadeFit, with_mutation, IsDurable, MutationComesTo, AskedComesTo, CallChange, GoesOn, PartsChange, RenewalRefused, RenewalComesTo, EventChange, BothOpen, EventRun}
use Rattle.cluster_commands.specs.Commands.{made_at, IsRecoveredAt, OpenStep, ClosedStep, StageStep}
use Rattle.answer_laws.specs.Run.{Run}
use Rattle.answer_laws.specs.Answered.{changes_in_parts, change_done, changes_done, changes_with, changes_since, changes_answered, IsCreated, HasCreated}
use Rattle.cluster_commands.specs.OnDisk.{HoldsKnown, FilesHold, HoldChanges}

-- ---- counts

pub rose_on : (old mid new : ℕ) → mid ≤ new → Rose old mid → Rose old new
rose_on old mid new le rose = λ below. let before = rose (omega (arith, le, below)) in omega (arith, le, before)

rose_back : (old mid new : ℕ) → old ≤ mid → Rose mid new → Rose old new
rose_back old mid new le rose = λ below. let before = rose below in omega (arith, le, before)

events_later : (old : State) (events : List Event) (outcomes : List Outcome) (new : State) → EventRun old events outcomes new → old.faults ≤ new.faults
events_later old [] [] new run = let same = ap (λ (s : State). s.faults) run in omega (arith, same)
events_later old [] (outcome ∷ outcomes) new run = absurd run
events_later old (event ∷ events) [] new run = absurd run
events_later old (event ∷ events) (outcome ∷ outcomes) new run =
    let more = events_later run.0 events outcomes new run.2 in
    let here = run.1.0.faults in
    omega (arith, here, more)

run_later : (hosts : List (List ℕ)) (old : State) (commands : List Command) (answers : List Answer) (new : State) → Run hosts old commands answers new → old.faults ≤ new.faults
run_later hosts old [] [] new run = let same = ap (λ (s : State). s.faults) run in omega (arith, same)
run_later hosts old [] (answer ∷ answers) new run = absurd run
run_later hosts old (command ∷ commands) [] new run = absurd run
run_later hosts old (command ∷ commands) (answer ∷ answers) new run =
    let more = run_later hosts run.0 commands answers new run.2 in
    let here = run.1.0.faults in
    omega (arith, here, more)

-- ---- these changes, and nothing in flight

abbrev Held : KnownFiles → List Change → Type 0
Held unknown changes = ⊥
Held no_store changes = ⊥
Held (store_in known) changes = (known.changes ≡ changes) × (known.flight ≡ [])

abbrev Holds : Stage → List Change → Type 0
Holds stage changes = Held (files_at stage) changes

abbrev holds : OpenCluster → List Change → Type 0
holds cluster changes = Held (store_in (known_of cluster)) changes

holds_as : (cluster other : OpenCluster) (changes : List Change) → cluster ≡ other → holds other changes → holds cluster changes
holds_as cluster other changes same has = subst (λ (c : OpenCluster). holds c changes) (sym same) has

-- these and none more
holds_none : (cluster : OpenCluster) (changes : List Change) → holds cluster changes → holds cluster (changes ++ [])
holds_none cluster changes has = (has.0 ∙ sym (append-nil changes), has.1)

-- ---- calls

-- what a mutation, or none, has changed that came to this outcome
abbrev asked_done : Option Mutation → Outcome → List Change
asked_done asked (Replied reply) = changes_in asked
asked_done asked (Refused refusal) = []
asked_done asked (Renewed partition id) = []

-- a store that is built anew has the same changes
same_changes : (size : ℕ) (old mid : OpenCluster) → IsMadeFit size old mid → mid.changes ≡ old.changes
same_changes size old mid fit = elim fit [
  | inl stays ↦ ap (λ (c : OpenCluster). c.changes) stays.1
  | inr anew ↦ ap (λ (c : OpenCluster). c.changes) anew.1.rest
]

-- where the disk doesn't fail, what is replied is done, and what is refused isn't
mutation_made : (old : OpenCluster) (size : ℕ) (mutation : Mutation) (request : Request) (outcome : Outcome) (new : OpenCluster) (fault : Type 0) (changes : List Change) → (fault → ⊥)
    → MutationComesTo old size mutation request outcome new fault → holds old changes → holds new (changes ++ asked_done (Some mutation) outcome)
mutation_made old size mutation request (Replied reply) new fault changes sound step has =
    let durable = step.2 in
    let same = same_changes size old durable.mid durable.fit in
    holds_as new (with_mutation durable.mid mutation) (changes ++ change_of mutation ∷ []) durable.is (ap (λ (cs : List Change). cs ++ change_of mutation ∷ []) (same ∙ has.0), durable.none)
mutation_made old size mutation request (Refused refusal) new fault changes sound step has = elim step [
  | inl first ↦ holds_none new changes (holds_as new old changes first.1 has)
  | inr failed ↦ absurd (sound failed.2)
]
mutation_made old size mutation request (Renewed partition id) new fault changes sound step has = absurd step

asked_made : (asked : Option Mutation) (old : OpenCluster) (request : Request) (outcome : Outcome) (new : OpenCluster) (fault : Type 0) (changes : List Change) → (fault → ⊥)
    → AskedComesTo asked old request outcome new fault → holds old changes → holds new (changes ++ asked_done asked outcome)
asked_made None old request (Replied reply) new fault changes sound step has = holds_none new changes (holds_as new (record old { trail = old.trail + 1 }) changes step.2 has)
asked_made None old request (Refused refusal) new fault changes sound step has = holds_none new changes (holds_as new old changes step.2 has)
asked_made None old request (Renewed partition id) new fault changes sound step has = absurd step
asked_made (Some mutation) old request outcome new fault changes sound step has = mutation_made old step.0 mutation request outcome new fault changes sound step.2 has

-- ---- parts

-- one part, or none
abbrev AreFew : List (ℕ × Request) → Type 0
AreFew [] = ⊤
AreFew (part ∷ []) = ⊤
AreFew (part ∷ other ∷ parts) = ⊥

few_where : (b : Bool) (request : Request) → AreFew (map (λ (r : Request). (0, r)) (if b then request ∷ [] else []))
few_where true request = tt
few_where false request = tt

few_pairs : (cache : List ℕ) (pairs : Pairs) → AreFew (map (λ (r : Request). (0, r)) (some_pairs cache pairs))
few_pairs cache [] = tt
few_pairs cache (pair ∷ pairs) = tt

-- the one partition has the one part
few_parts : (request : Request) → AreFew (parts_of partition_count request)
few_parts (Get cache key) = few_where (hash_partition key 1 == 0) (Get cache key)
few_parts (Put cache key value) = few_where (hash_partition key 1 == 0) (Put cache key value)
few_parts (Remove cache key) = few_where (hash_partition key 1 == 0) (Remove cache key)
few_parts (Ensure cache) = tt
few_parts (Truncate cache) = tt
few_parts (Destroy cache) = tt
few_parts (PutAll cache pairs) = few_pairs cache (pairs_in_partition 1 0 pairs)
few_parts (Size cache) = tt

abbrev parts_done : List (ℕ × Request) → Outcome → List Change
parts_done parts (Replied reply) = changes_in_parts parts
parts_done parts (Refused refusal) = []
parts_done parts (Renewed partition id) = []

-- the one part came to this
part_made : (part : ℕ × Request) (found outcome : Outcome) (mid new : OpenCluster) (Next : Reply → Type 0) (changes : List Change) → holds mid (changes ++ asked_done (mutation_of part.1) found)
    → GoesOn found mid outcome new Next → ((reply : Reply) → Next reply → (last : Reply) × (outcome ≡ Replied last) × (new ≡ mid)) → holds new (changes ++ parts_done (part ∷ []) outcome)
part_made part (Replied reply) outcome mid new Next changes has next goes =
    let last = goes reply next in
    subst (λ (o : Outcome). holds new (changes ++ parts_done (part ∷ []) o)) (sym last.1)
    (subst (λ (cs : List Change). holds new (changes ++ cs)) (sym (append-nil (changes_asked part.1))) (holds_as new mid _ last.2 has))
part_made part (Refused refusal) outcome mid new Next changes has next goes =
    subst (λ (o : Outcome). holds new (changes ++ parts_done (part ∷ []) o)) (sym next.0) (holds_as new mid _ next.1 has)
part_made part (Renewed partition id) outcome mid new Next changes has next goes = absurd next

parts_made : (old : OpenCluster) (request : Request) (parts : List (ℕ × Request)) (outcome : Outcome) (new : OpenCluster) (fault : Type 0) (changes : List Change) → AreFew parts → (fault → ⊥)
    → PartsChange old request parts [] outcome new fault → holds old changes → holds new (changes ++ parts_done parts outcome)
parts_made old request [] outcome new fault changes few sound step has =
    subst (λ (o : Outcome). holds new (changes ++ parts_done [] o)) (sym step.0) (holds_none new changes (holds_as new old changes step.1 has))
parts_made old request (part ∷ []) outcome new fault changes few sound step has =
    part_made part step.0 outcome step.1 new _ changes (asked_made (mutation_of part.1) old part.1 step.0 step.1 fault changes sound step.2 has) step.3
    (λ reply next. (joined_reply request (reply ∷ []), next.0, next.1))
parts_made old request (part ∷ other ∷ parts) outcome new fault changes few sound step has = absurd few

-- ---- events

-- a renewal that the disk didn't fail in changes nothing
renewal_refused_made : (old : OpenCluster) (partition : ℕ) (refusal : Refusal) (new : OpenCluster) (fault : Type 0) → (fault → ⊥) → RenewalRefused old partition refusal new fault → new ≡ old
renewal_refused_made old partition (NoPartition number) new fault sound step = step.2
renewal_refused_made old partition VersionEnd new fault sound step = step.2
renewal_refused_made old partition (Fault host) new fault sound step = absurd (sound step.3)
renewal_refused_made old partition TrailFull new fault sound step = absurd step
renewal_refused_made old partition (StoreFull length) new fault sound step = absurd step
renewal_refused_made old partition Closed new fault sound step = absurd step
renewal_refused_made old partition Open new fault sound step = absurd step
renewal_refused_made old partition (NotMember host) new fault sound step = absurd step
renewal_refused_made old partition NotCreated new fault sound step = absurd step
renewal_refused_made old partition (Damaged host number file at) new fault sound step = absurd step

renewal_made : (old : OpenCluster) (partition : ℕ) (outcome : Outcome) (new : OpenCluster) (fault : Type 0) (changes : List Change) → (fault → ⊥) → RenewalComesTo old partition outcome new fault
    → holds old changes → holds new changes
renewal_made old partition (Renewed number id) new fault changes sound step has =
    holds_as new (record old { file = new.file; id = store_after old.told; end = new.end; told = old.told + 1; flight = []; sound = true; lone = false }) changes step.5.rest (has.0, refl)
renewal_made old partition (Refused refusal) new fault changes sound step has = holds_as new old changes (renewal_refused_made old partition refusal new fault sound step) has
renewal_made old partition (Replied reply) new fault changes sound step has = absurd step

-- the changes of a request, by what it came to
call_done : (request : Request) (outcome : Outcome) → change_done (Call request) outcome ≡ parts_done (parts_of partition_count request) outcome
call_done request (Replied reply) = refl
call_done request (Refused refusal) = refl
call_done request (Renewed partition id) = refl

-- one event of an open cluster
change_made : (old : OpenCluster) (changes : List Change) (event : Event) (outcome : Outcome) (new : OpenCluster) (fault : Type 0) → (fault → ⊥) → EventChange old event outcome new fault
    → holds old changes → holds new (changes ++ change_done event outcome)
change_made old changes (Call request) outcome new fault sound step has =
    subst (λ (cs : List Change). holds new (changes ++ cs)) (sym (call_done request outcome)) (parts_made old request (parts_of partition_count request) outcome new fault changes (few_parts request) sound step has)
change_made old changes (Renew partition) outcome new fault sound step has = holds_none new changes (renewal_made old partition outcome new fault changes sound step has)

open_made : (old new : Stage) (event : Event) (outcome : Outcome) (fault : Type 0) (changes : List Change) → (fault → ⊥) → BothOpen old new (λ was is. EventChange was event outcome is fault)
    → Holds old changes → Holds new (changes ++ change_done event outcome)
open_made (opened old) (opened new) event outcome fault changes sound step has = change_made old changes event outcome new fault sound step has
open_made (opened old) (closed files) event outcome fault changes sound step has = absurd step
open_made (closed files) new event outcome fault changes sound step has = absurd step

events_made : (old : State) (events : List Event) (outcomes : List Outcome) (new : State) (changes : List Change)
    → EventRun old events outcomes new → (Rose old.faults new.faults → ⊥) → Holds old.stage changes → Holds new.stage (changes ++ changes_done events outcomes)
events_made old [] [] new changes run sound has =
    subst (λ (s : State). Holds s.stage (changes ++ [])) (sym run) (subst (λ (cs : List Change). Holds old.stage cs) (sym (append-nil changes)) has)
events_made old [] (outcome ∷ outcomes) new changes run sound has = absurd run
events_made old (event ∷ events) [] new changes run sound has = absurd run
events_made old (event ∷ events) (outcome ∷ outcomes) new changes run sound has =
    let mid = run.0 in
    let after = events_later mid events outcomes new run.2 in
    let here = open_made old.stage mid.stage event outcome (Rose old.faults mid.faults) changes (λ fault. sound (rose_on old.faults mid.faults new.faults after fault)) run.1.1 has in
    let more = events_made mid events outcomes new (changes ++ change_done event outcome) run.2 (λ fault. sound (rose_back old.faults mid.faults new.faults run.1.0.faults fault)) here in
    subst (λ (cs : List Change). Holds new.stage cs) (append_assoc changes (change_done event outcome) (changes_done events outcomes)) more

-- ---- commands

-- the stage goes on with it
on : (stage next : Stage) (changes : List Change) → next ≡ stage → Holds stage changes → Holds next changes
on stage next changes is has = subst (λ (s : Stage). Holds s changes) (sym is) has

-- the changes after an answer, and what holds of them
abbrev Next : Stage → List Change → Command → Answer → Type 0
Next new changes command answer = Holds new (changes_with changes command answer)

-- an answer that adds nothing
plain : (new : Stage) (changes : List Change) (command : Command) (answer other : Answer) → answer ≡ other → changes ≡ changes_with changes command other → Holds new changes → Next new changes command answer
plain new changes command answer other is same has =
    subst (λ (cs : List Change). Holds new cs) (same ∙ ap (λ (a : Answer). changes_with changes command a) (sym is)) has

command_open : (cluster : OpenCluster) (changes : List Change) (command : Command) (old : State) (answer : Answer) (new : State)
    → (Rose old.faults new.faults → ⊥) → OpenStep old cluster command answer new → Holds old.stage changes → Next new.stage changes command answer
command_open cluster changes (Create host) old answer new sound step has = plain new.stage changes (Create host) answer _ step.0 refl (on old.stage new.stage changes step.1 has)
command_open cluster changes (Recover host) old answer new sound step has = plain new.stage changes (Recover host) answer _ step.0 refl (on old.stage new.stage changes step.1 has)
command_open cluster changes Stop old answer new sound step has = plain new.stage changes Stop answer _ step.0 refl (on (closed (files_at old.stage)) new.stage changes step.1 has)
command_open cluster changes Dump old answer new sound step has = plain new.stage changes Dump answer _ step.0.2 refl (on old.stage new.stage changes step.1 has)
command_open cluster changes (Steps events) old answer new sound step has =
    subst (λ (a : Answer). Next new.stage changes (Steps events) a) (sym step.2) (events_made old events step.0 new changes step.1 sound has)

-- what is found is all there was
found_made : (known : KnownStore) (host : List ℕ) (cluster : OpenCluster) (changes : List Change) → IsRecoveredAt host cluster → (cluster.changes ≡ known.changes) ⊎ (cluster.changes ≡ known.changes ++ known.flight)
    → Held (store_in known) changes → holds cluster changes
found_made known host cluster changes recovered is has =
    let all : cluster.changes ≡ changes =
    ⊎_elim (λ same. same ∙ has.0) (λ more. more ∙ ap (λ (cs : List Change). known.changes ++ cs) has.1 ∙ append-nil known.changes ∙ has.0) is in
    (all, recovered.none)

command_closed : (hosts : List (List ℕ)) (known : KnownStore) (changes : List Change) (command : Command) (old : State) (answer : Answer) (new : State)
    → IsTrue old.tells → (Rose old.faults new.faults → ⊥) → ClosedStep hosts old (store_in known) command answer new → Held (store_in known) changes → Next new.stage changes command answer
command_closed hosts known changes (Create host) old answer new does sound step has = elim step [
  | inl made ↦ subst (λ (a : Answer). Next new.stage changes (Create host) a) (sym made.1) (on (opened (made_at host)) new.stage [] made.2 (refl, refl))
  | inr refused ↦ elim refused [
    | inl lacks ↦ plain new.stage changes (Create host) answer _ lacks.1 refl (on _ new.stage changes lacks.2 has)
    | inr failed ↦ absurd (sound failed.2)
  ]
]
command_closed hosts known changes (Recover host) old answer new does sound step has = elim step [
  | inl found ↦
      plain new.stage changes (Recover host) answer _ found.1 refl (on (opened found.2) new.stage changes found.5 (found_made known host found.2 changes found.3 (found.4 does).changes has))
  | inr refused ↦ elim refused [
    | inl lacks ↦ plain new.stage changes (Recover host) answer _ lacks.1 refl (on _ new.stage changes lacks.2 has)
    | inr rest ↦ elim rest [
      | inl failed ↦ absurd (sound failed.2)
      | inr lost ↦ absurd (lost.1 does)
    ]
  ]
]
command_closed hosts known changes Stop old answer new does sound step has = plain new.stage changes Stop answer _ step.0 refl (on _ new.stage changes step.1 has)
command_closed hosts known changes Dump old answer new does sound step has = plain new.stage changes Dump answer _ step.0 refl (on _ new.stage changes step.1 has)
command_closed hosts known changes (Steps events) old answer new does sound step has = plain new.stage changes (Steps events) answer _ step.0 refl (on _ new.stage changes step.1 has)

-- one command, from a stage whose store holds these changes
command_made : (hosts : List (List ℕ)) (stage : Stage) (changes : List Change) (command : Command) (old : State) (answer : Answer) (new : State)
    → old.stage ≡ stage → IsTrue old.tells → (Rose old.faults new.faults → ⊥) → StageStep hosts stage old command answer new → Holds stage changes → Next new.stage changes command answer
command_made hosts (closed unknown) changes command old answer new here does sound step has = absurd has
command_made hosts (closed no_store) changes command old answer new here does sound step has = absurd has
command_made hosts (closed (store_in known)) changes command old answer new here does sound step has = command_closed hosts known changes command old answer new does sound step has
command_made hosts (opened cluster) changes command old answer new here does sound step has =
    command_open cluster changes command old answer new sound step (on (opened cluster) old.stage changes here has)

run_made : (hosts : List (List ℕ)) (old : State) (commands : List Command) (answers : List Answer) (new : State) (changes : List Change)
    → IsTrue old.tells → Run hosts old commands answers new → (Rose old.faults new.faults → ⊥) → Holds old.stage changes → Holds new.stage (changes_since changes commands answers)
run_made hosts old [] [] new changes does run sound has = subst (λ (s : State). Holds s.stage changes) (sym run) has
run_made hosts old [] (answer ∷ answers) new changes does run sound has = absurd run
run_made hosts old (command ∷ commands) [] new changes does run sound has = absurd run
run_made hosts old (command ∷ commands) (answer ∷ answers) new changes does run sound has =
    let mid = run.0 in
    let after = run_later hosts mid commands answers new run.2 in
    let here = command_made hosts old.stage changes command old answer mid refl does (λ fault. sound (rose_on old.faults mid.faults new.faults after fault)) run.1.1 has in
    run_made hosts mid commands answers new (changes_with changes command answer) (subst IsTrue (sym run.1.0.tells) does) run.2
    (λ fault. sound (rose_back old.faults mid.faults new.faults run.1.0.faults fault)) here

-- ---- from an answered create on

not_created : (answer other : Answer) → answer ≡ other → IsCreated answer → (IsCreated other → ⊥) → ⊥
not_created answer other is created not = not (subst IsCreated is created)

-- what a create makes, whatever stood before
abbrev Makes : Stage → List Change → Command → Answer → Type 0
Makes new changes command answer = IsCreated answer → Next new changes command answer

created_open : (cluster : OpenCluster) (changes : List Change) (command : Command) (old : State) (answer : Answer) (new : State) → OpenStep old cluster command answer new → Makes new.stage changes command answer
created_open cluster changes (Create host) old answer new step made = absurd (not_created answer _ step.0 made (λ b. b))
created_open cluster changes (Recover host) old answer new step made = absurd (not_created answer _ step.0 made (λ b. b))
created_open cluster changes Stop old answer new step made = absurd (not_created answer _ step.0 made (λ b. b))
created_open cluster changes Dump old answer new step made = absurd (not_created answer _ step.0.2 made (λ b. b))
created_open cluster changes (Steps events) old answer new step made = absurd (not_created answer _ step.2 made (λ b. b))

created_closed : (hosts : List (List ℕ)) (files : KnownFiles) (changes : List Change) (command : Command) (old : State) (answer : Answer) (new : State)
    → ClosedStep hosts old files command answer new → Makes new.stage changes command answer
created_closed hosts files changes (Create host) old answer new step made = elim step [
  | inl here ↦ subst (λ (a : Answer). Next new.stage changes (Create host) a) (sym here.1) (on (opened (made_at host)) new.stage [] here.2 (refl, refl))
  | inr refused ↦ elim refused [
    | inl lacks ↦ absurd (not_created answer _ lacks.1 made (λ b. b))
    | inr failed ↦ absurd (not_created answer _ failed.1 made (λ b. b))
  ]
]
created_closed hosts files changes (Recover host) old answer new step made = elim step [
  | inl found ↦ absurd (not_created answer _ found.1 made (λ b. b))
  | inr refused ↦ elim refused [
    | inl lacks ↦ absurd (not_created answer _ lacks.1 made (λ b. b))
    | inr rest ↦ elim rest [
      | inl failed ↦ absurd (not_created answer _ failed.1 made (λ b. b))
      | inr lost ↦ elim lost.2 [
        | inl lacks ↦ absurd (not_created answer _ lacks made (λ b. b))
        | inr damaged ↦ absurd (not_created answer _ damaged.2 made (λ b. b))
      ]
    ]
  ]
]
created_closed hosts files changes Stop old answer new step made = absurd (not_created answer _ step.0 made (λ b. b))
created_closed hosts files changes Dump old answer new step made = absurd (not_created answer _ step.0 made (λ b. b))
created_closed hosts files changes (Steps events) old answer new step made = absurd (not_created answer _ step.0 made (λ b. b))

created : (hosts : List (List ℕ)) (stage : Stage) (changes : List Change) (command : Command) (old : State) (answer : Answer) (new : State)
    → StageStep hosts stage old command answer new → Makes new.stage changes command answer
created hosts (closed files) changes command old answer new step = created_closed hosts files changes command old answer new step
created hosts (opened cluster) changes command old answer new step = created_open cluster changes command old answer new step

-- a run in which a cluster was made and no disk has failed ends with what was answered since
made_whole : (hosts : List (List ℕ)) (old : State) (commands : List Command) (answers : List Answer) (new : State) (changes : List Change)
    → IsTrue old.tells → Run hosts old commands answers new → (Rose old.faults new.faults → ⊥) → HasCreated answers → Holds new.stage (changes_since changes commands answers)
made_whole hosts old [] [] new changes does run sound made = absurd made
made_whole hosts old [] (answer ∷ answers) new changes does run sound made = absurd run
made_whole hosts old (command ∷ commands) [] new changes does run sound made = absurd run
made_whole hosts old (command ∷ commands) (answer ∷ answers) new changes does run sound made =
    let mid = run.0 in
    let on_ = λ (fault : Rose mid.faults new.faults). sound (rose_back old.faults mid.faults new.faults run.1.0.faults fault) in
    let tells = subst IsTrue (sym run.1.0.tells) does in
    elim made [
      | inl here ↦ run_made hosts mid commands answers new (changes_with changes command answer) tells run.2 on_ (created hosts old.stage changes command old answer mid run.1.1 here)
      | inr there ↦ made_whole hosts mid commands answers new (changes_with changes command answer) tells run.2 on_ there
    ]

-- each image stands for them
held : (files : KnownFiles) (changes : List Change) (v : View) → Held files changes → FilesHold files v → HoldChanges changes v
held unknown changes v has hold = absurd has
held no_store changes v has hold = absurd has
held (store_in known) changes v has hold = λ m is.
    ⊎_elim (λ (here : HoldsKnown known known.changes m). (subst (λ (cs : List Change). HoldsKnown known cs m) has.0 here).stands)
    (λ (more : HoldsKnown known (known.changes ++ known.flight) m).
    (subst (λ (cs : List Change). HoldsKnown known cs m) (ap (λ (cs : List Change). known.changes ++ cs) has.1 ∙ append-nil known.changes ∙ has.0) more).stands)
    (hold m is)

-- where a cluster was made and the disk has not failed, all that was answered since is in the store
pub held_whole : (hosts : List (List ℕ)) (first last : State) (commands : List Command) (answers : List Answer) (v : View)
    → IsTrue first.tells → Run hosts first commands answers last → last.faults ≤ v.faults → FilesHold (files_at last.stage) v
    → HasCreated answers → (Rose first.faults v.faults → ⊥) → HoldChanges (changes_answered commands answers) v
held_whole hosts first last commands answers v tells run counted hold made sound =
    held (files_at last.stage) (changes_answered commands answers) v
    (made_whole hosts first commands answers last [] tells run (λ fault. sound (rose_on first.faults last.faults v.faults counted fault)) made) hold
