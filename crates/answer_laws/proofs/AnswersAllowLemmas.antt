-- Whatever the store may have is what the answers allow.
use Rattle.std.proofs.Common.{◌≡◌, ◌⊎◌, inl, inr, ⊎_elim, ℕ, ◌+◌, List, [], ◌∷◌, ◌++◌, refl, sym, ◌∙◌, ap, subst, append_assoc, Option, Some, None, true, false}
use Rattle.std.specs.Prelude.{IsTrue}
use Rattle.std.proofs.lemmas.List.{append-nil}
use Rattle.fault_count.specs.Rose.{Rose}
use Rattle.cache_key.specs.declared.request.Mutation.{Mutation}
use Rattle.cache_key.specs.declared.request.Request.{Request}
use Rattle.cache_model.specs.Change.{Change, change_of}
use Rattle.cache_key.specs.declared.request.Reply.{Reply}
use Rattle.cache_model.specs.Parts.{parts_of}
use Rattle.cache_model.specs.Reply.{mutation_of, changes_in, changes_asked}
use Rattle.script_lines.specs.declared.command.Command.{Command}
use Rattle.script_lines.specs.declared.command.Command.TheVariants.{Create, Recover, Stop, Dump, Steps}
use Rattle.script_lines.specs.declared.command.Event.{Event}
use Rattle.script_lines.specs.declared.command.Event.TheVariants.{Call, Renew}
use Rattle.script_lines.specs.declared.answer.Answer.{Answer}
use Rattle.script_lines.specs.declared.answer.Outcome.{Outcome}
use Rattle.script_lines.specs.declared.answer.Outcome.TheVariants.{Replied, Renewed, Refused}
use Rattle.script_lines.specs.declared.answer.Refusal.{Refusal}
use Rattle.script_lines.specs.declared.answer.Refusal.TheVariants.{Closed, Open, NotMember, NotCreated, Fault, Damaged, NoPartition, StoreFull, TrailFull, VersionEnd}
use Rattle.cluster_commands.specs.State.{OpenCluster, KnownFiles, unknown, no_store, store_in, Stage, closed, opened, known_of, files_at, State, partition_count}
use Rattle.cluster_commands.specs.Events.{store_after, IsMadeFit, IsNotBuilt, with_mutation, with_flight, IsDurable, IsNotDurable, IsRefusedFirst, MutationComesTo, AskedComesTo, CallChange, GoesOn, PartsChange, RenewalRefused, RenewalComesTo, EventChange, BothOpen, EventRun}
use Rattle.cluster_commands.specs.Commands.{OpenStep, ClosedStep, StageStep, IsRecoveredAt, IsAsKnown}
use Rattle.answer_laws.specs.Run.{Run}
use Rattle.answer_laws.specs.Answered.{changes_in_parts}
use Rattle.answer_laws.specs.AnswersAllow.{RefusedKeeps, StopsAtPart, PartsKeep, EventKeeps, EventsKeep, CommandLeaves, AnswersLeave, MayHave}

-- ---- what is shown

-- the files of an open cluster may show these changes
abbrev Has : OpenCluster → List Change → Type 0
Has cluster changes = MayHave (store_in (known_of cluster)) changes

abbrev Shows : Stage → List Change → Type 0
Shows stage changes = MayHave (files_at stage) changes

-- what a stage shows another shows that is the same
shows_as : (stage other : Stage) (changes : List Change) → stage ≡ other → Shows stage changes → Shows other changes
shows_as stage other changes same shows = subst (λ (s : Stage). Shows s changes) same shows

has_as : (cluster other : OpenCluster) (changes : List Change) → cluster ≡ other → Has cluster changes → Has other changes
has_as cluster other changes same has = subst (λ (c : OpenCluster). Has c changes) same has

-- what was shown before, of which these were kept
abbrev Keeps : (List Change → Type 0) → List Change → (List Change → Type 0) → Type 0
Keeps Was after AreKept = (before : List Change) × (kept : List Change) × Was before × AreKept kept × (after ≡ before ++ kept)

nothing_kept : (Was : List Change → Type 0) (after : List Change) (AreKept : List Change → Type 0) → Was after → AreKept [] → Keeps Was after AreKept
nothing_kept Was after AreKept shows keeps = (after, [], shows, keeps, sym (append-nil after))

-- the store has these and no others
only : (held flight after : List Change) → flight ≡ [] → (after ≡ held) ⊎ (after ≡ held ++ flight) → after ≡ held
only held flight after none shows = ⊎_elim (λ same. same) (λ same. same ∙ ap (λ (cs : List Change). held ++ cs) none ∙ append-nil held) shows

-- ---- calls

-- of a mutation, or of none, that came to this outcome, these changes are kept
abbrev AskedKeeps : Option Mutation → Outcome → List Change → Type 0
AskedKeeps asked (Replied reply) kept = kept ≡ changes_in asked
AskedKeeps asked (Refused refusal) kept = RefusedKeeps refusal (changes_in asked) kept
AskedKeeps asked (Renewed partition id) kept = ⊥

-- what is refused before anything is written isn't kept
none_first : (old : OpenCluster) (size : ℕ) (mutation : Mutation) (refusal : Refusal) (asked : List Change) → IsRefusedFirst old size mutation refusal → RefusedKeeps refusal asked []
none_first old size mutation TrailFull asked first = refl
none_first old size mutation (StoreFull length) asked first = refl
none_first old size mutation VersionEnd asked first = refl
none_first old size mutation Closed asked first = absurd first
none_first old size mutation Open asked first = absurd first
none_first old size mutation (NotMember host) asked first = absurd first
none_first old size mutation NotCreated asked first = absurd first
none_first old size mutation (Fault host) asked first = absurd first
none_first old size mutation (Damaged host partition file at) asked first = absurd first
none_first old size mutation (NoPartition partition) asked first = absurd first

-- a store that is built anew has the same changes
fit_changes : (size : ℕ) (old mid : OpenCluster) → IsMadeFit size old mid → mid.changes ≡ old.changes
fit_changes size old mid fit = elim fit [
  | inl stays ↦ ap (λ (c : OpenCluster). c.changes) stays.1
  | inr anew ↦ ap (λ (c : OpenCluster). c.changes) anew.1.rest
]

-- a store that wasn't built anew shows what it showed
has_not_built : (old new : OpenCluster) (after : List Change) → IsNotBuilt old new → Has new after → Has old after
has_not_built old new after not shows = has_as new (record old { told = new.told; sound = new.sound; lone = false }) after not.rest shows

durable_kept : (size : ℕ) (mutation : Mutation) (old new : OpenCluster) (after : List Change) → IsDurable size mutation old new → Has new after → Keeps (Has old) after (λ kept. kept ≡ change_of mutation ∷ [])
durable_kept size mutation old new after durable shows =
    let here : after ≡ durable.mid.changes ++ change_of mutation ∷ [] = only _ durable.mid.flight after durable.none (has_as new (with_mutation durable.mid mutation) after durable.is shows) in
    (old.changes, change_of mutation ∷ [], inl refl, refl, here ∙ ap (λ (cs : List Change). cs ++ change_of mutation ∷ []) (fit_changes size old durable.mid durable.fit))

-- the disk failed under the mutation
failed_kept : (size : ℕ) (mutation : Mutation) (old new : OpenCluster) (host : List ℕ) (after : List Change) → IsNotDurable size mutation old new → Has new after
    → Keeps (Has old) after (RefusedKeeps (Fault host) (change_of mutation ∷ []))
failed_kept size mutation old new host after not shows = elim not [
  | inl unbuilt ↦ nothing_kept (Has old) after (RefusedKeeps (Fault host) (change_of mutation ∷ [])) (has_not_built old new after unbuilt.1 shows) (inl refl)
  | inr failed ↦
      let same = fit_changes size old failed.0 failed.1 in
      ⊎_elim
      (λ (none : after ≡ failed.0.changes). (old.changes, [], inl refl, inl refl, none ∙ same ∙ sym (append-nil old.changes)))
      (λ (all : after ≡ failed.0.changes ++ change_of mutation ∷ []). (old.changes, change_of mutation ∷ [], inl refl, inr refl, all ∙ ap (λ (cs : List Change). cs ++ change_of mutation ∷ []) same))
      (has_as new (with_flight failed.0 mutation) after failed.2 shows)
]

mutation_kept : (old : OpenCluster) (size : ℕ) (mutation : Mutation) (request : Request) (outcome : Outcome) (new : OpenCluster) (fault : Type 0) (after : List Change)
    → MutationComesTo old size mutation request outcome new fault → Has new after → Keeps (Has old) after (AskedKeeps (Some mutation) outcome)
mutation_kept old size mutation request (Replied reply) new fault after step shows = durable_kept size mutation old new after step.2 shows
mutation_kept old size mutation request (Refused refusal) new fault after step shows = elim step [
  | inl first ↦ nothing_kept (Has old) after (RefusedKeeps refusal (change_of mutation ∷ [])) (has_as new old after first.1 shows) (none_first old size mutation refusal (change_of mutation ∷ []) first.0)
  | inr failed ↦
      subst (λ (r : Refusal). Keeps (Has old) after (RefusedKeeps r (change_of mutation ∷ []))) (sym failed.1)
      (failed_kept size mutation old new old.host after failed.3 shows)
]
mutation_kept old size mutation request (Renewed partition id) new fault after step shows = absurd step

asked_kept : (asked : Option Mutation) (old : OpenCluster) (request : Request) (outcome : Outcome) (new : OpenCluster) (fault : Type 0) (after : List Change)
    → AskedComesTo asked old request outcome new fault → Has new after → Keeps (Has old) after (AskedKeeps asked outcome)
asked_kept None old request (Replied reply) new fault after step shows =
    nothing_kept (Has old) after (AskedKeeps None (Replied reply)) (has_as new (record old { trail = old.trail + 1 }) after step.2 shows) refl
asked_kept None old request (Refused refusal) new fault after step shows =
    nothing_kept (Has old) after (AskedKeeps None (Refused refusal)) (has_as new old after step.2 shows) (subst (λ (r : Refusal). RefusedKeeps r [] []) (sym step.1) refl)
asked_kept None old request (Renewed partition id) new fault after step shows = absurd step
asked_kept (Some mutation) old request outcome new fault after step shows = mutation_kept old step.0 mutation request outcome new fault after step.2 shows

-- ---- parts

-- one part more was done before
part_before : (part : ℕ × Request) (parts : List (ℕ × Request)) (outcome : Outcome) (kept : List Change) → PartsKeep parts outcome kept → PartsKeep (part ∷ parts) outcome (changes_asked part.1 ++ kept)
part_before part parts (Replied reply) kept keeps = ap (λ (cs : List Change). changes_asked part.1 ++ cs) keeps
part_before part parts (Refused refusal) kept keeps = record {
  done = part ∷ keeps.done;
  part = keeps.part;
  rest = keeps.rest;
  whole = ap (λ (ps : List (ℕ × Request)). part ∷ ps) keeps.whole;
  of_it = keeps.of_it;
  may = keeps.may;
  kept_is = ap (λ (cs : List Change). changes_asked part.1 ++ cs) keeps.kept_is ∙ sym (append_assoc (changes_asked part.1) (changes_in_parts keeps.done) keeps.of_it);
}
part_before part parts (Renewed partition id) kept keeps = absurd keeps

-- a part was done, and the others went on
part_kept : (old mid : OpenCluster) (part : ℕ × Request) (parts : List (ℕ × Request)) (found outcome : Outcome) (new : OpenCluster) (fault : Type 0) (after : List Change) (Next : Reply → Type 0)
    → CallChange old part.1 found mid fault → GoesOn found mid outcome new Next → Has new after → ((reply : Reply) → Next reply → Keeps (Has mid) after (PartsKeep parts outcome))
    → Keeps (Has old) after (PartsKeep (part ∷ parts) outcome)
part_kept old mid part parts (Replied reply) outcome new fault after Next step next shows goes =
    let later = goes reply next in
    let here = asked_kept (mutation_of part.1) old part.1 (Replied reply) mid fault later.0 step later.2 in (
      here.0,
      changes_asked part.1 ++ later.1,
      here.2,
      part_before part parts outcome later.1 later.3,
      later.4 ∙ ap (λ (cs : List Change). cs ++ later.1) (here.4 ∙ ap (λ (cs : List Change). here.0 ++ cs) here.3) ∙ append_assoc here.0 (changes_asked part.1) later.1,
    )
part_kept old mid part parts (Refused refusal) outcome new fault after Next step next shows goes =
    let here = asked_kept (mutation_of part.1) old part.1 (Refused refusal) mid fault after step (has_as new mid after next.1 shows) in (
      here.0,
      here.1,
      here.2,
      subst (λ (o : Outcome). PartsKeep (part ∷ parts) o here.1) (sym next.0) (record { done = []; part = part; rest = parts; whole = refl; of_it = here.1; may = here.3; kept_is = refl }),
      here.4,
    )
part_kept old mid part parts (Renewed partition id) outcome new fault after Next step next shows goes = absurd next

parts_kept : (old : OpenCluster) (request : Request) (parts : List (ℕ × Request)) (replies : List Reply) (outcome : Outcome) (new : OpenCluster) (fault : Type 0) (after : List Change)
    → PartsChange old request parts replies outcome new fault → Has new after → Keeps (Has old) after (PartsKeep parts outcome)
parts_kept old request [] replies outcome new fault after step shows =
    nothing_kept (Has old) after (PartsKeep [] outcome) (has_as new old after step.1 shows) (subst (λ (o : Outcome). PartsKeep [] o []) (sym step.0) refl)
parts_kept old request (part ∷ parts) replies outcome new fault after step shows =
    part_kept old step.1 part parts step.0 outcome new fault after _ step.2 step.3 shows
    (λ reply next. parts_kept step.1 request parts (replies ++ reply ∷ []) outcome new fault after next shows)

-- ---- events

-- a renewal that is refused leaves what the files may show
refused_renewal_kept : (old : OpenCluster) (partition : ℕ) (refusal : Refusal) (new : OpenCluster) (fault : Type 0) (after : List Change) → RenewalRefused old partition refusal new fault → Has new after → Has old after
refused_renewal_kept old partition (NoPartition number) new fault after step shows = has_as new old after step.2 shows
refused_renewal_kept old partition VersionEnd new fault after step shows = has_as new old after step.2 shows
refused_renewal_kept old partition (Fault host) new fault after step shows = has_not_built old new after step.4 shows
refused_renewal_kept old partition TrailFull new fault after step shows = absurd step
refused_renewal_kept old partition (StoreFull length) new fault after step shows = absurd step
refused_renewal_kept old partition Closed new fault after step shows = absurd step
refused_renewal_kept old partition Open new fault after step shows = absurd step
refused_renewal_kept old partition (NotMember host) new fault after step shows = absurd step
refused_renewal_kept old partition NotCreated new fault after step shows = absurd step
refused_renewal_kept old partition (Damaged host number file at) new fault after step shows = absurd step

-- a store that was built anew shows the changes that were answered
renewal_kept : (old : OpenCluster) (partition : ℕ) (outcome : Outcome) (new : OpenCluster) (fault : Type 0) (after : List Change) → RenewalComesTo old partition outcome new fault → Has new after → Has old after
renewal_kept old partition (Renewed number id) new fault after step shows =
    let built = step.5 in
    inl (only old.changes [] after refl (has_as new (record old { file = new.file; id = store_after old.told; end = new.end; told = old.told + 1; flight = []; sound = true; lone = false }) after built.rest shows))
renewal_kept old partition (Refused refusal) new fault after step shows = refused_renewal_kept old partition refusal new fault after step shows
renewal_kept old partition (Replied reply) new fault after step shows = absurd step

event_kept : (old : OpenCluster) (event : Event) (outcome : Outcome) (new : OpenCluster) (fault : Type 0) (after : List Change) → EventChange old event outcome new fault → Has new after
    → Keeps (Has old) after (EventKeeps event outcome)
event_kept old (Call request) outcome new fault after step shows = parts_kept old request (parts_of partition_count request) [] outcome new fault after step shows
event_kept old (Renew partition) outcome new fault after step shows = nothing_kept (Has old) after (EventKeeps (Renew partition) outcome) (renewal_kept old partition outcome new fault after step shows) refl

-- a cluster is open before and after
open_kept : (old new : Stage) (event : Event) (outcome : Outcome) (fault : Type 0) (after : List Change) → BothOpen old new (λ was is. EventChange was event outcome is fault) → Shows new after
    → Keeps (Shows old) after (EventKeeps event outcome)
open_kept (opened old) (opened new) event outcome fault after step shows = event_kept old event outcome new fault after step shows
open_kept (opened old) (closed files) event outcome fault after step shows = absurd step
open_kept (closed files) new event outcome fault after step shows = absurd step

events_kept : (old : State) (events : List Event) (outcomes : List Outcome) (new : State) (after : List Change) → EventRun old events outcomes new → Shows new.stage after
    → Keeps (Shows old.stage) after (EventsKeep events outcomes)
events_kept old [] [] new after run shows = nothing_kept (Shows old.stage) after _ (shows_as new.stage old.stage after (ap (λ (s : State). s.stage) run) shows) refl
events_kept old [] (outcome ∷ outcomes) new after run shows = absurd run
events_kept old (event ∷ events) [] new after run shows = absurd run
events_kept old (event ∷ events) (outcome ∷ outcomes) new after run shows =
    let later = events_kept run.0 events outcomes new after run.2 shows in
    let here = open_kept old.stage run.0.stage event outcome (Rose old.faults run.0.faults) later.0 run.1.1 later.2 in (
      here.0,
      here.1 ++ later.1,
      here.2,
      (here.1, later.1, here.3, later.3, refl),
      later.4 ∙ ap (λ (cs : List Change). cs ++ later.1) here.4 ∙ append_assoc here.0 here.1 later.1,
    )

-- ---- commands

abbrev Before : Stage → Command → Answer → List Change → Type 0
Before old command answer after = (before : List Change) × Shows old before × CommandLeaves before command answer after

answered_as : (old : Stage) (command : Command) (answer other : Answer) (after : List Change) → answer ≡ other → Before old command other after → Before old command answer after
answered_as old command answer other after is before = subst (λ (a : Answer). Before old command a after) (sym is) before

-- the same changes
the_same : (old new : Stage) (command : Command) (answer other : Answer) (after : List Change) → answer ≡ other → new ≡ old → CommandLeaves after command other after → Shows new after → Before old command answer after
the_same old new command answer other after is same leaves shows = answered_as old command answer other after is (after, shows_as new old after same shows, leaves)

-- something is shown by whatever is known
some_shown : (files : KnownFiles) → (changes : List Change) × MayHave files changes
some_shown unknown = ([], tt)
some_shown no_store = ([], tt)
some_shown (store_in known) = (known.changes, inl refl)

-- what is found was shown
found_shown : (files : KnownFiles) (host : List ℕ) (cluster : OpenCluster) (after : List Change) → IsRecoveredAt host cluster → IsAsKnown files cluster → Shows (opened cluster) after → MayHave files after
found_shown unknown host cluster after recovered is shows = tt
found_shown no_store host cluster after recovered is shows = tt
found_shown (store_in known) host cluster after recovered is shows =
    let same = only cluster.changes cluster.flight after recovered.none shows in
    ⊎_elim (λ old. inl (same ∙ old)) (λ more. inr (same ∙ more)) is.changes

command_open : (cluster : OpenCluster) (command : Command) (old : State) (answer : Answer) (new : State) (after : List Change)
    → OpenStep old cluster command answer new → Shows new.stage after → Before old.stage command answer after
command_open cluster (Create host) old answer new after step shows = the_same old.stage new.stage (Create host) answer _ after step.0 step.1 refl shows
command_open cluster (Recover host) old answer new after step shows = the_same old.stage new.stage (Recover host) answer _ after step.0 step.1 refl shows
command_open cluster Stop old answer new after step shows =
    answered_as old.stage Stop answer _ after step.0 (after, shows_as new.stage (closed (files_at old.stage)) after step.1 shows, refl)
command_open cluster Dump old answer new after step shows = the_same old.stage new.stage Dump answer _ after step.0.2 step.1 refl shows
command_open cluster (Steps events) old answer new after step shows =
    let kept = events_kept old events step.0 new after step.1 shows in
    answered_as old.stage (Steps events) answer _ after step.2 (kept.0, kept.2, (kept.1, kept.3, kept.4))

command_closed : (hosts : List (List ℕ)) (files : KnownFiles) (command : Command) (old : State) (answer : Answer) (new : State) (after : List Change)
    → IsTrue old.tells → ClosedStep hosts old files command answer new → Shows new.stage after → Before (closed files) command answer after
command_closed hosts files (Create host) old answer new after does step shows = elim step [
  | inl made ↦ let before = some_shown files in answered_as (closed files) (Create host) answer _ after made.1 (before.0, before.1, only [] [] after refl (shows_as new.stage _ after made.2 shows))
  | inr refused ↦ elim refused [
    | inl lacks ↦ the_same (closed files) new.stage (Create host) answer _ after lacks.1 lacks.2 refl shows
    | inr failed ↦ let before = some_shown files in answered_as (closed files) (Create host) answer _ after failed.1 (before.0, before.1, tt)
  ]
]
command_closed hosts files (Recover host) old answer new after does step shows = elim step [
  | inl found ↦ answered_as (closed files) (Recover host) answer _ after found.1 (after, found_shown files host found.2 after found.3 (found.4 does) (shows_as new.stage _ after found.5 shows), refl)
  | inr refused ↦ elim refused [
    | inl lacks ↦ the_same (closed files) new.stage (Recover host) answer _ after lacks.1 lacks.2 refl shows
    | inr rest ↦ elim rest [
      | inl failed ↦ the_same (closed files) new.stage (Recover host) answer _ after failed.1 failed.3 refl shows
      | inr lost ↦ elim lost.2 [
        | inl lacks ↦ the_same (closed files) new.stage (Recover host) answer _ after lacks lost.3 refl shows
        | inr damaged ↦ the_same (closed files) new.stage (Recover host) answer _ after damaged.2 lost.3 refl shows
      ]
    ]
  ]
]
command_closed hosts files Stop old answer new after does step shows = the_same (closed files) new.stage Stop answer _ after step.0 step.1 refl shows
command_closed hosts files Dump old answer new after does step shows = the_same (closed files) new.stage Dump answer _ after step.0 step.1 refl shows
command_closed hosts files (Steps events) old answer new after does step shows = the_same (closed files) new.stage (Steps events) answer _ after step.0 step.1 refl shows

command_allows : (hosts : List (List ℕ)) (stage : Stage) (command : Command) (old : State) (answer : Answer) (new : State) (after : List Change)
    → old.stage ≡ stage → IsTrue old.tells → StageStep hosts stage old command answer new → Shows new.stage after → Before stage command answer after
command_allows hosts (closed files) command old answer new after here does step shows = command_closed hosts files command old answer new after does step shows
command_allows hosts (opened cluster) command old answer new after here does step shows =
    subst (λ (s : Stage). Before s command answer after) here (command_open cluster command old answer new after step shows)

-- one command after the other
pub answers_allow : (hosts : List (List ℕ)) (first last : State) (commands : List Command) (answers : List Answer) (after : List Change)
    → IsTrue first.tells → Run hosts first commands answers last → MayHave (files_at last.stage) after
    → (before : List Change) × MayHave (files_at first.stage) before × AnswersLeave before commands answers after
answers_allow hosts first last [] [] after does run shows = (after, subst (λ (s : State). Shows s.stage after) run shows, refl)
answers_allow hosts first last [] (answer ∷ answers) after does run shows = absurd run
answers_allow hosts first last (command ∷ commands) [] after does run shows = absurd run
answers_allow hosts first last (command ∷ commands) (answer ∷ answers) after does run shows =
    let later = answers_allow hosts run.0 last commands answers after (subst IsTrue (sym run.1.0.tells) does) run.2 shows in
    let here = command_allows hosts first.stage command first answer run.0 later.0 refl does run.1.1 later.1 in
    (here.0, here.1, (later.0, here.2, later.2))
