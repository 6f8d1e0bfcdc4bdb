-- Which changes the answers of a run allow the partition's store to have.
use Rattle.std.specs.Prelude.{⊤, ◌≡◌, ◌⊎◌, ℕ, List, [], ◌∷◌, ◌++◌}
use Rattle.cache_model.specs.Change.{Change}
use Rattle.cache_key.specs.declared.request.Request.{Request}
use Rattle.cache_model.specs.Parts.{parts_of}
use Rattle.cache_model.specs.Reply.{changes_asked}
use Rattle.script_lines.specs.declared.command.Command.{Command}
use Rattle.script_lines.specs.declared.command.Command.TheVariants.{Create, Recover, Stop, Dump, Steps}
use Rattle.script_lines.specs.declared.command.Event.{Event}
use Rattle.script_lines.specs.declared.command.Event.TheVariants.{Call, Renew}
use Rattle.script_lines.specs.declared.answer.Answer.{Answer}
use Rattle.script_lines.specs.declared.answer.Answer.TheVariants as answered
use Rattle.script_lines.specs.declared.answer.Outcome.{Outcome}
use Rattle.script_lines.specs.declared.answer.Outcome.TheVariants.{Replied, Renewed, Refused}
use Rattle.script_lines.specs.declared.answer.Refusal.{Refusal}
use Rattle.script_lines.specs.declared.answer.Refusal.TheVariants.{Closed, Open, NotMember, NotCreated, Fault, Damaged, NoPartition, StoreFull, TrailFull, VersionEnd}
use Rattle.answer_laws.specs.Answered.{changes_in_parts, events_of}
use Rattle.cluster_commands.specs.State.{KnownFiles, unknown, no_store, store_in, partition_count}

-- Changes that are refused aren't kept; those under which the disk failed may be, all of them or none.
abbrev pub RefusedKeeps : Refusal → List Change → List Change → Type 0
RefusedKeeps Closed asked kept = kept ≡ []
RefusedKeeps Open asked kept = kept ≡ []
RefusedKeeps (NotMember host) asked kept = kept ≡ []
RefusedKeeps NotCreated asked kept = kept ≡ []
RefusedKeeps (Fault host) asked kept = (kept ≡ []) ⊎ (kept ≡ asked)
RefusedKeeps (Damaged host partition file at) asked kept = kept ≡ []
RefusedKeeps (NoPartition partition) asked kept = kept ≡ []
RefusedKeeps (StoreFull live) asked kept = kept ≡ []
RefusedKeeps TrailFull asked kept = kept ≡ []
RefusedKeeps VersionEnd asked kept = kept ≡ []

-- Of parts of which one was refused, the changes of those before it are kept, of that one as the refusal allows, and of
-- those after it none.
pub record StopsAtPart (refusal : Refusal) (parts : List (ℕ × Request)) (kept : List Change) : Type 0 where
  pub done : List (ℕ × Request)
  pub part : ℕ × Request
  pub rest : List (ℕ × Request)
  pub whole : parts ≡ done ++ part ∷ rest
  pub of_it : List Change
  pub may : RefusedKeeps refusal (changes_asked part.1) of_it
  pub kept_is : kept ≡ changes_in_parts done ++ of_it

-- of the parts of a request that came to this outcome, these changes are kept
abbrev pub PartsKeep : List (ℕ × Request) → Outcome → List Change → Type 0
PartsKeep parts (Replied reply) kept = kept ≡ changes_in_parts parts
PartsKeep parts (Refused refusal) kept = StopsAtPart refusal parts kept
PartsKeep parts (Renewed partition id) kept = ⊥

-- of an event that came to this outcome, these changes are kept
abbrev pub EventKeeps : Event → Outcome → List Change → Type 0
EventKeeps (Call request) outcome kept = PartsKeep (parts_of partition_count request) outcome kept
EventKeeps (Renew partition) outcome kept = kept ≡ []

-- of these events, one after the other
abbrev pub EventsKeep : List Event → List Outcome → List Change → Type 0
EventsKeep [] [] kept = kept ≡ []
EventsKeep (event ∷ events) (outcome ∷ outcomes) kept = (first : List Change) × (rest : List Change) × EventKeeps event outcome first × EventsKeep events outcomes rest × (kept ≡ first ++ rest)
EventsKeep [] (outcome ∷ outcomes) kept = ⊥
EventsKeep (event ∷ events) [] kept = ⊥

-- a command that is refused changes nothing; after a create under which the disk failed nothing is known
abbrev pub RefusedLeaves : Command → Refusal → List Change → List Change → Type 0
RefusedLeaves (Create host) Closed before after = after ≡ before
RefusedLeaves (Create host) Open before after = after ≡ before
RefusedLeaves (Create host) (NotMember other) before after = after ≡ before
RefusedLeaves (Create host) NotCreated before after = after ≡ before
RefusedLeaves (Create host) (Fault other) before after = ⊤
RefusedLeaves (Create host) (Damaged other partition file at) before after = after ≡ before
RefusedLeaves (Create host) (NoPartition partition) before after = after ≡ before
RefusedLeaves (Create host) (StoreFull live) before after = after ≡ before
RefusedLeaves (Create host) TrailFull before after = after ≡ before
RefusedLeaves (Create host) VersionEnd before after = after ≡ before
RefusedLeaves (Recover host) refusal before after = after ≡ before
RefusedLeaves Stop refusal before after = after ≡ before
RefusedLeaves Dump refusal before after = after ≡ before
RefusedLeaves (Steps events) refusal before after = after ≡ before

-- after the changes before, a command that is answered so leaves these; an answered create starts from empty
abbrev pub CommandLeaves : List Change → Command → Answer → List Change → Type 0
CommandLeaves before command (answered.Created host) after = after ≡ []
CommandLeaves before command (answered.Recovered epoch host opened) after = after ≡ before
CommandLeaves before command answered.Stopped after = after ≡ before
CommandLeaves before command (answered.Dumped partitions) after = after ≡ before
CommandLeaves before command (answered.Stepped outcomes) after = (kept : List Change) × EventsKeep (events_of command) outcomes kept × (after ≡ before ++ kept)
CommandLeaves before command (answered.Refused refusal) after = RefusedLeaves command refusal before after

-- one command after the other
abbrev pub AnswersLeave : List Change → List Command → List Answer → List Change → Type 0
AnswersLeave before [] [] after = after ≡ before
AnswersLeave before (command ∷ commands) (answer ∷ answers) after = (mid : List Change) × CommandLeaves before command answer mid × AnswersLeave mid commands answers after
AnswersLeave before [] (answer ∷ answers) after = ⊥
AnswersLeave before (command ∷ commands) [] after = ⊥

-- the files may show these changes, by what is known of them
abbrev pub MayHave : KnownFiles → List Change → Type 0
MayHave unknown changes = ⊤
MayHave no_store changes = ⊤
MayHave (store_in known) changes = (changes ≡ known.changes) ⊎ (changes ≡ known.changes ++ known.flight)
