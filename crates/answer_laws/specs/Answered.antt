-- The changes that a run was asked for and that were answered.
use Rattle.std.specs.Prelude.{◌⊎◌, ℕ, List, [], ◌∷◌, ◌++◌}
use Rattle.cache_model.specs.Change.{Change}
use Rattle.cache_key.specs.declared.request.Request.{Request}
use Rattle.cache_model.specs.Parts.{parts_of}
use Rattle.cache_model.specs.Reply.{changes_asked}
use Rattle.script_lines.specs.declared.command.Command.{Command}
use Rattle.script_lines.specs.declared.command.Command.TheVariants.{Create, Recover, Stop, Dump, Steps}
use Rattle.script_lines.specs.declared.command.Event.{Event}
use Rattle.script_lines.specs.declared.command.Event.TheVariants.{Call, Renew}
use Rattle.script_lines.specs.declared.answer.Answer.{Answer}
use Rattle.script_lines.specs.declared.answer.Answer.TheVariants as answered
use Rattle.script_lines.specs.declared.answer.Outcome.{Outcome}
use Rattle.script_lines.specs.declared.answer.Outcome.TheVariants.{Replied, Renewed, Refused}
use Rattle.cluster_commands.specs.State.{partition_count}

-- what the parts of a request change, one after the other
abbrev pub changes_in_parts : List (ℕ × Request) → List Change
changes_in_parts [] = []
changes_in_parts (part ∷ parts) = changes_asked part.1 ++ changes_in_parts parts

-- the changes of an event, none where it was refused; a renewal changes nothing
abbrev pub change_done : Event → Outcome → List Change
change_done (Call request) (Replied reply) = changes_in_parts (parts_of partition_count request)
change_done (Call request) (Refused refusal) = []
change_done (Call request) (Renewed partition id) = []
change_done (Renew partition) outcome = []

abbrev pub changes_done : List Event → List Outcome → List Change
changes_done [] outcomes = []
changes_done (event ∷ events) [] = []
changes_done (event ∷ events) (outcome ∷ outcomes) = change_done event outcome ++ changes_done events outcomes

abbrev pub events_of : Command → List Event
events_of (Create host) = []
events_of (Recover host) = []
events_of Stop = []
events_of Dump = []
events_of (Steps events) = events

-- after these changes, what a command adds to them by its answer; an answered create starts from empty
abbrev pub changes_with : List Change → Command → Answer → List Change
changes_with changes command (answered.Created host) = []
changes_with changes command (answered.Recovered epoch host opened) = changes
changes_with changes command answered.Stopped = changes
changes_with changes command (answered.Dumped partitions) = changes
changes_with changes command (answered.Stepped outcomes) = changes ++ changes_done (events_of command) outcomes
changes_with changes command (answered.Refused refusal) = changes

-- after these changes, those of one command after the other
abbrev pub changes_since : List Change → List Command → List Answer → List Change
changes_since changes [] answers = changes
changes_since changes (command ∷ commands) [] = changes
changes_since changes (command ∷ commands) (answer ∷ answers) = changes_since (changes_with changes command answer) commands answers

-- the changes that were answered since the last create that was answered, the oldest first
abbrev pub changes_answered : List Command → List Answer → List Change
changes_answered commands answers = changes_since [] commands answers

abbrev pub IsCreated : Answer → Type 0
IsCreated (answered.Created host) = Unit {0}
IsCreated (answered.Recovered epoch host opened) = ⊥
IsCreated answered.Stopped = ⊥
IsCreated (answered.Dumped partitions) = ⊥
IsCreated (answered.Stepped outcomes) = ⊥
IsCreated (answered.Refused refusal) = ⊥

-- a create was answered without a refusal
abbrev pub HasCreated : List Answer → Type 0
HasCreated [] = ⊥
HasCreated (answer ∷ answers) = IsCreated answer ⊎ HasCreated answers
