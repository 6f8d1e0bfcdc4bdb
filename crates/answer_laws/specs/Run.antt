-- The run of a site's commands that its answers come from.
use Rattle.std.specs.Prelude.{ℕ, List}
use Rattle.script_lines.specs.declared.command.Command.{Command}
use Rattle.script_lines.specs.declared.answer.Answer.{Answer}
use Rattle.script_loop.specs.Chain.{Chain}
use Rattle.cluster_commands.specs.Commands.{CommandStep}
use Rattle.cluster_commands.specs.State.{State}

-- one command after the other
abbrev pub Run : List (List ℕ) → State → List Command → List Answer → State → Type 0
Run hosts = Chain (CommandStep hosts)
