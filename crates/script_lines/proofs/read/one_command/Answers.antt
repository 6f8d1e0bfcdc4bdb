-- A line has one value, and a value is at most one command.
use Rattle.script_lines.proofs.FormLemmas.{one_of_a_line}
use Rattle.script_lines.proofs.read.one_command.Goals as goal

pub returns : goal.returns
returns c = one_of_a_line
