use Rattle.report_lines.proofs.OneLineLemmas.{IsOneLine-answer_line, IsOneLine-fault_line}
use Rattle.report_lines.proofs.laws.lines_are_single.Goals as goal

pub returns-clause-answers : goal.returns-clause-answers
returns-clause-answers c = IsOneLine-answer_line

pub returns-clause-faults : goal.returns-clause-faults
returns-clause-faults c = IsOneLine-fault_line
