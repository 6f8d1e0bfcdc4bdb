use Rattle.report_lines.proofs.Floats.{has_float-answer_data}
use Rattle.report_lines.proofs.lines.print.Goals as goal

pub line_of-requires : goal.line_of-requires
line_of-requires c = rw c.in_ok-value.ensures (has_float-answer_data c.args.answer.now)
