use Rattle.script_loop.proofs.EndsLemmas.{nothing_reported}
use Rattle.script_loop.proofs.fault.report_fault.Goals as goal

pub returns-in_default-clause-told : goal.returns-in_default-clause-told
returns-in_default-clause-told g c = nothing_reported c.args.fault _
