use Rattle.std.proofs.Common.{ap, Err}
use Rattle.script_loop.specs.Chain.{between}
use Rattle.script_loop.proofs.RunLemmas.{ends_at_fault, ends_at_read, no_fault}
use Rattle.script_loop.proofs.run.report_script.Goals as goal

pub returns-in-Err-Faulty-clause-ends : goal.returns-in-Err-Faulty-clause-ends
returns-in-Err-Faulty-clause-ends g c = λ script is.
    ends_at_fault (between g.M.Machine.answers g.M.Machine.breaks _ _) script _ _ _ _ _ _ c.in-Err-Faulty.line c.in-Err-Faulty.reason _ (rw c.in-Err-Faulty.field-0-is at c.in-Err-Faulty.ensures.halts) c.report_fault.ensures.told is

pub returns-in-Err-Faulty-clause-complete : goal.returns-in-Err-Faulty-clause-complete
returns-in-Err-Faulty-clause-complete g c = λ script commands is good.
    no_fault (between g.M.Machine.answers g.M.Machine.breaks _ _) script commands _ _ _ _ _ (returns-in-Err-Faulty-clause-ends g c script is) good

pub returns-in-Err-ReadFault-clause-ends : goal.returns-in-Err-ReadFault-clause-ends
returns-in-Err-ReadFault-clause-ends g c = λ script is.
    rw c.ended-in-Err-ReadFault.ensures (ends_at_read (between g.M.Machine.answers g.M.Machine.breaks _ _) script _ _ _ _ _ _ _ (rw c.in-Err-ReadFault.field-0-is at c.in-Err-ReadFault.ensures.halts) (c.in-Err-ReadFault.ensures.read (ap Err c.in-Err-ReadFault.field-0-is)) c.report_fault-in-Err-ReadFault.ensures.told is)
