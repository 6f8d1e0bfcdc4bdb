use Rattle.record_form.proofs.BytesLemmas.{are_bytes}
use Rattle.record_form.proofs.GroupFaultLemmas.{first_fault}
use Rattle.record_form.proofs.laws.fault_is_first.Goals as goal

pub returns : goal.returns
returns c = λ payload fault are is. first_fault payload fault (are_bytes payload are) is
