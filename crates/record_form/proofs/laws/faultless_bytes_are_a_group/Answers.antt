use Rattle.record_form.proofs.BytesLemmas.{are_bytes}
use Rattle.record_form.proofs.GroupFaultLemmas.{faultless_group, group_found}
use Rattle.record_form.proofs.laws.faultless_bytes_are_a_group.Goals as goal

pub returns : goal.returns
returns c = record { faultless = λ payload are none. faultless_group payload (are_bytes payload are) none; group = λ payload group is. (group_found payload group is).0 }
