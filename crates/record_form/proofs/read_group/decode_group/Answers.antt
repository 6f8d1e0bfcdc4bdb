use Rattle.std.proofs.Common.{arith}
use Rattle.record_form.proofs.GroupFaultLemmas.{decoded_text, decoded_value, decoded_fault, decoded_memory}
use Rattle.record_form.proofs.read_group.decode_group.Goals as goal

pub returns-clause-text : goal.returns-clause-text
returns-clause-text c = decoded_text c.args.payload.now c.checked_group.result (λ i. omega (arith, c.type_inv.payload i)) c.checked_group.ensures.decoded

pub returns-clause-value : goal.returns-clause-value
returns-clause-value c = decoded_value c.args.payload.now c.checked_group.result c.checked_group.ensures.decoded

pub returns-clause-fault_at : goal.returns-clause-fault_at
returns-clause-fault_at c = decoded_fault c.args.payload.now c.checked_group.result c.checked_group.ensures.decoded

pub returns-clause-no_memory : goal.returns-clause-no_memory
returns-clause-no_memory c = decoded_memory c.args.payload.now c.checked_group.result c.checked_group.ensures.decoded
