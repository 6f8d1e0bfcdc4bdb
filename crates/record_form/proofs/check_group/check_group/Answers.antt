use Rattle.std.proofs.Common.{ℕ, List, subst}
use Rattle.record_form.proofs.GroupFaultLemmas.{Judged, long_judged}
use Rattle.record_form.proofs.check_group.check_group.Goals as goal

pub returns-then-payload-gt-MOST_GROUP_BYTES : goal.returns-then-payload-gt-MOST_GROUP_BYTES
returns-then-payload-gt-MOST_GROUP_BYTES c =
    let found = c.check_bytes-found.result in
    long_judged c.args.payload.now found c.fault_before_limit.result c.if-payload-gt-MOST_GROUP_BYTES.true (subst (λ (l : List ℕ). Judged l found) c.prefix_of.ensures c.check_bytes-found.ensures) c.fault_before_limit.ensures
