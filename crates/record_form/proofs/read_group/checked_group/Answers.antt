use Rattle.std.proofs.Common.{arith, ap, sym, ◌∙◌, length, Ok, inr}
use Rattle.std.proofs.lemmas.Result.{err_from_is_err_and}
use Rattle.record_form.proofs.GroupFaultLemmas.{faultless, group_read, refused_memory}
use Rattle.record_form.proofs.read_group.checked_group.Goals as goal

pub returns-in_err-mutations : goal.returns-in_err-mutations
returns-in_err-mutations c =
    let p = err_from_is_err_and c.from_residual-in_err-mutations.result c.from_residual-in_err-mutations.ensures.1 in
    let none = c.in_ok-check_group.ensures in
    record { decoded = rw (p.1, p.2) (inr (none, refused_memory c.args.payload.now c.in_err-mutations.field-0.0 none c.in_err-mutations.ensures)) }

pub read-requires-clause-group : goal.read-requires-clause-group
read-requires-clause-group c = (group_read c.args.payload.now c.in_ok-mutations.mutations.items (λ i. omega (arith, c.type_inv.payload i)) (faultless c.args.payload.now c.in_ok-check_group.ensures).0 c.in_ok-mutations.ensures).group

pub read-requires-clause-size : goal.read-requires-clause-size
read-requires-clause-size c = ap length (group_read c.args.payload.now c.in_ok-mutations.mutations.items (λ i. omega (arith, c.type_inv.payload i)) (faultless c.args.payload.now c.in_ok-check_group.ensures).0 c.in_ok-mutations.ensures).spelled

pub returns : goal.returns
returns c = record { decoded = (c.in_ok-mutations.ensures ∙ ap Ok (sym c.read.ensures), (faultless c.args.payload.now c.in_ok-check_group.ensures).0) }
