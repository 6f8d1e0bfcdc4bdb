use Rattle.std.proofs.Common.{◌∙◌, sym, ap, inl, inr, Ok, Err}
use Rattle.std.proofs.lemmas.Result.{err_from_is_err_and}
use Rattle.roster_form.proofs.RosterTextLemmas.{fault_refutes, roster_once}
use Rattle.roster_form.proofs.decode.decode_roster.Goals as goal

pub returns-in-Some-clause-value : goal.returns-in-Some-clause-value
returns-in-Some-clause-value c = λ roster is of. absurd (fault_refutes c.args.partitions c.in-Some.at c.args.text.now roster (sym c.in-Some.ensures) is of)

pub returns-in_err-read_roster-clause-value : goal.returns-in_err-read_roster-clause-value
returns-in_err-read_roster-clause-value c =
    let p = err_from_is_err_and c.from_residual.result c.from_residual.ensures.1 in
    λ roster is of. inr (p.1 ∙ ap Err p.2)

pub returns-clause-value : goal.returns-clause-value
returns-clause-value c = λ roster is of. inl (ap Ok (roster_once c.in_ok-read_roster.field-0 roster c.args.text.now c.in_ok-read_roster.ensures.text is))
