use Rattle.std.proofs.Common.{refl, arith}
use Rattle.std.proofs.lemmas.Result.{err_from_is_err_and}
use Rattle.script_loop.proofs.HaltsLemmas.{limit_halts, ended_halts}
use Rattle.script_loop.proofs.ProgressLemmas.{line_advances}
use Rattle.script_loop.proofs.script.end_line.Goals as goal

pub returns-in-Some-clause-halts : goal.returns-in-Some-clause-halts
returns-in-Some-clause-halts g c =
    let held = c.args.session.now.partial.ok.0 in
    limit_halts _ g.M.Machine.breaks c.args.session.now _ _ c.args.rest.now _ _ c.requires.line (omega (arith, c.len.ensures, held)) refl (c.in-Some.ensures.past refl)

pub returns-in_err-answer_ended-clause-halts : goal.returns-in_err-answer_ended-clause-halts
returns-in_err-answer_ended-clause-halts g c =
    let p = err_from_is_err_and c.from_residual.result c.from_residual.ensures.1 in
    let held = c.args.session.now.partial.ok.0 in
    let within = c.in_default.ensures.within in
    rw (p.1, p.2) (ended_halts _ g.M.Machine.breaks c.args.session.now _ _ _ _ c.args.rest.now _ _ c.requires.line
    (omega (arith, c.len.ensures, held, within.0)) within.1 (omega (arith, c.len.ensures, held, within.2)) refl c.in_err-answer_ended.ensures.halts)

pub returns-clause-told : goal.returns-clause-told
returns-clause-told g c =
    let held = c.args.session.now.partial.ok.0 in
    let within = c.in_default.ensures.within in
    line_advances _ c.args.session.now _ _ _ _ _ c.args.rest.now c.requires.line
    (omega (arith, c.len.ensures, held, within.0)) c.in_ok-answer_ended.ensures.told c.in_ok-answer_ended.ensures.empty refl (omega (arith, c.len.ensures, held))
