use Rattle.std.proofs.Common.{refl}
use Rattle.std.proofs.lemmas.Result.{err_from_is_err_and}
use Rattle.script_loop.specs.Chain.{between}
use Rattle.script_loop.specs.Lines.{broken_off}
use Rattle.script_loop.proofs.LinesLemmas.{not_added}
use Rattle.script_loop.proofs.line.reply_line.Goals as goal

pub returns-in_err-answer-in-Ok-clause-halts : goal.returns-in_err-answer-in-Ok-clause-halts
returns-in_err-answer-in-Ok-clause-halts g c =
    let p = err_from_is_err_and c.from_residual.result c.from_residual.ensures.1 in
    rw (p.1, p.2) (λ written. broken_off refl c.in-Ok.command _ c.in-Ok.ensures.ok c.in_err-answer-in-Ok.ensures.broken refl)

pub returns-in_err-text-in-Ok-clause-halts : goal.returns-in_err-text-in-Ok-clause-halts
returns-in_err-text-in-Ok-clause-halts g c =
    let p = err_from_is_err_and c.from_residual-in_err-text-in-Ok.result c.from_residual-in_err-text-in-Ok.ensures.1 in
    rw (p.1, p.2) (λ written. not_added (between g.M.Machine.answers g.M.Machine.breaks _ _) _ written c.in-Ok.command _ _ c.requires.some c.in-Ok.ensures.ok c.in_ok-answer-in-Ok.ensures.answered refl)
