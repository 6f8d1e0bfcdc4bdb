use Rattle.std.proofs.lemmas.Result.{err_from_is_err_and, on_ok_weaker, IfErr-weaker, IfErr-at_err}
use Rattle.script_loop.proofs.RunLemmas.{start_halts, last_halts}
use Rattle.script_loop.proofs.run.run_script.Goals as goal

pub returns-in_err-room-clause-halts : goal.returns-in_err-room-clause-halts
returns-in_err-room-clause-halts g c =
    let p = err_from_is_err_and c.from_residual.result c.from_residual.ensures.1 in
    rw (p.1, p.2) (start_halts _ g.M.Machine.breaks _ _ _)

pub returns-clause-told : goal.returns-clause-told
returns-clause-told g c =
    let read = c.in_ok-session.ensures.told in
    on_ok_weaker c.finish.result (λ finishes. record { read = read.read; gave = read.gave; finished = finishes _ read.read _ read.reached }) c.finish.ensures.told

pub returns-clause-halts : goal.returns-clause-halts
returns-clause-halts g c =
    let read = c.in_ok-session.ensures.told in
    IfErr-weaker c.finish.result _ _ (λ halt halts. last_halts _ g.M.Machine.breaks _ _ _ _ _ _ _ _ _ halt read (halts _ read.read _ read.reached)) c.finish.ensures.halts

pub returns-clause-read : goal.returns-clause-read
returns-clause-read g c = λ is.
    let read = c.in_ok-session.ensures.told in
    absurd (IfErr-at_err _ is c.finish.ensures.halts _ read.read _ read.reached)
