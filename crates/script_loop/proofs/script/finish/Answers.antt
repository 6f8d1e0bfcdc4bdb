use Rattle.std.proofs.Common.{refl}
use Rattle.std.proofs.lemmas.Result.{on_ok_weaker, IfErr-weaker}
use Rattle.script_loop.proofs.HaltsLemmas.{finish_halts}
use Rattle.script_loop.proofs.ProgressLemmas.{finished}
use Rattle.script_loop.proofs.script.finish.Goals as goal

pub returns-clause-told : goal.returns-clause-told
returns-clause-told g c = on_ok_weaker c.answer_line.result
    (λ answered first script before so_far. finished _ g.M.Machine.breaks first script before c.args.session.now _ _ _ _ c.deref.result.now c.deref.ensures.value answered so_far) c.answer_line.ensures.told

pub returns-clause-halts : goal.returns-clause-halts
returns-clause-halts g c = IfErr-weaker c.answer_line.result _ _
    (λ halt halts. finish_halts _ g.M.Machine.breaks c.args.session.now _ _ _ _ c.deref.result.now _ halt c.deref.ensures.value refl halts) c.answer_line.ensures.halts
