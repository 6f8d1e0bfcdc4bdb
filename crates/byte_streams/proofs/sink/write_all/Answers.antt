use Rattle.std.proofs.Common.{◌∙◌, arith}
use Rattle.std.proofs.lemmas.Grind.{common_steps}
use Rattle.std.proofs.lemmas.Result.{err_from_is_err_and}
use Rattle.byte_streams.proofs.StreamsLemmas.{writes_on, part_kept}
use Rattle.byte_streams.proofs.sink.write_all.Goals as goal

pub returns-in_err-done-clause-told : goal.returns-in_err-done-clause-told
returns-in_err-done-clause-told g c =
    let p = err_from_is_err_and c.from_residual.result c.from_residual.ensures.1 in
    rw p.1 (record { whole = tt; part = part_kept _ _ _ _ c.loop-done.done c.loop-done-test.true c.loop-done.invariant.written c.in_err-done.ensures.told.refused })

pub loop-done-preserved : goal.loop-done-preserved
loop-done-preserved g c = record {
  within = grind (arith, common_steps);
  faults = c.in_ok-done.ensures.cause.kept (λ e. cc) ∙ c.loop-done.invariant.faults;
  written = writes_on _ _ _ _ _ _ c.loop-done.invariant.written c.in_ok-done.ensures.told.added;
}
