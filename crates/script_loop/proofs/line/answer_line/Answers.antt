use Rattle.std.proofs.Common.{sym, ◌∙◌, refl, subst, List, ℕ}
use Rattle.std.proofs.lemmas.Result.{err_from_is_err_and}
use Rattle.byte_streams.specs.Streams.{AddsPrefix}
use Rattle.script_loop.specs.Chain.{between}
use Rattle.script_loop.proofs.LinesLemmas.{line_step, not_empty_line, halts_writing}
use Rattle.script_loop.proofs.line.answer_line.Goals as goal

pub returns-in_err-write_all-clause-halts : goal.returns-in_err-write_all-clause-halts
returns-in_err-write_all-clause-halts g c =
    let p = err_from_is_err_and c.from_residual-in_err-write_all.result c.from_residual-in_err-write_all.ensures.1 in
    rw (p.1, p.2) (halts_writing (between g.M.Machine.answers g.M.Machine.breaks _ _) _ _ _ _ _ _ _
    (line_step _ _ _ _ _ (not_empty_line _ (sym c.is_empty.ensures ∙ c.if-is_empty.false)) c.in_ok-text.ensures.step) refl
    (subst (λ (text : List ℕ). AddsPrefix (g.K.Sink.written c.args.sink.now) text (g.K.Sink.written c.write_all.new.sink)) c.deref.ensures.value c.in_err-write_all.ensures.told.part.part))
