use Rattle.std.proofs.Common.{◌∙◌, ◌++◌, [], length, refl, sym, ap, arith, length-append, rules}
use Rattle.std.proofs.lemmas.List.{append-nil}
use Rattle.std.proofs.lemmas.Result.{err_from_is_err_and, IfErr-weaker}
use Rattle.script_loop.specs.Script.{ended, HasNoLineFeed}
use Rattle.script_loop.proofs.HaltsLemmas.{hold_halts, halts_among}
use Rattle.script_loop.proofs.ProgressLemmas.{advances_none, advances_then, piece_goes_on}
use Rattle.script_loop.proofs.script.take_piece.Goals as goal

pub lines-init : goal.lines-init
lines-init g c = record {
  told = ([], refl, advances_none _ _ _ _);
  size = refl;
  later = omega arith;
  ready = c.requires;
}

pub lines-preserved : goal.lines-preserved
lines-preserved g c =
    let so_far = c.lines.invariant in
    let split = c.in-Some.ensures.found.1 in
    record {
      told = (so_far.told.0 ++ ended c.in-Some.line.now, piece_goes_on _ _ _ _ _ so_far.told.1 split, advances_then _ _ _ _ _ _ _ _ _ _ _ _ so_far.told.2 c.in_ok-end_line.ensures.told);
      size = (let sizes = simp length-append at (ap length split) in omega (arith, so_far.size, c.in_ok-end_line.ensures.size, sizes));
      later = omega (arith, so_far.later, c.in_ok-end_line.ensures.later);
      ready = c.in_ok-end_line.ensures.ready;
    }

pub returns-in_err-end_line-clause-halts : goal.returns-in_err-end_line-clause-halts
returns-in_err-end_line-clause-halts g c =
    let p = err_from_is_err_and c.from_residual.result c.from_residual.ensures.1 in
    let so_far = c.lines.invariant.told in
    rw (p.1, p.2) (halts_among _ g.M.Machine.breaks _ _ _ _ _ _ _ _ so_far.0 (ended c.in-Some.line.now) c.in-Some.after.now _ _ (piece_goes_on _ _ _ _ _ so_far.1 c.in-Some.ensures.found.1) so_far.2 c.in_err-end_line.ensures.halts)

pub returns-clause-halts : goal.returns-clause-halts
returns-clause-halts g c =
    let so_far = c.lines.invariant.told in
    let no_feed : HasNoLineFeed c.lines.rest.now = search rules in
    IfErr-weaker c.hold.result _ _
    (λ halt halts. halts_among _ g.M.Machine.breaks _ _ _ _ _ _ _ _ so_far.0 c.lines.rest.now [] _ _ (so_far.1 ∙ sym (append-nil (so_far.0 ++ c.lines.rest.now))) so_far.2 (hold_halts _ g.M.Machine.breaks _ _ _ _ halt no_feed halts)) c.hold.ensures.halts
