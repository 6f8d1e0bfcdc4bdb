use Rattle.std.proofs.Common.{◌≡◌, ◌∙◌, ap, arith, [], Err}
use Rattle.std.proofs.lemmas.Result.{err_from_is_err_and, IfErr-at_err}
use Rattle.script_loop.specs.declared.session.Halt.TheVariants.{ReadFault}
use Rattle.script_loop.proofs.RunLemmas.{underway_at_start, reads_on, all_read, read_halts, piece_halts}
use Rattle.script_loop.proofs.run.answer_pieces.Goals as goal

pub pieces-init : goal.pieces-init
pieces-init g c = record {
  told = underway_at_start _ _ _ _ _ c.begin-session.ensures;
  read_later = omega arith;
  write_later = omega arith;
  ready = c.requires.ready;
}

pub pieces-preserved : goal.pieces-preserved
pieces-preserved g c =
    let so_far = c.pieces.invariant in
    record {
      told = reads_on _ _ _ _ _ _ _ _ _ _ _ _ _ _ so_far.told c.in_ok-count.ensures.told.gave c.in_ok-count.ensures.told.rest c.in_ok-take_piece.ensures.told;
      read_later = omega (arith, so_far.read_later, c.in_ok-count.ensures.cause.later);
      write_later = omega (arith, so_far.write_later, c.in_ok-take_piece.ensures.later);
      ready = c.in_ok-take_piece.ensures.ready;
    }

pub returns-in_err-count-clause-halts : goal.returns-in_err-count-clause-halts
returns-in_err-count-clause-halts g c =
    let p = err_from_is_err_and c.from_residual.result c.from_residual.ensures.1 in
    rw (p.1, p.2) (read_halts _ g.M.Machine.breaks _ _ _ _ _ _ _ _ _ c.pieces.invariant.told c.in_err-count.ensures.told.refused)

pub returns-then-count-eq0-clause-told : goal.returns-then-count-eq0-clause-told
returns-then-count-eq0-clause-told g c = all_read _ _ _ _ _ _ _ _ _ _ (omega (arith, c.if-count-eq0.true)) c.pieces.invariant.told (c.in_ok-count.ensures.end (omega (arith, c.if-count-eq0.true)) (omega (arith, c.requires.room, c.pieces.auto.room))) c.in_ok-count.ensures.told.rest

pub returns-in_err-take_piece-clause-halts : goal.returns-in_err-take_piece-clause-halts
returns-in_err-take_piece-clause-halts g c =
    let p = err_from_is_err_and c.from_residual-in_err-take_piece.result c.from_residual-in_err-take_piece.ensures.1 in
    rw (p.1, p.2) (piece_halts _ g.M.Machine.breaks _ _ _ _ _ _ _ _ _ _ _ _ _ c.pieces.invariant.told c.in_ok-count.ensures.told.gave c.in_ok-count.ensures.told.rest c.in_err-take_piece.ensures.halts)

pub returns-in_err-take_piece-clause-read : goal.returns-in_err-take_piece-clause-read
returns-in_err-take_piece-clause-read g c = λ is.
    let p = err_from_is_err_and c.from_residual-in_err-take_piece.result c.from_residual-in_err-take_piece.ensures.1 in
    let same : c.in_err-take_piece.field-0.0 ≡ ReadFault = cc (p.1, p.2, is) in
    let so_far = c.pieces.invariant.told in
    absurd (IfErr-at_err _ (c.in_err-take_piece.was ∙ ap Err same) c.take_piece.ensures.halts _ so_far.read [] _ so_far.reached)
