use Rattle.std.proofs.Common.{arith}
use Rattle.std.proofs.lemmas.Result.{err_from_is_err_and}
use Rattle.store_journal.proofs.RecordLemmas.{ends_there, record_fails, refused_so}
use Rattle.store_journal.proofs.records.records.Goals as goal

pub returns-in_err-found : goal.returns-in_err-found
returns-in_err-found c =
    let p = err_from_is_err_and c.from_residual.result c.from_residual.ensures.1 in
    record { records = refused_so c.from_residual.result _ _ p.0 _ p.1 p.2 (record_fails _ _ _ _ c.loop-offset.invariant.so_far c.in_err-found.ensures.found) }

pub returns : goal.returns
returns c = record { records = ends_there _ _ _ c.loop-offset.invariant.so_far (omega (arith, c.if-offset-bytes.false)) }
