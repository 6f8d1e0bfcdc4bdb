use Rattle.std.proofs.Common.{◌≡◌, Err, sym, ◌∙◌, ap}
use Rattle.std.proofs.lemmas.Result.{err_from_is_err_and}
use Rattle.store_journal.specs.declared.fault.LoadFault.TheVariants.{Damaged}
use Rattle.partition_cell.proofs.load.load_bounded.Goals as goal

pub returns-in_err-loaded-clause-damaged : goal.returns-in_err-loaded-clause-damaged
returns-in_err-loaded-clause-damaged g c at is tells =
    let p = err_from_is_err_and c.from_residual.result c.from_residual.ensures.1 in
    let also = sym p.1 ∙ is in
    let same : p.0 ≡ Damaged at = cc in
    c.load.ensures.damaged at (c.in_err-loaded.was ∙ ap Err (sym p.2 ∙ same)) tells
