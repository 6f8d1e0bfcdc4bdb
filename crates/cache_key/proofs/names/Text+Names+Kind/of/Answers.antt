-- The fault that `?` passes on is the fault of the check.
use Rattle.std.proofs.Common.{ap, ◌∙◌, sym, Err}
use Rattle.std.proofs.lemmas.Result.{err_from_is_err_and}
use Rattle.cache_key.proofs.Faults.{cause-handed_on}
use Rattle.cache_key.proofs.names.Text+Names+Kind.of.Goals as goal

pub returns-in_err-check_name-clause-bad_byte : goal.returns-in_err-check_name-clause-bad_byte
returns-in_err-check_name-clause-bad_byte g c =
    let p = err_from_is_err_and c.from_residual.result c.from_residual.ensures.1 in
    λ at. rw (← c.as_bytes.ensures.value) (cause-handed_on c.check_name.result c.from_residual.result p.0 _ _ (c.in_err-check_name.was ∙ ap Err (sym p.2)) p.1 (c.check_name.ensures.bad_byte at))
