use Rattle.std.proofs.Common.{refl, sym, ap, ◌∙◌, Err}
use Rattle.roster_form.specs.RosterFault.{roster_fault}
use Rattle.roster_book.proofs.read.roster_in.Goals as goal

pub returns-in-Err-Form-clause-refused : goal.returns-in-Err-Form-clause-refused
returns-in-Err-Form-clause-refused g c = (
  refl,
  λ tells. ap (roster_fault c.args.partitions) (sym (c.as_slice.ensures.value ∙ c.in_ok-bytes.ensures.whole tells)) ∙ (c.in-Err-Form.ensures.fault_at c.in-Err-Form.at).0 (ap Err c.in-Err-Form.field-0-is),
)
