-- The longest number at the offset, and the dash after it.
use Rattle.store_ident.proofs.FieldLemmas.{IsField-found}
use Rattle.store_ident.proofs.fields.next_field.Goals as goal

pub returns : goal.returns
returns c = IsField-found c.args.base c.args.text.now c.args.from c.leading_number-number.result c.requires.within c.leading_number-number.ensures c.if-number-eq0.false c.if-end-text.false c.if-text-end-ne45.false
