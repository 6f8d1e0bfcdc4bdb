-- Each result comes exactly with its cause.
use Rattle.store_ident.proofs.ReadingLemmas.{value_exact, form_exact, range_exact}
use Rattle.store_ident.proofs.ident.StoreId.parse.Goals as goal

pub returns-clause-value : goal.returns-clause-value
returns-clause-value c = value_exact c.args.text.now c.read.result c.read.ensures

pub returns-clause-form : goal.returns-clause-form
returns-clause-form c = form_exact c.args.text.now c.read.result c.read.ensures

pub returns-clause-range : goal.returns-clause-range
returns-clause-range c = range_exact c.args.text.now c.read.result c.read.ensures
