use Rattle.store_journal.proofs.StandsLemmas.{stands_once}
use Rattle.store_journal.proofs.laws.files_have_one_contents.Goals as goal

pub returns : goal.returns
returns c = stands_once
