use Rattle.store_journal.proofs.TextOnce.{text_once}
use Rattle.store_journal.proofs.laws.bytes_are_one_store.Goals as goal

pub returns : goal.returns
returns c = text_once
