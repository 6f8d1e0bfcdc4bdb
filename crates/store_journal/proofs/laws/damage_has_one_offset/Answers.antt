use Rattle.store_journal.proofs.FaultLemmas.{text_is_whole, damaged_once}
use Rattle.store_journal.proofs.laws.damage_has_one_offset.Goals as goal

pub returns : goal.returns
returns c = record { whole = text_is_whole; one = damaged_once }
