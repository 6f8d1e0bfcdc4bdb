use Rattle.store_journal.proofs.LoadLemmas.{named_as}
use Rattle.store_journal.proofs.head.id_of.Goals as goal

pub returns : goal.returns
returns c = record { named = named_as c.args.bytes.now c.args.partition c.args.partitions c.requires.none c.in-Ok.header c.in-Ok.ensures.1 c.in-Ok.ensures.2 }
