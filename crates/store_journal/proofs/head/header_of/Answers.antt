use Rattle.std.proofs.Common.{take, drop}
use Rattle.store_journal.proofs.LoadLemmas.{header_told}
use Rattle.store_journal.proofs.head.header_of.Goals as goal

pub returns : goal.returns
returns c = header_told (take 40 (drop 1 c.args.bytes.now)) c.in-Ok.text.now c.decode_header.result c.in-Ok.ensures.1.same c.decode_header.ensures.text c.decode_header.ensures.fault_at
