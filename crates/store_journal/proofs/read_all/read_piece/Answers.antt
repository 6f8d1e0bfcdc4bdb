use Rattle.std.proofs.Common.{arith}
use Rattle.store_journal.proofs.ReadLemmas.{piece_told}
use Rattle.store_journal.proofs.read_all.read_piece.Goals as goal

pub returns-clause-told : goal.returns-clause-told
returns-clause-told g c = piece_told _ c.read.result c.args.bytes.now c.read.new.into _ c.args.offset _ _ (omega (arith, c.requires.offset)) c.read.ensures.told c.read.ensures.bytes
