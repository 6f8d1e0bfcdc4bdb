use Rattle.std.proofs.Common.{rules}
use Rattle.seal_gate.specs.Seal.{IsSealed}
use Rattle.store_journal.proofs.LoadLemmas.{all_found}
use Rattle.store_journal.proofs.judge.judge.Goals as goal

pub returns : goal.returns
returns c =
    let sealed : IsSealed c.args.bytes.now = search rules in
    let found = c.in_ok-read.ensures.records in
    record { judged = (all_found c.args.bytes.now c.args.partition c.args.partitions c.id_of.result c.in_ok-read.read.contents c.in_ok-read.read.end sealed c.id_of.ensures.named found.0 found.2, found.1) }
