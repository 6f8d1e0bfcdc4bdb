use Rattle.std.proofs.Common.{arith}
use Rattle.record_form.specs.GroupFault.{group_fault}
use Rattle.store_journal.proofs.RecordLemmas.{refused, refused_within, refused_at}
use Rattle.store_journal.proofs.records.decoded.Goals as goal

pub damage-requires : goal.damage-requires
damage-requires c =
    let is = refused (group_fault c.args.payload.now) c.decode_group.result c.in-Err.fault c.decode_group.ensures.fault_at c.in-Err.is in
    omega (arith, c.requires.offset, refused_within c.args.payload.now c.in-Err.fault is)

pub returns-in-Err : goal.returns-in-Err
returns-in-Err c =
    let is = refused (group_fault c.args.payload.now) c.decode_group.result c.in-Err.fault c.decode_group.ensures.fault_at c.in-Err.is in
    record { group = refused_at c.args.payload.now c.in-Err.fault c.args.offset c.damage.result is c.damage.ensures.at c.damage.ensures.no_memory }
