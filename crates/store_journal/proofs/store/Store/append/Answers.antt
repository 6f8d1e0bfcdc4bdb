use Rattle.std.proofs.Common.{refl}
use Rattle.store_journal.proofs.AppendLemmas.{room, first_write, gate_there, second_write, appended}
use Rattle.store_journal.proofs.store.Store.append.Goals as goal

pub write_synced-requires-clause-offset : goal.write_synced-requires-clause-offset
write_synced-requires-clause-offset g c tells = room _ _ _ _ c.requires.tail.1 _ (c.requires.at_rest.2 _ tells)

pub returns-in_err-write_synced-clause-moments : goal.returns-in_err-write_synced-clause-moments
returns-in_err-write_synced-clause-moments g c header groups group fits is_tail rests =
    first_write _ _ _ header groups group _ fits is_tail rests c.write_synced.ensures.moments

pub write_synced-requires-2-clause-offset : goal.write_synced-requires-2-clause-offset
write_synced-requires-2-clause-offset g c =
    gate_there _ _ _ _ _ _ _ c.requires.tail.1 c.requires.tail.2 c.requires.at_rest.2 c.write_synced.ensures.moments c.in_ok-write_synced.ensures.durable

pub returns-in_err-write_synced-2-clause-moments : goal.returns-in_err-write_synced-2-clause-moments
returns-in_err-write_synced-2-clause-moments g c header groups group fits is_tail rests =
    second_write _ _ _ header groups group _ fits is_tail rests c.write_synced.ensures.moments c.in_ok-write_synced.ensures.durable _ c.write_synced-2.ensures.moments

pub returns-clause-moments : goal.returns-clause-moments
returns-clause-moments g c header groups group fits is_tail rests =
    second_write _ _ _ header groups group _ fits is_tail rests c.write_synced.ensures.moments c.in_ok-write_synced.ensures.durable _ c.write_synced-2.ensures.moments

pub returns-clause-appended : goal.returns-clause-appended
returns-clause-appended g c header groups group fits is_tail rests =
    appended _ _ _ header groups group _ fits is_tail rests c.write_synced.ensures.moments c.in_ok-write_synced.ensures.durable _ c.write_synced-2.ensures.moments c.in_ok-write_synced-2.ensures.durable
    _ refl refl refl
