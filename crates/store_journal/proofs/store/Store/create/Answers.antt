use Rattle.std.proofs.Common.{refl, arith, ap, length}
use Rattle.store_journal.proofs.CreatedLemmas.{length-empty_text, empty_is_text}
use Rattle.store_journal.proofs.CreateLemmas.{begun_store, sealed_store, sealed_bytes}
use Rattle.store_journal.proofs.store.Store.create.Goals as goal

pub returns-in_err-lay-clause-moments : goal.returns-in_err-lay-clause-moments
returns-in_err-lay-clause-moments g c = begun_store _ _ _ _ _ c.free.ensures.moments c.lay.ensures.moments

pub seal-requires-clause-long : goal.seal-requires-clause-long
seal-requires-clause-long g c m is = omega (arith, ap length (c.in_ok-lay.ensures.laid m is), length-empty_text 0 c.args.header)

pub returns-in_err-seal-clause-moments : goal.returns-in_err-seal-clause-moments
returns-in_err-seal-clause-moments g c =
    sealed_store _ _ _ _ _ _ c.requires.header c.free.ensures.moments c.lay.ensures.moments c.in_ok-lay.ensures.laid c.seal.ensures.moments

pub returns-clause-created : goal.returns-clause-created
returns-clause-created g c m is = record {
  text = empty_is_text c.args.header _ c.requires.header (sealed_bytes _ _ _ _ c.in_ok-lay.ensures.laid c.seal.ensures.moments c.in_ok-seal.ensures.sealed m is);
  gate = refl;
  named = refl;
}

pub returns-clause-moments : goal.returns-clause-moments
returns-clause-moments g c =
    sealed_store _ _ _ _ _ _ c.requires.header c.free.ensures.moments c.lay.ensures.moments c.in_ok-lay.ensures.laid c.seal.ensures.moments
