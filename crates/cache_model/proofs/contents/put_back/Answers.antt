-- The caches after an insertion.
use Rattle.cache_model.proofs.ShownLemmas.{IsReplaced-insert}
use Rattle.cache_model.proofs.contents.put_back.Goals as goal

pub returns : goal.returns
returns c = IsReplaced-insert c.args.cache.now c.args.pairs c.args.caches.now c.insert.new.self c.requires (rw (← c.in_ok-copy.ensures) c.in_ok-insert.ensures.entries) (rw (← c.in_ok-copy.ensures) c.in_ok-insert.ensures.updates) c.insert.ensures.ordered
