use Rattle.cache_model.proofs.GrowthLemmas.{live-growth}
use Rattle.cache_model.proofs.laws.live_grows_at_most.Goals as goal

pub returns : goal.returns
returns c = live-growth
