use Rattle.cache_model.proofs.SizeLemmas.{size_after-contents}
use Rattle.cache_model.proofs.laws.size_counts_the_pairs.Goals as goal

pub returns : goal.returns
returns c = size_after-contents
