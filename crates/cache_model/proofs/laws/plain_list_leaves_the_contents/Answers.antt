use Rattle.cache_model.proofs.PlainListLemmas.{AreContentsAfter-plain_list}
use Rattle.cache_model.proofs.laws.plain_list_leaves_the_contents.Goals as goal

pub returns : goal.returns
returns c = AreContentsAfter-plain_list
