use Rattle.cache_model.proofs.ContentsLemmas.{value_after-put, value_after-put_elsewhere}
use Rattle.cache_model.proofs.laws.put_is_read_back.Goals as goal

pub returns-clause-read_back : goal.returns-clause-read_back
returns-clause-read_back c = value_after-put

pub returns-clause-others_stay : goal.returns-clause-others_stay
returns-clause-others_stay c = value_after-put_elsewhere
