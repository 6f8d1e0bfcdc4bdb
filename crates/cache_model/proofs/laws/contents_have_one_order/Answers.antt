use Rattle.cache_model.proofs.ContentsLemmas.{same_contents, SameContents-from_one}
use Rattle.cache_model.proofs.laws.contents_have_one_order.Goals as goal

pub returns-clause-one : goal.returns-clause-one
returns-clause-one c = same_contents

pub returns-clause-same : goal.returns-clause-same
returns-clause-same c = SameContents-from_one
