-- The same further changes decide first, or what is before them does.
use Rattle.cache_model.proofs.SameLemmas.{same_after_more}
use Rattle.cache_model.proofs.same.same_contents_stay_the_same.Goals as goal

pub returns : goal.returns
returns c changes others further same = same_after_more changes others further same
