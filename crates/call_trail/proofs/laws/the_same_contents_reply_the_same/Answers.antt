use Rattle.call_trail.proofs.TrailLemmas.{reply_same, changes_more}
use Rattle.call_trail.proofs.laws.the_same_contents_reply_the_same.Goals as goal

pub returns-clause-reply : goal.returns-clause-reply
returns-clause-reply c = reply_same

pub returns-clause-more : goal.returns-clause-more
returns-clause-more c = changes_more
