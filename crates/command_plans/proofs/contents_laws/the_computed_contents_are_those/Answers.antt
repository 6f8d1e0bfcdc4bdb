use Rattle.command_plans.proofs.CanonicalLemmas.{contents_are, list_leaves}
use Rattle.command_plans.proofs.contents_laws.the_computed_contents_are_those.Goals as goal

pub returns-clause-contents : goal.returns-clause-contents
returns-clause-contents c = contents_are

pub returns-clause-list : goal.returns-clause-list
returns-clause-list c = list_leaves c.plain_list_leaves_the_contents.ensures
