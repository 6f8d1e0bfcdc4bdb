use Rattle.cluster_model.proofs.AgreementLemmas.{begin_agrees, finish_agrees, give_up_agrees}
use Rattle.cluster_model.proofs.site_laws.owners_stay_members.Goals as goal

pub returns-clause-begun : goal.returns-clause-begun
returns-clause-begun c = begin_agrees

pub returns-clause-finished : goal.returns-clause-finished
returns-clause-finished c = finish_agrees

pub returns-clause-given_up : goal.returns-clause-given_up
returns-clause-given_up c = give_up_agrees
