use Rattle.cluster_model.proofs.AgreementLemmas.{survives, found_again, two_pass}
use Rattle.cluster_model.proofs.site_laws.what_was_answered_survives.Goals as goal

pub returns-clause-survives : goal.returns-clause-survives
returns-clause-survives c = survives

pub returns-clause-found : goal.returns-clause-found
returns-clause-found c = found_again

pub returns-clause-two : goal.returns-clause-two
returns-clause-two c = two_pass
