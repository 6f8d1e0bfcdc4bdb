use Rattle.cluster_model.proofs.ActsLemmas.{cut_short_keeps, appending_flies, sealing_flies, sealed_flies}
use Rattle.cluster_model.proofs.act_laws.acts_may_be_cut_short.Goals as goal

pub returns-clause-rosters : goal.returns-clause-rosters
returns-clause-rosters c = cut_short_keeps

pub returns-clause-appending : goal.returns-clause-appending
returns-clause-appending c = appending_flies

pub returns-clause-sealing : goal.returns-clause-sealing
returns-clause-sealing c = sealing_flies

pub returns-clause-sealed : goal.returns-clause-sealed
returns-clause-sealed c = sealed_flies
