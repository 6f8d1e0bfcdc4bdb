use Rattle.roster_form.proofs.RosterTextLemmas.{roster_once, no_fault}
use Rattle.roster_form.proofs.ShownLemmas.{shows_once}
use Rattle.roster_form.proofs.laws.an_image_shows_one_thing.Goals as goal

pub returns : goal.returns
returns c = record { text = roster_once; whole = no_fault; shown = shows_once }
