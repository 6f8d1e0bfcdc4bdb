use Rattle.roster_form.proofs.ShownLemmas.{writing_begins, writing_shows, written_shows}
use Rattle.roster_form.proofs.laws.a_write_shows_old_or_new.Goals as goal

pub returns : goal.returns
returns c = record { begun = writing_begins; shows = writing_shows; written = written_shows }
