use Rattle.roster_form.proofs.SuccessionLemmas.{first_keeps, begin_keeps, write_keeps, finish_keeps, alone_is_shown, abandon_keeps, fewer_keep, erase_keeps}
use Rattle.roster_form.proofs.laws.each_step_keeps_rosters.Goals as goal

pub returns : goal.returns
returns c = record { first = first_keeps; begun = begin_keeps; written = write_keeps; finished = finish_keeps; shown = alone_is_shown; given_up = abandon_keeps; stopped = fewer_keep; erased = erase_keeps }
