use Rattle.std.proofs.Common.{ap, ◌∙◌}
use Rattle.std.specs.Option.{option_copied}
use Rattle.roster_book.specs.declared.found.Found.{Found}
use Rattle.roster_form.specs.Choice.{later_of, chosen_roster}
use Rattle.quorum.specs.Judged.{sightings_of}
use Rattle.quorum.proofs.CheckLemmas.{chosen_more}
use Rattle.quorum.proofs.judge.chosen.Goals as goal

pub loop-each-preserved : goal.loop-each-preserved
loop-each-preserved c = λ hosts alike.
    chosen_more c.args.found.now hosts c.loop-each.each-index c.each-item.result (option_copied c.loop-each.chosen) (option_copied c.later-chosen.result) (chosen_roster (sightings_of c.args.found.now hosts)) alike c.loop-each-test.true
    (c.later-chosen.ensures ∙ ap (later_of (option_copied c.loop-each.chosen)) (c.as_ref.ensures.value ∙ ap (λ (f : Found). f.roster) c.each-item.is))
    (c.loop-each.invariant hosts alike)
