use Rattle.std.proofs.Common.{◌≡◌, map, take, ap, ◌∙◌}
use Rattle.std.proofs.lemmas.List.{take_all}
use Rattle.serde_json.specs.View.{view, items_of}
use Rattle.report_lines.specs.Line.{outcome_data}
use Rattle.report_lines.proofs.Items.{items_of-outcomes}
use Rattle.report_lines.proofs.value.outcome_values.Goals as goal

pub returns : goal.returns
returns c =
    let l = c.loop-outcome in
    let outcomes = c.as_slice-outcome-items.result.now in
    let same : map view l.values.items ≡ map outcome_data (take l.outcome-index outcomes) = l.invariant in
    ap items_of same ∙ rw (take_all l.outcome-index outcomes c.loop-outcome-test.false, c.as_slice-outcome-items.ensures) (items_of-outcomes c.args.outcomes.now)
