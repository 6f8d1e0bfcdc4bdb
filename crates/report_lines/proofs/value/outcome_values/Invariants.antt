use Rattle.std.proofs.Common.{◌≡◌, map, take}
use Rattle.serde_json.specs.View.{view}
use Rattle.report_lines.specs.Line.{outcome_data}
use Rattle.report_lines.proofs.value.outcome_values.Given as goal

abbrev pub invariant-loop-outcome : goal.invariant-loop-outcome
invariant-loop-outcome l = map view l.values.items ≡ map outcome_data (take l.outcome-index l.outcome-items)
