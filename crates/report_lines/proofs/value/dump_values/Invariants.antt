use Rattle.std.proofs.Common.{◌≡◌, map, take}
use Rattle.serde_json.specs.View.{view}
use Rattle.report_lines.specs.Line.{dump_data}
use Rattle.report_lines.proofs.value.dump_values.Given as goal

abbrev pub invariant-loop-dump : goal.invariant-loop-dump
invariant-loop-dump l = map view l.values.items ≡ map dump_data (take l.dump-index l.dump-items)
