use Rattle.std.proofs.Common.{◌≡◌, map, take, ap, ◌∙◌}
use Rattle.std.proofs.lemmas.List.{take_all}
use Rattle.serde_json.specs.View.{view, items_of}
use Rattle.report_lines.specs.Line.{dump_data}
use Rattle.report_lines.proofs.Items.{items_of-dumps}
use Rattle.report_lines.proofs.value.dump_values.Goals as goal

pub returns : goal.returns
returns c =
    let l = c.loop-dump in
    let dumps = c.as_slice-dump-items.result.now in
    let same : map view l.values.items ≡ map dump_data (take l.dump-index dumps) = l.invariant in
    ap items_of same ∙ rw (take_all l.dump-index dumps c.loop-dump-test.false, c.as_slice-dump-items.ensures) (items_of-dumps c.args.dumps.now)
