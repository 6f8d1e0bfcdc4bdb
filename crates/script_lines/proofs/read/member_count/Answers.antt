-- A map shows its entries in the order of their names.
use Rattle.std.proofs.Common.{◌∙◌}
use Rattle.serde_json.specs.View.{view}
use Rattle.script_lines.proofs.ShapeLemmas.{object_count, object_in_order}
use Rattle.script_lines.proofs.read.member_count.Goals as goal

pub returns-in-Some-clause-count : goal.returns-in-Some-clause-count
returns-in-Some-clause-count c = c.len.ensures.len ∙ object_count (view c.args.value.now) c.in-Some.members.now.entries c.in-Some.ensures

pub returns-in-Some-clause-in_order : goal.returns-in-Some-clause-in_order
returns-in-Some-clause-in_order c = object_in_order (view c.args.value.now) c.in-Some.members.now.entries c.in-Some.ensures c.len.ensures.ordered
