use Rattle.std.proofs.Common.{◌≡◌, ◌+◌, ◌*◌, ◌≤◌, [], ◌++◌, length, reverse, unwrap_or}
use Rattle.record_form.specs.GroupText.{group_text}
use Rattle.store_build.proofs.record.group_of.Given as goal

abbrev pub invariant-loop-item : goal.invariant-loop-item
invariant-loop-item l = record {
  joined : unwrap_or l.group [] ++ reverse l.items.items ≡ l.fn.items.items;
  short : length (group_text (unwrap_or l.group [])) ≤ 1 + 66632 * length (unwrap_or l.group []);
}

abbrev pub decreases-loop-item : goal.decreases-loop-item
decreases-loop-item l = length l.items.items
