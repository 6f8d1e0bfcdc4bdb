use Rattle.std.proofs.Common.{◌≡◌, ◌-◌}
use Rattle.byte_fields.specs.Reading.{rest_of}
use Rattle.record_form.specs.Form.{read_many}
use Rattle.record_form.specs.Reads.{outcome}
use Rattle.record_form.specs.GroupText.{pair_form}
use Rattle.record_form.proofs.check_group.check_each_pair.Given as goal

-- what is left to read comes to the same end as all did
abbrev pub invariant-loop : goal.invariant-loop
invariant-loop l = record {
  so_far : outcome l.fn.cursor.text (read_many pair_form.read (l.count - l.counter) (rest_of l.cursor)) ≡ outcome l.fn.cursor.text (read_many pair_form.read l.count (rest_of l.fn.cursor));
  same_text : l.cursor.text ≡ l.fn.cursor.text;
}
