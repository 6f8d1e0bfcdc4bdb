use Rattle.std.proofs.Common.{◌≡◌, ◌-◌}
use Rattle.byte_fields.specs.Reading.{rest_of}
use Rattle.record_form.specs.Form.{read_many}
use Rattle.record_form.specs.GroupText.{mutation_form}
use Rattle.record_form.proofs.ReadsLemmas.{with_earlier}
use Rattle.record_form.proofs.read_group.mutations.Given as goal

abbrev pub invariant-loop : goal.invariant-loop
invariant-loop l = record {
  so_far : with_earlier l.mutations.items (read_many mutation_form.read (l.count - l.counter) (rest_of l.cursor)) ≡ read_many mutation_form.read l.count (rest_of l.fn.cursor);
  same_text : l.cursor.text ≡ l.fn.cursor.text;
}
