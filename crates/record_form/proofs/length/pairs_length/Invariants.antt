use Rattle.std.proofs.Common.{◌≡◌, ◌≤◌, ◌*◌, length, take}
use Rattle.std.specs.List.{flat_map}
use Rattle.record_form.specs.GroupText.{pair_form}
use Rattle.record_form.proofs.length.pairs_length.Given as goal

abbrev pub invariant-loop-key : goal.invariant-loop-key
invariant-loop-key l = record {
  so_far : l.sum ≡ length (flat_map pair_form.text (take l.key-index l.pairs));
  most : l.sum ≤ 66566 * l.key-index;
}
