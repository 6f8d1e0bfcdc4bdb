-- The pairs so far are those of the items so far.
use Rattle.std.specs.Prelude.{◌≡◌, ◌++◌, All}
use Rattle.serde_json.specs.View.{items_view}
use Rattle.cache_key.specs.Names.{IsPair}
use Rattle.script_lines.specs.Form.{pair_items}
use Rattle.script_lines.proofs.pairs.listed_pairs.Given as goal

abbrev pub invariant-loop-item : goal.invariant-loop-item
invariant-loop-item l = record { whole : l.fn.items.items ≡ l.yielded ++ l.item-iterator.rest.items; are : items_view l.yielded ≡ pair_items l.pairs; limits : All IsPair l.pairs }
