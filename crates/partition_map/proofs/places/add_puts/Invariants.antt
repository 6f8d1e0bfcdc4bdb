use Rattle.std.proofs.Common.{◌≡◌, ◌++◌, ◌≤◌, take, length}
use Rattle.cache_model.specs.PlainList.{puts_of}
use Rattle.partition_map.specs.Place.{pairs_shown}
use Rattle.partition_map.proofs.places.add_puts.Given as goal

-- the items so far and the puts of what is left stop at the same items as all
abbrev pub invariant-loop-key : goal.invariant-loop-key
invariant-loop-key l = (take l.most (l.items.items ++ puts_of l.name (pairs_shown l.key-iterator)) ≡ take l.most (l.fn.items.items ++ puts_of l.name (pairs_shown l.initial.key-iterator))) × (length l.items.items ≤ l.most)
