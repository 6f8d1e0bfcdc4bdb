use Rattle.std.proofs.Common.{◌≡◌, ◌++◌, ◌≤◌, take, length}
use Rattle.cache_model.specs.PlainList.{plain_list}
use Rattle.partition_map.specs.Extents.{caches_in}
use Rattle.partition_map.proofs.list.add_extents.Given as goal

-- the items so far and those of what is left stop at the same items as all
abbrev pub invariant-loop-name : goal.invariant-loop-name
invariant-loop-name l = (take l.most (l.items.items ++ plain_list (caches_in l.name-iterator)) ≡ take l.most (l.fn.items.items ++ plain_list (caches_in l.initial.name-iterator))) × (length l.items.items ≤ l.most)
