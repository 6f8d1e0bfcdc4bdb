use Rattle.std.proofs.Common.{◌≡◌, ◌+◌, length}
use Rattle.cache_model.specs.PlainList.{plain_list}
use Rattle.partition_map.specs.Extents.{caches_in}
use Rattle.partition_map.proofs.count.count_extents.Given as goal

-- the items so far and those of what is left are all
abbrev pub invariant-loop-extent : goal.invariant-loop-extent
invariant-loop-extent l = l.count + length (plain_list (caches_in l.extent-iterator)) ≡ length (plain_list (caches_in l.fn.extents))
