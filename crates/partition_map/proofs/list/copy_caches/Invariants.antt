use Rattle.std.proofs.Common.{◌≡◌, ◌++◌}
use Rattle.cache_model.specs.Shown.{caches_shown}
use Rattle.partition_map.specs.Extents.{caches_in}
use Rattle.partition_map.proofs.list.copy_caches.Given as goal

-- the caches so far and those that are left are all
abbrev pub invariant-loop-name : goal.invariant-loop-name
invariant-loop-name l = caches_shown l.caches ++ caches_in l.name-iterator ≡ caches_in l.extents.entries
