use Rattle.std.proofs.Common.{◌≡◌, ◌++◌}
use Rattle.partition_map.proofs.names.copy_names.Given as goal

-- the names so far and those that are left are all
abbrev pub invariant-loop-name : goal.invariant-loop-name
invariant-loop-name l = l.copied.entries ++ l.name-iterator ≡ l.names.entries
