use Rattle.std.proofs.Common.{◌≡◌, ◌++◌}
use Rattle.cache_model.specs.PlainList.{puts_of}
use Rattle.cache_model.proofs.lengths.add_cache.Given as goal

-- the puts so far, and those of the pairs that are left
abbrev pub invariant-loop-key : goal.invariant-loop-key
invariant-loop-key l = l.list.items ++ puts_of l.cache l.key-iterator ≡ l.fn.list.items ++ puts_of l.cache l.pairs.entries
