use Rattle.std.proofs.Common.{◌≡◌, ◌++◌, map}
use Rattle.cache_model.specs.PlainList.{plain_list}
use Rattle.cache_model.proofs.lengths.plain_list.Given as goal

-- the plain list of the caches so far, and that of the caches that are left
abbrev pub invariant-loop-cache : goal.invariant-loop-cache
invariant-loop-cache l = l.list.items ++ plain_list (map (λ entry. (entry.0, entry.1.entries)) l.cache-iterator) ≡ plain_list l.contents
