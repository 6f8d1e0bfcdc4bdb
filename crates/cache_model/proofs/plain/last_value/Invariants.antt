use Rattle.std.proofs.Common.{◌≡◌, length, reverse}
use Rattle.std.specs.Map.{lookup}
use Rattle.cache_model.specs.Caches.{same}
use Rattle.cache_model.proofs.plain.last_value.Given as goal

-- no pair after the rest has the key
abbrev pub invariant-loop-last : goal.invariant-loop-last
invariant-loop-last l = lookup (same l.key) (reverse l.pairs) ≡ lookup (same l.key) (reverse l.rest)

abbrev pub decreases-loop-last : goal.decreases-loop-last
decreases-loop-last l = length l.rest
