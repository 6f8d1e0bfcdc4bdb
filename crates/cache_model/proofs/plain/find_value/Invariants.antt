use Rattle.std.proofs.Common.{◌≡◌, length}
use Rattle.cache_model.specs.Change.{changes_of}
use Rattle.cache_model.specs.Contents.{value_after}
use Rattle.cache_model.proofs.plain.find_value.Given as goal

-- no mutation after the rest writes the key
abbrev pub invariant-loop-newest : goal.invariant-loop-newest
invariant-loop-newest l = value_after (changes_of l.mutations) l.cache l.key ≡ value_after (changes_of l.rest) l.cache l.key

abbrev pub decreases-loop-newest : goal.decreases-loop-newest
decreases-loop-newest l = length l.rest
