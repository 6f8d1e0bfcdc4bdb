use Rattle.std.proofs.Common.{◌≡◌, length}
use Rattle.cache_model.specs.Change.{changes_of}
use Rattle.cache_model.specs.Contents.{is_present_after}
use Rattle.cache_model.proofs.plain.is_present.Given as goal

-- no mutation after the rest rules the cache
abbrev pub invariant-loop-newest : goal.invariant-loop-newest
invariant-loop-newest l = is_present_after (changes_of l.mutations) l.cache ≡ is_present_after (changes_of l.rest) l.cache

abbrev pub decreases-loop-newest : goal.decreases-loop-newest
decreases-loop-newest l = length l.rest
