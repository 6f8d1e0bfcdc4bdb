use Rattle.std.proofs.Common.{take}
use Rattle.cache_model.specs.Change.{changes_of}
use Rattle.cache_model.specs.Contents.{AreContentsAfter}
use Rattle.cache_model.proofs.plain.collect_contents.Given as goal

-- the contents after the mutations so far
abbrev pub invariant-loop-mutation : goal.invariant-loop-mutation
invariant-loop-mutation l = AreContentsAfter (changes_of (take l.mutation-index l.mutations)) l.contents
