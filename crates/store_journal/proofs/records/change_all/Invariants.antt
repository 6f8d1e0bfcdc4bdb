use Rattle.std.specs.Prelude.{◌≡◌, ◌++◌, List}
use Rattle.cache_model.specs.Change.{Change, changes_of}
use Rattle.partition_map.specs.After.{AgreesWith}
use Rattle.store_journal.proofs.records.change_all.Given as goal

-- the changes of what was yielded so far were made
abbrev pub invariant-loop-mutation : goal.invariant-loop-mutation
invariant-loop-mutation l = record {
  whole : l.fn.mutations.items ≡ l.yielded ++ l.mutation-iterator.rest.items;
  made : (changes : List Change) → AgreesWith changes l.fn.contents → AgreesWith (changes ++ changes_of l.yielded) l.contents;
}
