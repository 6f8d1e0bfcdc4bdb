use Rattle.std.proofs.Common.{◌≤◌, ◌-◌, length}
use Rattle.store_journal.specs.ContentsOf.{HasContentsOf}
use Rattle.store_journal.specs.Loading.{AreBefore}
use Rattle.store_journal.proofs.records.records.Given as goal

-- the contents after the records so far
abbrev pub invariant-loop-offset : goal.invariant-loop-offset
invariant-loop-offset l = record {
  within : l.offset ≤ length l.bytes;
  so_far : HasContentsOf (AreBefore l.bytes l.offset) l.contents;
}

abbrev pub decreases-loop-offset : goal.decreases-loop-offset
decreases-loop-offset l = length l.bytes - l.offset
