use Rattle.std.proofs.Common.{◌≡◌, ℕ, ◌<◌, [], length, get_or}
use Rattle.disk_memory.specs.declared.file.FileBytes.{FileBytes}
use Rattle.disk_memory.specs.Replay.{clean}
use Rattle.disk_memory.specs.Mirrored.{Mirrors}
use Rattle.disk_memory.proofs.medium.empty_files.Given as goal

abbrev pub invariant-loop : goal.invariant-loop
invariant-loop l = record {
  count : length l.files.items ≡ l.counter;
  empty : (f : ℕ) (d : FileBytes) → f < length l.files.items → Mirrors (get_or l.files.items f d) (clean []);
}
