use Rattle.std.proofs.Common.{◌≡◌, ℕ, ◌<◌, ◌≤◌, get_or, length}
use Rattle.disk_memory.specs.declared.file.FileBytes.{FileBytes}
use Rattle.disk_memory.specs.Replay.{FileState, clean}
use Rattle.disk_memory.specs.Mirrored.{Mirrors}
use Rattle.disk_memory.proofs.medium.restart_all.Given as goal

abbrev pub invariant-loop-i : goal.invariant-loop-i
invariant-loop-i l = record {
  count : length l.files.items ≡ length l.initial.files.items;
  restarted : (f : ℕ) (d : FileBytes) (state : FileState) → f < l.i → Mirrors (get_or l.initial.files.items f d) state → Mirrors (get_or l.files.items f d) (clean state.left);
  others : (f : ℕ) (d : FileBytes) → l.i ≤ f → get_or l.files.items f d ≡ get_or l.initial.files.items f d;
}
