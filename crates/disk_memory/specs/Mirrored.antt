-- What the plain bytes of a file in memory stand for.
use Rattle.std.specs.Prelude.{◌≡◌, ◌≢◌, ◌⊎◌, ℕ, ◌<◌, ◌≤◌, min, max, List, length, slice_index, slice_index_or, if◌then◌else◌}
use Rattle.disk_memory.specs.DiskCall.{DiskCall}
use Rattle.disk_memory.specs.Replay.{FileState, file_after}
use Rattle.disk_memory.specs.declared.file.FileBytes.{FileBytes}

-- two lists agree outside the range of these offsets
pub record Agrees (from to : ℕ) (xs ys : List ℕ) : Type 0 where
  pub same : (i : ℕ) → (i < from) ⊎ (to ≤ i) → slice_index xs i ≡ slice_index ys i
  pub no_earlier : length xs ≢ length ys → from ≤ min (length xs) (length ys)
  pub no_later : length xs ≢ length ys → max (length xs) (length ys) ≤ to

-- what a read of it gives
abbrev pub visible : FileBytes → List ℕ
visible file = if file.taken then file.left.items else file.seen.items

-- the bytes in memory are those of the file
pub record Mirrors (file : FileBytes) (state : FileState) : Type 0 where
  pub seen : visible file ≡ state.seen
  pub left : file.left.items ≡ state.left
  pub agrees : Agrees file.from file.to file.seen.items file.left.items

-- each file in memory has the bytes that the history gives it
abbrev pub AllMirror : ℕ → List DiskCall → List FileBytes → Type 0
AllMirror pick changes files = (f : ℕ) (d : FileBytes) → f < length files → Mirrors (slice_index_or files f d) (file_after pick changes f)
