-- The changing calls of a disk, as its history keeps them.
use Rattle.std.specs.Prelude.{ℕ, List}

-- one call that changed the disk, by its file
pub data DiskCall : Type 0 where
  -- these bytes at this offset
  WriteCall : (file at : ℕ) (bytes : List ℕ) → DiskCall
  -- cut to this length
  CutCall : (file to : ℕ) → DiskCall
  SyncCall : (file : ℕ) → DiskCall
  -- every file holds what the restart took
  RestartCall : DiskCall
